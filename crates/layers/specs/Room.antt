-- Where the lengths of a layer's slices agree, there is a gate for each pair.
use Rattle.std.specs.Prelude.{ℕ, ◌*◌, ◌/◌, ◌≤◌, ◌≡◌, true}
use Rattle.std.proofs.Common.{arith}
use Rattle.std.proofs.lemmas.Bool.Decides.{nat_tests}
use Rattle.model.specs.Calls.{lengths_agree}

pub gates_room : (bytes numbers : ℕ) → lengths_agree bytes numbers ≡ true → 32 * (bytes / 2) ≤ numbers
unfolding lengths_agree
gates_room bytes numbers e = grind (arith, nat_tests)
