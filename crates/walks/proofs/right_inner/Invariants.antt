-- The invariant: acc has the first b terms.
use mathlib.Core.Path.{◌≡◌}
use Prim.Native.Nat.{◌+◌, ◌*◌}
use Rattle.complex.specs.Complex.{mul_c, zero_c}
use Rattle.complex.specs.Loops.{sum_c}
use Rattle.complex.specs.Numbers.{at}
use Rattle.walks.proofs.right_inner.Given as goal

abbrev pub invariant-loop-b : goal.invariant-loop-b
invariant-loop-b l = l.acc ≡ sum_c l.b (λ b. mul_c (at l.site.numbers.now (l.r * l.site.right + b)) (at l.env (b * l.site.right + l.b1))) zero_c
