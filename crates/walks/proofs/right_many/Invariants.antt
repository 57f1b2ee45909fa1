-- The invariant: acc has the first c terms.
use mathlib.Core.Path.{◌≡◌}
use Prim.Native.Nat.{◌+◌, ◌*◌}
use Rattle.complex.specs.Complex.{mul_c, conj_c, zero_c}
use Rattle.complex.specs.Loops.{sum_c}
use Rattle.complex.specs.Numbers.{at}
use Rattle.walks.proofs.right_many.Given as goal

abbrev pub invariant-loop-c : goal.invariant-loop-c
invariant-loop-c l = l.acc ≡ sum_c l.c (λ c. mul_c (at l.front (l.mid + (l.a * l.wide + c))) (conj_c (at l.site.numbers.now (l.a1 * l.wide + c)))) zero_c
