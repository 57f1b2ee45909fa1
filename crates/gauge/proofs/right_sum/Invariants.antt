-- The invariant: acc is the sum of the first d products.
use mathlib.Core.Path.{◌≡◌}
use Prim.Native.Nat.{◌≤◌, ◌+◌, ◌*◌}
use Rattle.complex.specs.Complex.{mul_c, zero_c}
use Rattle.complex.specs.Loops.{sum_c}
use Rattle.complex.specs.Numbers.{at}
use Rattle.gauge.proofs.right_sum.Given as goal

abbrev pub invariant-loop-d : goal.invariant-loop-d
invariant-loop-d l = (l.d ≤ l.n) × (l.acc ≡ sum_c l.d (λ d. mul_c (at l.w (l.from + (l.row + d))) (at l.next (d * l.step + l.c))) zero_c)
