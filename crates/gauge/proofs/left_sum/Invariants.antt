-- The invariant: acc is the sum of the first d products.
use mathlib.Core.Path.{◌≡◌}
use Prim.Native.Nat.{◌≤◌, ◌+◌}
use Rattle.complex.specs.Complex.{mul_c, conj_c, zero_c}
use Rattle.complex.specs.Loops.{sum_c}
use Rattle.complex.specs.Numbers.{at}
use Rattle.gauge.proofs.left_sum.Given as goal

abbrev pub invariant-loop-d : goal.invariant-loop-d
invariant-loop-d l = (l.d ≤ l.n) × (l.acc ≡ sum_c l.d (λ d. mul_c (at l.prev (l.line + d)) (conj_c (at l.w (l.from + (l.row + d))))) zero_c)
