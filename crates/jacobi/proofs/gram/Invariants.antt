use mathlib.Core.Path.{◌≡◌}
use Prim.Native.Nat.{◌+◌, ◌*◌}
use Rattle.complex.specs.Complex.{mul_c, conj_c, zero_c}
use Rattle.complex.specs.Loops.{sum_c}
use Rattle.complex.specs.Numbers.{at}
use Rattle.model.specs.Columns.{squares}
use Rattle.jacobi.proofs.gram.Given as goal

abbrev pub invariant-loop-r : goal.invariant-loop-r
invariant-loop-r l = (l.pp ≡ squares l.w (l.p * l.high) l.r) × (l.qq ≡ squares l.w (l.q * l.high) l.r) × (l.pq ≡ sum_c l.r (λ k. mul_c (conj_c (at l.w (l.p * l.high + k))) (at l.w (l.q * l.high + k))) zero_c)
