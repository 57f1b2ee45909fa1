use mathlib.Core.Path.{◌≡◌}
use Prim.Native.Nat.{◌+◌}
use Rattle.complex.specs.Complex.{sub_c, mul_c}
use Rattle.complex.specs.Loops.{each}
use Rattle.complex.specs.Numbers.{at, store}
use Rattle.qr.proofs.take_away.Given as goal

abbrev pub invariant-loop-k : goal.invariant-loop-k
invariant-loop-k l = l.w ≡ each l.k (λ k ys. store ys (l.to + k) (sub_c (at ys (l.to + k)) (mul_c l.d (at ys (l.from + k))))) l.initial.w
