use mathlib.Core.Path.{◌≡◌}
use Prim.Native.Nat.{◌+◌}
use Rattle.complex.specs.Complex.{scale_c}
use Rattle.complex.specs.Loops.{each}
use Rattle.complex.specs.Numbers.{at, store}
use Rattle.columns.proofs.scale_to.Given as goal

abbrev pub invariant-loop-k : goal.invariant-loop-k
invariant-loop-k l = l.w ≡ each l.k (λ k ys. store ys (l.to + k) (scale_c (at ys (l.from + k)) l.by)) l.initial.w
