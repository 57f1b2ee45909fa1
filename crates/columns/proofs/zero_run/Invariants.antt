use mathlib.Core.Path.{◌≡◌}
use Prim.Native.Nat.{◌+◌}
use Rattle.complex.specs.Complex.{zero_c}
use Rattle.complex.specs.Loops.{each}
use Rattle.complex.specs.Numbers.{store}
use Rattle.columns.proofs.zero_run.Given as goal

abbrev pub invariant-loop-k : goal.invariant-loop-k
invariant-loop-k l = l.w ≡ each l.k (λ k ys. store ys (l.base + k) zero_c) l.initial.w
