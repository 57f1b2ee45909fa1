use mathlib.Core.Path.{◌≡◌}
use Prim.Native.Nat.{◌+◌, ◌*◌}
use Rattle.complex.specs.Complex.{real, one_f}
use Rattle.complex.specs.Loops.{each}
use Rattle.complex.specs.Numbers.{store}
use Rattle.svd.proofs.set_diagonal.Given as goal

abbrev pub invariant-loop-i : goal.invariant-loop-i
invariant-loop-i l = l.w ≡ each l.i (λ i ys. store ys (l.base + (i * l.n + i)) (real one_f)) l.initial.w
