-- The invariant: the first r rows are rotated.
use mathlib.Core.Path.{◌≡◌}
use Prim.Native.Nat.{◌+◌, ◌*◌}
use Rattle.complex.specs.Loops.{each}
use Rattle.model.specs.Jacobi.{rotated_pair}
use Rattle.jacobi.proofs.rotate.Given as goal

abbrev pub invariant-loop-r : goal.invariant-loop-r
invariant-loop-r l = l.w ≡ each l.r (λ r. rotated_pair l.fn.t (l.base + (l.p * l.m + r)) (l.base + (l.q * l.m + r))) l.initial.w
