-- The invariant: t has the first g terms of each sum.
use mathlib.Core.Path.{◌≡◌}
use Rattle.pair.specs.Blocks.{dots_of}
use Rattle.pair.proofs.dots.Given as goal

abbrev pub invariant-loop-g : goal.invariant-loop-g
invariant-loop-g l = l.t ≡ dots_of l.left l.l0 l.l1 l.right l.step l.r0 l.r1 l.g
