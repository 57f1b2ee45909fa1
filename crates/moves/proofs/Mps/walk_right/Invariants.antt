-- The invariant: the steps that are left, from where the walk is, end where all of them end.
use mathlib.Core.Path.{◌≡◌}
use Prim.Native.Nat.{◌-◌}
use Rattle.model.specs.Moves.{walk_right}
use Rattle.moves.specs.Mps.{state, Same}
use Rattle.moves.proofs.Mps.walk_right.Given as goal

abbrev pub invariant-loop-at : goal.invariant-loop-at
invariant-loop-at l = record { place : Same l.initial.self l.self; value : walk_right (l.to - l.at) l.at (state l.self) ≡ walk_right (l.to - l.from) l.from (state l.initial.self) }
