use Prim.Native.Nat.{◌+◌, ◌-◌}
use mathlib.Core.Path.{◌≡◌}
use Rattle.moves.specs.Mps.{state, Same}
use Rattle.routing.specs.Runs.{swaps_down}
use Rattle.routing.proofs.route_swaps.Given as goal

abbrev pub invariant-loop-at : goal.invariant-loop-at
invariant-loop-at l = record { place : Same l.initial.mps l.mps; value : swaps_down l.near (l.at - (l.near + 1)) (state l.mps) ≡ swaps_down l.near (l.initial.at - (l.near + 1)) (state l.initial.mps) }
