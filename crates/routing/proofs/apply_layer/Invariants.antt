use mathlib.Core.Path.{◌≡◌}
use Rattle.model.specs.Layers.{layer_of}
use Rattle.model.specs.Routing.{layer_run}
use Rattle.moves.specs.Mps.{state, Same}
use Rattle.routing.specs.Pairs.{rest}
use Rattle.routing.proofs.apply_layer.Given as goal

abbrev pub invariant-loop-p : goal.invariant-loop-p
invariant-loop-p l = record { place : Same l.initial.mps l.mps; value : rest l.pairs l.gates l.p (state l.mps) ≡ layer_run 0 (layer_of l.pairs l.gates) (state l.initial.mps) }
