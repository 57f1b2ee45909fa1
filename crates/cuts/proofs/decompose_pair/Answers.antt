use Rattle.moves.specs.Ready.{pair_ready}
use Rattle.cuts.specs.Pair.{work_enough}
use Rattle.cuts.proofs.decompose_pair.Goals as goal

pub decompose-requires-clause-work_bound : goal.decompose-requires-clause-work_bound
decompose-requires-clause-work_bound c = work_enough _ _ _ _ _ _ _ (pair_ready c.args.mps.now.ready _ c.requires _ c.pair_bonds.ensures.value)
