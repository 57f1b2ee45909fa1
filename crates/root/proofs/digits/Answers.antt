use Rattle.root.proofs.Laws.Digits.{digit, turn}
use Rattle.root.proofs.digits.Goals as goal

pub loop-preserved : goal.loop-preserved
loop-preserved c = turn c.loop.invariant (digit _ _)
