-- The environment at the front of the work slice is the walk's, site by site.
use Rattle.environments.specs.Walk.{LeftAt}
use Rattle.environments.proofs.compute_left_env.Given as goal

abbrev pub invariant-loop-k : goal.invariant-loop-k
invariant-loop-k l = LeftAt l.chain l.store l.site l.from l.k l.dim l.work
