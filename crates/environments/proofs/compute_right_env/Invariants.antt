-- The environment at the front of the work slice is the walk's, site by site.
use Rattle.environments.specs.Walk.{RightAt}
use Rattle.environments.proofs.compute_right_env.Given as goal

abbrev pub invariant-loop-k : goal.invariant-loop-k
invariant-loop-k l = RightAt l.chain l.store l.site l.to l.k l.dim l.work
