use Rattle.cuts.specs.Attempts.{prepared_stored}
use Rattle.cuts.proofs.cut_prepared.Goals as goal

pub returns-clause-value : goal.returns-clause-value
returns-clause-value c = prepared_stored _ _ _ _ c.cut_pair.ensures.unchanged _ _ _ c.in_ok-cut.ensures.cut _ c.store_cut.ensures.value _ c.weight_site.ensures
