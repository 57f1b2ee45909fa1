use Rattle.std.proofs.Common.{rules}
use Rattle.model.specs.Pair.{isometry_site}
use Rattle.fills.proofs.fill_isometry_site_data.Goals as goal

pub returns : goal.returns
unfolding isometry_site
returns c = c.fill_rows.ensures _ (search rules)
