use Rattle.std.proofs.Common.{rules}
use Rattle.model.specs.Pair.{vt_site}
use Rattle.fills.proofs.fill_vt_site_data.Goals as goal

pub returns : goal.returns
unfolding vt_site
returns c = c.fill_rows.ensures _ (search rules)
