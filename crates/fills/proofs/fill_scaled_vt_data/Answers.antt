use Rattle.std.proofs.Common.{rules}
use Rattle.model.specs.Pair.{scaled_vt_site}
use Rattle.fills.proofs.fill_scaled_vt_data.Goals as goal

pub returns : goal.returns
unfolding scaled_vt_site
returns c = c.fill_rows.ensures _ (search rules)
