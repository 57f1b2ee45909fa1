use Rattle.std.proofs.Common.{rules}
use Rattle.model.specs.Pair.{scaled_site}
use Rattle.fills.proofs.fill_scaled_u_site_data.Goals as goal

pub returns : goal.returns
unfolding scaled_site
returns c = c.fill_rows.ensures _ (search rules)
