use Rattle.std.proofs.Common.{◌∙◌, sym}
use Rattle.chain.specs.Ends.{start_fits}
use Rattle.chain.proofs.start.Goals as goal

pub fresh_store-requires : goal.fresh_store-requires
fresh_store-requires c = start_fits _ _ _ _ _ _ _ c.fresh_chain-fresh.ensures (sym c.in-Ok.is ∙ c.start_refusal.ensures)
