use Rattle.cuts.specs.Pair.{cut_ready}
use Rattle.truncation.specs.Shares.{shares_of}
use Rattle.cuts.proofs.store_cut.Goals as goal

pub invariant_of-mps-2 : goal.invariant_of-mps-2
invariant_of-mps-2 c = let p = c.requires in
    record { ready = cut_ready _ _ _ _ _ _ _ (shares_of _) c.args.mps.now.ready p.k_bound p.cut_value.least p.cut_value.most c.record_cut.ensures c.store_pair.auto.store }
