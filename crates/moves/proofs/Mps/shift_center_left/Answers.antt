use mathlib.Core.Path.{refl}
use Rattle.moves.specs.Ready.{stepped_left, left_bonds, left_stays, ready_after}
use Rattle.moves.proofs.Mps.shift_center_left.Goals as goal

pub invariant_of-self-2 : goal.invariant_of-self-2
invariant_of-self-2 c = let s = c.step_left-chi in
    let e = stepped_left _ _ _ _ _ _ _ c.set_bond.ensures (left_bonds c.args.self.now.ready _ c.requires _ c.pair_bonds-bonds.ensures.value) s.ensures.value s.ensures.store_after in
    record { ready = ready_after c.args.self.now.ready (left_stays c.args.self.now.ready s.auto.work _ c.requires e) }

pub returns : goal.returns
returns c = let s = c.step_left-chi in
    let e = stepped_left _ _ _ _ _ _ _ c.set_bond.ensures (left_bonds c.args.self.now.ready _ c.requires _ c.pair_bonds-bonds.ensures.value) s.ensures.value s.ensures.store_after in
    record { value = e; place = record { stays = left_stays c.args.self.now.ready s.auto.work _ c.requires e; chain_lent = refl; store_lent = refl; work_lent = refl } }
