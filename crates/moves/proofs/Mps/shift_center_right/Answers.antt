use mathlib.Core.Path.{refl}
use Rattle.moves.specs.Ready.{stepped_right, right_stays, ready_after}
use Rattle.moves.proofs.Mps.shift_center_right.Goals as goal

pub invariant_of-self-2 : goal.invariant_of-self-2
invariant_of-self-2 c = let s = c.step_right-chi in
    let e = stepped_right _ _ _ _ _ _ _ c.set_bond.ensures c.pair_bonds-bonds.ensures.value s.ensures.value s.ensures.store_after in
    record { ready = ready_after c.args.self.now.ready (right_stays c.args.self.now.ready s.auto.work _ c.requires e) }

pub returns : goal.returns
returns c = let s = c.step_right-chi in
    let e = stepped_right _ _ _ _ _ _ _ c.set_bond.ensures c.pair_bonds-bonds.ensures.value s.ensures.value s.ensures.store_after in
    record { value = e; place = record { stays = right_stays c.args.self.now.ready s.auto.work _ c.requires e; chain_lent = refl; store_lent = refl; work_lent = refl } }
