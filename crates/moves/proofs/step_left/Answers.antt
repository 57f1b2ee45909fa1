-- The factors that are written are those of the site, and the copy serves for the neighbour.
use Rattle.moves.specs.Steps.{left_stepped}
use Rattle.moves.proofs.step_left.Goals as goal

pub returns-clause-store_after : goal.returns-clause-store_after
returns-clause-store_after c = let a = c.args in let e = c.pair_slots-at.ensures in let f = c.factor_left-chi in let k = c.keep_copy in
    (left_stepped a.d a.k a.bonds.left a.bonds.mid a.bonds.right f.result c.factored_room-q.result f.new.work k.new.work a.store.now c.write_left.new.store k.ensures.work_unchanged c.factored_room-q.ensures f.ensures.result_nonzero.1 (rw (e.right, e.right_end) at f.ensures.work_after) (rw (e.left, e.left_end) at k.ensures.work_after) c.write_left.ensures).1.0
