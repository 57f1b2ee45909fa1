-- The factors that are written are those of the site, and the copy serves for the neighbour.
use Rattle.moves.specs.Steps.{right_stepped}
use Rattle.moves.proofs.step_right.Goals as goal

pub returns-clause-store_after : goal.returns-clause-store_after
returns-clause-store_after c = let a = c.args in let e = c.pair_slots-at.ensures in let f = c.factor_right-chi in let k = c.keep_copy in
    (right_stepped a.d a.k a.bonds.left a.bonds.mid a.bonds.right f.result c.factored_room-q.result f.new.work k.new.work a.store.now c.write_right.new.store k.ensures.work_unchanged c.factored_room-q.ensures f.ensures.result_nonzero.1 (rw (e.left, e.left_end) at f.ensures.work_after) (rw (e.right, e.right_end) at k.ensures.work_after) c.write_right.ensures).1.0
