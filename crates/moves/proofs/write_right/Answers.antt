-- The right site is within its slot after the left one is written, and what is read is within the work slice.
use Rattle.moves.specs.Steps.{right_absorbed}
use Rattle.moves.proofs.write_right.Goals as goal

pub absorb_right-requires-clause-bond_bound : goal.absorb_right-requires-clause-bond_bound
absorb_right-requires-clause-bond_bound c = let h = c.requires in let e = c.pair_slots-at.ensures in
    rw (e.left, e.left_end, e.right, e.right_end) (right_absorbed h.pair h.chi_bound.0 h.chi_bound.1 c.fill_columns.new.slot (rw (e.left_end, e.left) at c.fill_columns.auto.slot)).1
