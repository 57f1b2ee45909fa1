-- The right site is within its slot after the left one is written, and what is read is within the work slice.
use Rattle.moves.specs.Steps.{left_filled}
use Rattle.moves.proofs.write_left.Goals as goal

pub fill_rows_conj-requires : goal.fill_rows_conj-requires
fill_rows_conj-requires c = let h = c.requires in let e = c.pair_slots-at.ensures in
    rw (e.left, e.left_end, e.right, e.right_end) (left_filled h.pair h.chi_bound.0 h.chi_bound.1 c.absorb_left.new.slot (rw (e.left_end, e.left) at c.absorb_left.auto.slot))
