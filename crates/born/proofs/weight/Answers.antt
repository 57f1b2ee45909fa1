use Rattle.complex.specs.Loops.{each_more}
use Rattle.born.proofs.weight.Goals as goal

pub loop-a-preserved : goal.loop-a-preserved
loop-a-preserved c = rw (each_more, c.sum_squares-sum.ensures, c.row_at-row.ensures.value, c.loop-a.invariant)
