use Rattle.model.specs.Qr.{dot}
use Rattle.qr.proofs.Runs.dot.Goals as goal

pub returns : goal.returns
unfolding dot
returns c = rw (c.add-3.ensures, c.add-2.ensures, c.add.ensures, c.sum_rest-first.ensures, c.sum_fours.ensures)
