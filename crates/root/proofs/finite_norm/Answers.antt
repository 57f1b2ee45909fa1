-- `far` takes two exponents that its conclusion does not name, so it is given here.
use Rattle.root.proofs.Laws.NormMethod.{far}
use Rattle.root.proofs.finite_norm.Goals as goal

pub returns-then-k-ge-FAR : goal.returns-then-k-ge-FAR
returns-then-k-ge-FAR c = search far
