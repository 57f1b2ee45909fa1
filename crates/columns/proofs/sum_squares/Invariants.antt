use mathlib.Core.Path.{◌≡◌}
use Rattle.model.specs.Columns.{squares}
use Rattle.columns.proofs.sum_squares.Given as goal

abbrev pub invariant-loop-k : goal.invariant-loop-k
invariant-loop-k l = l.sum ≡ squares l.w l.base l.k
