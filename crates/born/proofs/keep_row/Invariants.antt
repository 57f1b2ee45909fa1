-- The invariant: the first b numbers of both rows are done, each read before its place was stored to.
use mathlib.Core.Path.{◌≡◌}
use Rattle.complex.specs.Loops.{each}
use Rattle.born.specs.Kept.{keep_step}
use Rattle.born.proofs.keep_row.Given as goal

abbrev pub invariant-loop-b : goal.invariant-loop-b
invariant-loop-b l = l.pair ≡ each l.b (keep_step l.br l.from l.to l.by) l.initial.pair
