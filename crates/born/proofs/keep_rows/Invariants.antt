-- The invariant: the rows of the first a left indices are done, and the rest is as it was.
use mathlib.Core.Path.{◌≡◌}
use mathlib.Core.List.{◌++◌}
use Prim.Native.Nat.{◌*◌}
use lib.ListN.{drop}
use Rattle.born.specs.Kept.{kept_site}
use Rattle.born.proofs.keep_rows.Given as goal

abbrev pub invariant-loop-a : goal.invariant-loop-a
invariant-loop-a l = l.slot ≡ kept_site l.a l.br l.from l.to l.by l.initial.slot ++ drop (l.a * (4 * l.br)) l.initial.slot
