-- The invariant: the first j columns are in their places.
use mathlib.Core.Path.{◌≡◌}
use lib.ListN.{set}
use Rattle.complex.specs.Loops.{each}
use Rattle.svd.specs.Values.{value_of}
use Rattle.model.specs.Svd.{place}
use Rattle.svd.proofs.Values.sort_columns.Given as goal

abbrev pub invariant-loop-j : goal.invariant-loop-j
invariant-loop-j l = l.order ≡ each l.j (λ j o. set o (place l.self.n (value_of l.self) j) j) l.initial.order
