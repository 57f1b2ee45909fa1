-- The invariant: the store is that of k fresh sites.
use Prim.Native.Nat.{◌≤◌, ◌-◌}
use mathlib.Core.Path.{◌≡◌}
use lib.ListN.{length}
use Rattle.model.specs.Start.{fresh_store}
use Rattle.fresh.proofs.fresh_store.Given as goal

abbrev pub invariant-loop-k : goal.invariant-loop-k
invariant-loop-k l = (l.k ≤ l.n) × (length l.store ≡ length l.initial.store) × (l.store ≡ fresh_store l.k l.d l.initial.store)

abbrev pub decreases-loop-k : goal.decreases-loop-k
decreases-loop-k l = l.n - l.k
