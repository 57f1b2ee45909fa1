use mathlib.Core.Path.{◌≡◌}
use Rattle.std.specs.Prelude.{not, eqb}
use Prim.Native.Nat.{◌≤◌, ◌+◌}
use Rattle.complex.specs.Loops.{between}
use Rattle.model.specs.Svd.{tallied}
use Rattle.svd.specs.Values.{value_of, goes_before}
use Rattle.svd.proofs.Values.count_before.Given as goal

abbrev pub invariant-loop-k : goal.invariant-loop-k
invariant-loop-k g l = (l.c + l.lo ≤ l.k) × (l.c ≡ between l.lo l.k (λ k. tallied (goes_before (not (eqb g.row.EQUAL 0)) l.own (value_of l.self k))) 0)
