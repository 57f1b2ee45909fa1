-- The values in order, written to the front of the array, are those of the decomposition that the work slice begins with.
use mathlib.Core.Path.{◌≡◌, ◌∙◌}
use Prim.Native.Nat.{ℕ, ◌≤◌}
use native.Mathlib.Omega.{arith}
use lib.ListN.{length, take, replicate}
use lib.Seq.{length-take-le, take_at}
use Rattle.complex.specs.Complex.{zero_f}
use Rattle.complex.specs.Loops.{length_tabulate}
use Rattle.model.specs.Svd.{values, value_at}
use Rattle.model.proofs.Laws.SoundChanges.{cut_rank_least, cut_rank_most}
use Rattle.truncation.specs.Rank.{rank_within}
use Rattle.cutting.specs.Shape.{standing}
use Rattle.cutting.specs.Kept.{KeptOf}
use Rattle.cutting.proofs.kept_values.Goals as goal

-- the front of the array, which is lent for them
lent : (n : ℕ) → n ≤ 256 → length (take n (replicate 256 zero_f)) ≡ n
lent n h = length-take-le n (replicate 256 zero_f) h

pub returns : goal.returns
unfolding values
returns c = let written : length c.sorted_values.new.s ≡ c.args.d.now.shape.wide = c.sorted_values.auto.s ∙ lent _ c.requires.1.columns in
    let a = c.args in let p = c.requires in let d = standing a.d.now.shape a.work.now a.d.now.order in
    let e : KeptOf a.epsilon a.max_bond_dim (values d) c.keep.result = rw (take_at c.sorted_values.new.s _ _ written, c.sorted_values.ensures, lent a.d.now.shape.wide p.1.columns, p.1.first) at c.keep.ensures in
    let n : length (values d) ≡ a.d.now.shape.wide = length_tabulate d.wide (value_at d) in
    let h : 1 ≤ length (values d) = omega (arith, p.1.some) in
    record { kept_of = e; le_chi = rw e.rank (cut_rank_least a.epsilon a.max_bond_dim (values d) p.0, cut_rank_most a.epsilon a.max_bond_dim (values d), omega (arith, rank_within a.epsilon a.max_bond_dim (values d) h)) }
