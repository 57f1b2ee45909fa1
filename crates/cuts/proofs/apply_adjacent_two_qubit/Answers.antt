use mathlib.Core.Path.{sym, ◌∙◌}
use Rattle.cuts.specs.Attempts.{bare_stored}
use Rattle.cuts.proofs.apply_adjacent_two_qubit.Goals as goal

pub returns-clause-value : goal.returns-clause-value
returns-clause-value c =
    bare_stored _ _ _ _ c.pair_bonds-bonds.ensures.value (sym c.workspace_exceeded.ensures ∙ c.if-workspace_exceeded.false) (sym c.keeps_center.ensures ∙ c.if-keeps_center.false) _ c.cut_pair.ensures.unchanged _ _ c.in_ok-cut.ensures.cut c.if-loses.false _ c.store_cut.ensures.value
