-- The labels after any call that 6 and 7 do not refuse: matrices, amplitudes, settings and draws do not enter.
use Rattle.std.specs.Prelude.{ℕ, ◌≡◌, ◌⊎◌, ◌≢◌, Bool, true, false, cond, eqb}
use Rattle.std.proofs.Common.{ap, inl, inr, eq-eqb, ne_eqb}
use Rattle.gates.specs.Named.{matrix_of}
use Rattle.model.specs.Chain.{Labels, labels_of}
use Rattle.model.specs.Slots.{State}
use Rattle.model.specs.Layers.{layer_of}
use Rattle.model.specs.Calls.{named_gate_call}
use Rattle.model.specs.Lists.{Call, gate, named, layer, project, measure, reset, state_of, answer_of}
use Rattle.model.specs.Statements.Demand1.{Late, Early}
use Rattle.model.specs.Statements.Pinned.{late}
use Rattle.model.specs.Statements.Demand1Cuts.{labels_after, labels_through}
use Rattle.model.proofs.Laws.Refusals.{decides_late}
use Rattle.model.proofs.Laws.AfterStates.{gate_leaves}
use Rattle.model.proofs.Laws.CutShares.{project_reads, measure_reads, reset_reads}
use Rattle.model.proofs.Laws.Gates.{gate_ends}
use Rattle.model.proofs.Laws.LayerCalls.{layer_leaves, layer_done}
use Rattle.model.proofs.Laws.Tests.{Decides}

-- a call's labels, from its number and the labels before
abbrev pub labels_next : Call → ℕ → Labels → Labels
labels_next (gate q0 q1 g work) number l = cond (eqb number 0) (labels_after l q0 q1) l
labels_next (named q0 q1 name work) number l = cond (eqb number 0) (labels_after l q0 q1) l
labels_next (layer pairs gates work) number l = cond (eqb number 0) (labels_through (layer_of pairs gates) l) l
labels_next (project q o work) number l = l
labels_next (measure q flag draw work) number l = l
labels_next (reset q draw work) number l = l

early_or_late : (k : ℕ) → Early k ⊎ Late k
early_or_late k = go (late k) (decides_late k)
  where
    go : (b : Bool) → Decides b (Late k) → Early k ⊎ Late k
    go true d = inr (d.holds tt)
    go false d = inl d.fails

-- of a call with this number: as before where nothing is written, and new where it is accepted
by_number : (number : ℕ) (before new after : Labels) → (Early number → after ≡ before) → (number ≡ 0 → after ≡ new) → number ≢ 6 → number ≢ 7 → after ≡ cond (eqb number 0) new before
by_number number before new after kept done six seven = go (early_or_late number)
  where
    go : Early number ⊎ Late number → after ≡ cond (eqb number 0) new before
    go (inl e) = rw (ne_eqb number 0 (λ z. e (inl z))) (kept e)
    go (inr (inl z)) = rw (eq-eqb number 0 z) (done z)
    go (inr (inr (inl z))) = absurd (six z)
    go (inr (inr (inr z))) = absurd (seven z)

pub call_labels : (c : Call) (s : State) → (answer_of c s).number ≢ 6 → (answer_of c s).number ≢ 7
    → labels_of (state_of c s).chain ≡ labels_next c (answer_of c s).number (labels_of s.chain)
unfolding named_gate_call
call_labels (gate q0 q1 g work) s = by_number _ _ _ _ (λ e. ap (λ (t : State). labels_of t.chain) ((gate_leaves s work q0 q1 g).unaltered e)) (gate_ends s work q0 q1 g).done
call_labels (named q0 q1 name work) s = by_number _ _ _ _ (λ e. ap (λ (t : State). labels_of t.chain) ((gate_leaves s work q0 q1 (matrix_of name)).unaltered e)) (gate_ends s work q0 q1 (matrix_of name)).done
call_labels (layer pairs gates work) s = by_number _ _ _ _ (λ e. ap (λ (t : State). labels_of t.chain) ((layer_leaves s work pairs gates).unaltered e)) (λ z. (layer_done s work pairs gates z).1)
call_labels (project q o work) s = λ six seven. (project_reads s work q o).labels
call_labels (measure q flag draw work) s = λ six seven. (measure_reads s work q flag draw).labels
call_labels (reset q draw work) s = λ six seven. (reset_reads s work q draw).labels
