-- With a workspace exponent of 64 or more no call answers 6: a sound record's bonds are at most 128, so that a cut works in at most 22 * 128 * 128 numbers.
use Rattle.std.specs.Prelude.{ℕ, ◌≢◌, not, List, [], ◌∷◌, T, eqb, Float}
use Rattle.std.proofs.Common.{sym, subst, ◌∙◌, inl, inr, arith}
use Rattle.std.specs.Float.Ieee.Fits.{and_l, and_r}
use Rattle.complex.specs.declared.Complex.{Complex}
use Rattle.model.specs.declared.Layered.{Layered}
use Rattle.gates.specs.Named.{matrix_of}
use Rattle.model.specs.Slots.{State, held}
use Rattle.model.specs.Layers.{layer_of}
use Rattle.model.specs.Routing.{Step, stepped, gate_run}
use Rattle.model.specs.Start.{fresh_chain}
use Rattle.model.specs.Answers.{view_applied, view_layered}
use Rattle.model.specs.Calls.{start_call, gate_call, named_gate_call, layer_refusal, layer_call, After}
use Rattle.model.specs.Lists.{Call, gate, named, layer, project, measure, reset, answer_of, final_state}
use Rattle.model.specs.Statements.Soundness.{Sound}
use Rattle.model.specs.Statements.Table.{Row, FirstGround, cut_rows, gate_steps, project_table, measure_table, reset_table, environment_table}
use Rattle.model.proofs.Laws.CallsSound.{start_accepted_sound, list_keeps}
use Rattle.model.specs.Statements.Uncapped.{NeverSix}
use Rattle.model.proofs.Laws.SoundKept.{Inside, stepped_keeps, gate_inside, gate_accepted}
use Rattle.model.proofs.Laws.LayerRuns.{layer_early, layer_accepted, layer_fits, placed_run_keeps, layer_by}
use Rattle.model.proofs.Laws.StartLaws.{start_accepted}
use Rattle.model.proofs.Laws.Refusals.{project_refusals, measure_refusals, reset_refusals, left_environment_refusals, right_environment_refusals, without}
use Rattle.model.proofs.Laws.Tests.{by_test}
use Rattle.model.proofs.Laws.Gates.{run_first, gate_ran, run_number}
use Rattle.model.proofs.Laws.WorkspaceEnough.{Uncapped, workspace_enough}

-- ---- cuts

cuts_not_6 : (xs : List Step) (s : State) → Sound s.chain → Inside s.chain.num_qubits xs → Uncapped s → (k : ℕ) → FirstGround (cut_rows xs s) k → k ≢ 6
cuts_not_6 [] s h inside l k e six = omega arith
cuts_not_6 (x ∷ xs) s h inside l k (inl (above, e)) six = omega (arith, workspace_enough x.site s h inside.0 s.chain.workspace_exponent (omega arith))
cuts_not_6 (x ∷ xs) s h inside l k (inr (_, inl (_, e))) six = omega arith
cuts_not_6 (x ∷ xs) s h inside l k (inr (_, inr (_, rest))) six =
    let y = stepped_keeps x s h inside.0 in
    cuts_not_6 xs (stepped x s).state y.sound (rw y.qubits inside.1) (rw y.exponent l) k rest six

-- ---- calls

gate_not_6 : (s : State) (work : List Float) (q0 q1 : ℕ) (g : List (List Complex)) → Uncapped s → (view_applied (gate_call s work q0 q1 g).answer).number ≢ 6
gate_not_6 s work q0 q1 g l six =
    let e = gate_ran s work q0 q1 g (inr (inl six)) in
    let x = gate_accepted s work q0 q1 g e in
    cuts_not_6 (gate_steps s q0 q1 g) s x.sound x.inside l _ (run_first (gate_steps s q0 q1 g) s x.sound x.inside) (run_number s work q0 q1 g e ∙ six)

layer_not_6 : (s : State) (work : List Float) (pairs : List ℕ) (gates : List Float) → Uncapped s → (view_layered (layer_call s work pairs gates).answer).number ≢ 6
unfolding layer_call gate_run
layer_not_6 s work pairs gates l =
    by_test (λ (a : After Layered). (view_layered a.answer).number ≢ 6) (eqb (layer_refusal s work pairs gates) 0) _ _
    (λ e.
    let x = layer_accepted s work pairs gates e in
    layer_by (λ p xs t r. Uncapped t → (view_layered r.answer).number ≢ 6) (λ p t h u six. omega arith)
    (λ p x xs t h f z r k u. k (rw (placed_run_keeps x t h f).exponent u))
    (λ p x xs t h f z u.
    let inside = gate_inside x.gate x.q0 x.q1 t h f.first f.second f.two in
    cuts_not_6 (gate_steps t x.q0 x.q1 x.gate) t h inside u _ (run_first (gate_steps t x.q0 x.q1 x.gate) t h inside))
    0 (layer_of pairs gates) s x.sound (layer_fits s work pairs gates x) l)
    (λ e six. layer_early s work pairs gates e (inr (inl six)))

-- a table whose rows have other numbers
table_not_6 : (rs : List Row) → T (without 6 rs) → (k : ℕ) → FirstGround rs k → k ≢ 6
table_not_6 [] t k e six = omega arith
table_not_6 (r ∷ rs) t k (inl (_, e)) six = subst (λ (m : ℕ). T (not (eqb m 6))) (sym e ∙ six) (and_l (not (eqb r.number 6)) (without 6 rs) t)
table_not_6 (r ∷ rs) t k (inr (_, rest)) six = table_not_6 rs (and_r (not (eqb r.number 6)) (without 6 rs) t) k rest six

call_not_6 : (c : Call) (s : State) → Uncapped s → (answer_of c s).number ≢ 6
unfolding named_gate_call
call_not_6 (gate q0 q1 g work) s l = gate_not_6 s work q0 q1 g l
call_not_6 (named q0 q1 name work) s l = gate_not_6 s work q0 q1 (matrix_of name) l
call_not_6 (layer pairs gates work) s l = layer_not_6 s work pairs gates l
call_not_6 (project q o work) s l = table_not_6 (project_table s work q) tt _ (project_refusals s work q o)
call_not_6 (measure q flag draw work) s l = table_not_6 (measure_table s work q flag draw) tt _ (measure_refusals s work q flag draw)
call_not_6 (reset q draw work) s l = table_not_6 (reset_table s work q draw) tt _ (reset_refusals s work q draw)

pub never_six : NeverSix
unfolding fresh_chain
never_six = record {
  call = call_not_6;
  after_start_lem = λ n d epsilon clamp exponent store l done cs c.
      let st = start_call n d epsilon clamp exponent store in
      let s = held st.chain st.store in
      let x = start_accepted n d epsilon clamp exponent store done in
      call_not_6 c (final_state cs s) (rw ((list_keeps cs s (start_accepted_sound n d epsilon clamp exponent store done)).exponent, x.is) l);
  left_environment = λ s work out from site. table_not_6 (environment_table s work out from site) tt _ (left_environment_refusals s work out from site);
  right_environment = λ s work out site to. table_not_6 (environment_table s work out to site) tt _ (right_environment_refusals s work out site to);
}
