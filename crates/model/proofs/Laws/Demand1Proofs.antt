-- The statements of `Demand1`, proved: that Nothing is answered exactly where the outcome's weight is at most the clamp, here; the others in the files cited.
use Rattle.std.specs.Prelude.{ℕ, ◌≡◌, ◌↔◌, Bool, true, false, not, ◌||◌, List, T, eqb, Float, Err}
use Rattle.std.proofs.Common.{arith, sym, ◌∙◌, subst, inl}
use Rattle.std.proofs.Math.Path.{refl, ap}
use Rattle.std.proofs.Math.Bool.{cond}
use Rattle.std.proofs.Math.Dec.{leb}
use Rattle.std.specs.Float.Ieee.{le}
use Rattle.model.specs.declared.Projected.{Projected}
use Rattle.model.specs.declared.Projected.TheVariants as projected
use Rattle.model.specs.Chain.{site_of}
use Rattle.model.specs.Slots.{State}
use Rattle.model.specs.Born.{weight_at, total_at, drawn_at, projected_at, reset_at, readied}
use Rattle.model.specs.Sound.{share01, sound}
use Rattle.model.specs.Answers.{Answer, Measured, view_answer, view_projected, view_measured}
use Rattle.model.specs.Calls.{After, after, short, outside, cleared, project_refusal, project_run, project_call, measure_refusal, measure_run, measure_call, reset_refusal, reset_run, reset_call}
use Rattle.model.specs.Statements.Demand1.{NothingExactly, Numbered, Remains, Clamped}
use Rattle.model.proofs.Laws.SoundKept.{readied_keeps}
use Rattle.model.proofs.Laws.Refusals.{AcceptedReading, project_passes, measure_passes, reset_passes, run_late, first_of_early, start_refusals, project_refusals, measure_refusals, reset_refusals, left_environment_refusals, right_environment_refusals}
use Rattle.model.proofs.Laws.Gates.{gate_refusals, named_refusals}
use Rattle.model.proofs.Laws.LayerCalls.{layer_refusals, layer_leaves}
use Rattle.model.proofs.Laws.AfterStates.{gate_leaves, gate_unmoved, named_leaves, named_unmoved, project_leaves, measure_leaves, reset_leaves}
use Rattle.model.proofs.Laws.StartLaws.{start_leaves}
use Rattle.model.proofs.Laws.EnvironmentLaws.{left_environment_leaves, right_environment_leaves}

-- ---- what a test picks

kept_or_nothing : (b : Bool) (w : Float) → (cond b projected.Nothing (projected.Kept w) ≡ projected.Nothing) ↔ T b
kept_or_nothing true w = (λ e. tt, λ t. refl)
kept_or_nothing false w = (λ e. (let z : ◌≡◌ {A = ℕ} 0 1 = cc in omega arith), absurd)

picked : {A : Type 0} (b : Bool) (x y : A) → T b → cond b x y ≡ x
picked true x y t = refl
picked false x y t = absurd t

other : {A : Type 0} (b : Bool) (x y : A) → T (not b) → cond b x y ≡ y
other true x y t = absurd t
other false x y t = refl

module _ (k : ℕ) (o : Bool) (t : State) where
  pub projected_at_clamped : T (le (weight_at k o t) t.chain.norm_clamp_min) → projected_at k o t ≡ t
  unfolding projected_at
  projected_at_clamped h = picked (le (weight_at k o t) t.chain.norm_clamp_min) t _ h

  pub reset_at_clamped : T (le (weight_at k o t) t.chain.norm_clamp_min) → reset_at k o t ≡ t
  unfolding reset_at
  reset_at_clamped h = picked (le (weight_at k o t) t.chain.norm_clamp_min) t _ h

-- ---- the calls

module _ (s : State) (work : List Float) where
  -- an accepted call ran on a qubit of the chain, and the clamp is as it was with the centre on its site
  clamp_kept : (q : ℕ) → AcceptedReading s work q → (readied (site_of s.chain q) s).chain.norm_clamp_min ≡ s.chain.norm_clamp_min
  clamp_kept q a = (readied_keeps (site_of s.chain q) s a.sound a.site_below).clamp

  module _ (q : ℕ) (o : Bool) where
    abbrev k : ℕ
    k = site_of s.chain q

    abbrev t : State
    t = readied k s

    project_runs : (view_projected (project_call s work q o).answer).number ≡ 0 → eqb (project_refusal s work q) 0 ≡ true
    unfolding project_call
    project_runs e =
        run_late (λ (a : After Projected). (view_projected a.answer).number) (project_refusal s work q) (project_run k o s (cleared s.chain work)) (after (projected.Refused (project_refusal s work q)) s work)
        refl (first_of_early (not (sound s.chain)) (short s.chain s.store work) (outside s.chain q) false) (inl e)

    project_ran : eqb (project_refusal s work q) 0 ≡ true → project_call s work q o ≡ project_run k o s (cleared s.chain work)
    unfolding project_call
    project_ran e = ap (λ (b : Bool). cond b (project_run k o s (cleared s.chain work)) (after (projected.Refused (project_refusal s work q)) s work)) e

    pub project_clamped : (view_projected (project_call s work q o).answer).number ≡ 0
        → NothingExactly s.chain.norm_clamp_min (weight_at k o t) (total_at k t) t (project_call s work q o)
    project_clamped e =
        let e' = project_runs e in
        subst (λ (c : Float). NothingExactly c (weight_at k o t) (total_at k t) t (project_call s work q o)) (clamp_kept q (project_passes s work q e'))
        (subst (NothingExactly t.chain.norm_clamp_min (weight_at k o t) (total_at k t) t) (sym (project_ran e')) (record {
          exactly = kept_or_nothing (le (weight_at k o t) t.chain.norm_clamp_min) _;
          unaltered = projected_at_clamped k o t;
          kept = other (le (weight_at k o t) t.chain.norm_clamp_min) projected.Nothing _;
        }))

  -- a measurement and a reset whose outcome has no more weight rewrite no amplitude
  module _ (q : ℕ) (draw : Float) where
    abbrev site : ℕ
    site = site_of s.chain q

    abbrev ready : State
    ready = readied site s

    abbrev b : Bool
    b = drawn_at site draw ready

    abbrev Clamp : Type 0
    Clamp = T (le (weight_at site b ready) s.chain.norm_clamp_min)

    same_clamp : AcceptedReading s work q → Clamp → T (le (weight_at site b ready) ready.chain.norm_clamp_min)
    same_clamp a h = subst (λ (c : Float). T (le (weight_at site b ready) c)) (sym (clamp_kept q a)) h

    pub measure_clamped : (flag : ℕ) → (view_measured (measure_call s work q flag draw).answer).number ≡ 0 → Clamp → (measure_call s work q flag draw).store ≡ ready.store
    unfolding measure_call
    measure_clamped flag e h =
        let four = outside s.chain q || leb 64 flag in
        let refusal = measure_refusal s work q flag draw in
        let run = measure_run site flag draw s (cleared s.chain work) in
        let back = after (Err refusal) s work in
        let e' = run_late (λ (a : After Measured). (view_measured a.answer).number) refusal run back refl
        (first_of_early (not (sound s.chain)) (short s.chain s.store work) four (not (share01 draw))) (inl e) in
        ap (λ (x : Bool). (cond x run back).store) e'
        ∙ ap (λ (u : State). u.store) (projected_at_clamped site b ready (same_clamp (measure_passes s work q flag draw e') h))

    pub reset_clamped : (view_answer (reset_call s work q draw).answer).number ≡ 0 → Clamp → (reset_call s work q draw).store ≡ ready.store
    unfolding reset_call
    reset_clamped e h =
        let refusal = reset_refusal s work q draw in
        let run = reset_run site draw s (cleared s.chain work) in
        let back = after (Err refusal) s work in
        let e' = run_late (λ (a : After Answer). (view_answer a.answer).number) refusal run back refl
        (first_of_early (not (sound s.chain)) (short s.chain s.store work) (outside s.chain q) (not (share01 draw))) (inl e) in
        ap (λ (x : Bool). (cond x run back).store) e' ∙ ap (λ (u : State). u.store) (reset_at_clamped site b ready (same_clamp (reset_passes s work q draw e') h))

pub numbered : Numbered
numbered = record {
  start = start_refusals;
  gate = gate_refusals;
  named = named_refusals;
  layer = layer_refusals;
  project = project_refusals;
  measure = measure_refusals;
  reset = reset_refusals;
  left_environment = left_environment_refusals;
  right_environment = right_environment_refusals;
}

pub remains : Remains
remains = record {
  start = start_leaves;
  gate = gate_leaves;
  named = named_leaves;
  unmoved = gate_unmoved;
  unmoved_named = named_unmoved;
  layer = layer_leaves;
  project = project_leaves;
  measure = measure_leaves;
  reset = reset_leaves;
  left_environment = left_environment_leaves;
  right_environment = right_environment_leaves;
}

pub clamped : Clamped
clamped = record { project = project_clamped; measure = λ s work q flag draw. measure_clamped s work q draw flag; reset = reset_clamped }
