-- A workspace exponent from 63 to 255 shows nowhere but in its own field, as `Statements/Uncapped` states it: only soundness and a cut's refusal by 6 read it, and neither tells it from 63.
use Prim.Native.Nat.{ℕ, zero, suc, ◌+◌, ◌-◌, ◌*◌, ◌≤◌, ◌<◌}
use Rattle.std.proofs.Common.{arith, sym, ap₂, ◌∙◌}
use Rattle.std.specs.Prelude.{◌≡◌, Bool, true, false, not, ◌&&◌, cond, leb, ltb, eqb, length, Float, Option, None, Some, Ok, Err}
use Rattle.std.proofs.Math.Path.{refl, ap}
use mathlib.Core.List.{List, [], ◌∷◌, map}
use borrow.Author.Tests.{le-leb, le-ltb, eq-eqb, ne_eqb}
use Rattle.std.specs.Float.Ieee.{le}
use Rattle.complex.specs.declared.Complex.{Complex}
use Rattle.gates.specs.Named.{matrix_of}
use Rattle.model.specs.declared.Chain.{Chain}
use Rattle.model.specs.declared.WeightSide.TheVariants.{Left, Right}
use Rattle.model.specs.Chain.{site_of}
use Rattle.model.specs.Slots.{State, held, store_room}
use Rattle.model.specs.Svd.{values, raw_value, any_nan}
use Rattle.model.specs.Truncation.{resolvable}
use Rattle.model.specs.Moves.{step_right, step_left, walk_right, walk_left, moved, established, centered_on, Prepared, prepared, prepared_on}
use Rattle.model.specs.Cut.{keeps_centre, prepared_for, pair_of, rank_of, reason_in, Tried, tried, cut_with, attempt, Ran, ran, adjacent, attempt_reason, adjacent_reason}
use Rattle.model.specs.Layers.{Placed, layer_of}
use Rattle.model.specs.Routing.{Step, swap_step, gate_step, route_of, turned, stepped, run_steps, gate_run, gate_reason, layer_ran, placed_run, layer_run}
use Rattle.model.specs.Born.{weight_at, unless_clamped, projected_at, reset_at, readied}
use Rattle.model.specs.Environment.{left_env, right_env}
use Rattle.model.specs.Sound.{settings_fit, bonds_fit, sized, sound}
use Rattle.model.specs.Start.{fresh_chain}
use Rattle.model.specs.Answers.{View, view_answer, view_applied, view_layered, view_projected, view_measured}
use Rattle.model.specs.Calls.{After, after, cleared, Started, start_call, gate_refusal, gate_call, named_gate_call, layer_refusal, layer_call, project_refusal, project_call, measure_refusal, measure_call, reset_refusal, reset_call, left_environment_call, right_environment_call}
use Rattle.model.specs.Lists.{Call, gate, named, layer, project, measure, reset, left, answer_of, state_of, answers_of, final_state}
use Rattle.model.specs.Statements.Table.{gate_steps}
use Rattle.model.specs.Statements.Soundness.{Sound}
use Rattle.model.specs.Statements.Uncapped.{with_exponent, under, AsAt63}
use Rattle.model.proofs.Laws.MoveLaws.{last_site, established_narrowed}
use Rattle.model.proofs.Laws.SoundKept.{narrowed_keeps, attempt_keeps, Inside, inside_first, inside_last, stepped_keeps, run_steps_keeps, gate_inside, gate_accepted}
use Rattle.model.proofs.Laws.LayerRuns.{Fits, AllFit, layer_accepted, layer_fits, placed_run_keeps, layer_by}
use Rattle.model.proofs.Laws.StartLaws.{start_accepted}
use Rattle.model.proofs.Laws.WorkspaceEnough.{workspace_enough}

-- a test between mapped values is the map of the test
mapped : {A B : Type 0} (f : A → B) (b : Bool) {x y : A} {x' y' : B} → (b ≡ true → x' ≡ f x) → y' ≡ f y → cond b x' y' ≡ f (cond b x y)
mapped f true p q = p refl
mapped f false p q = q

-- ---- the test of start, and of soundness

-- every byte is taken
settings_same : (n d : ℕ) (epsilon clamp : Float) (e e' : ℕ) → e ≤ 255 → e' ≤ 255 → settings_fit n d epsilon clamp e ≡ settings_fit n d epsilon clamp e'
unfolding settings_fit
settings_same n d epsilon clamp e e' byte byte' = rw (le-leb e 255 byte, le-leb e' 255 byte')

sound_same : (e : ℕ) (c : Chain) → e ≤ 255 → c.workspace_exponent ≤ 255 → sound (with_exponent c e) ≡ sound c
unfolding sound bonds_fit sized
sound_same e c byte byte' = rw (settings_same c.num_qubits c.max_bond_dim c.svd_epsilon c.norm_clamp_min e c.workspace_exponent byte byte')

-- ---- start

module _ (n d : ℕ) (epsilon clamp : Float) (store : List Float) where
  -- the answer alone, without the record that holds the exponent
  start_answer : (e : ℕ) → cond (not (settings_fit n d epsilon clamp e)) (Err 1) (cond (ltb (length store) (store_room n d)) (Err 2) (Ok tt)) ≡ (start_call n d epsilon clamp e store).answer
  unfolding start_call
  start_answer e = let f : Started → _ = λ a. a.answer in mapped f (not (settings_fit n d epsilon clamp e)) (λ t. refl) (mapped f (ltb (length store) (store_room n d)) (λ t. refl) refl)

  start_same : (e : ℕ) → e ≤ 255 → (start_call n d epsilon clamp e store).answer ≡ (start_call n d epsilon clamp 63 store).answer
  start_same e byte = rw (← start_answer e, ← start_answer 63, settings_same n d epsilon clamp e 63 byte (omega arith))

module _ (e : ℕ) where
  -- ---- the moves of the centre, which do not read it

  walk_right_under : (n k : ℕ) (s : State) → walk_right n k (under e s) ≡ under e (walk_right n k s)
  unfolding walk_right step_right
  walk_right_under zero k s = refl
  walk_right_under (suc n) k s = walk_right_under n (k + 1) (step_right k s)

  walk_left_under : (n k : ℕ) (s : State) → walk_left n k (under e s) ≡ under e (walk_left n k s)
  unfolding walk_left step_left
  walk_left_under zero k s = refl
  walk_left_under (suc n) k s = walk_left_under n (k - 1) (step_left (k - 1) s)

  moved_under : (from to : ℕ) (s : State) → moved from to (under e s) ≡ under e (moved from to s)
  unfolding moved
  moved_under from to s = rw (walk_right_under, walk_left_under)

  established_under : (to : ℕ) (s : State) → established to (under e s) ≡ under e (established to s)
  unfolding established
  established_under to s = mapped (under e) (leb (2 * to) (last_site s)) (λ t. simp moved_under) (simp moved_under)

  readied_under : (k : ℕ) (s : State) → readied k (under e s) ≡ under e (readied k s)
  readied_under k s = from s.chain.center
    where
      from : (at : Option ℕ) → centered_on k at (under e s) ≡ under e (centered_on k at s)
      from None = established_under k s
      from (Some j) = moved_under j k s

  abbrev prepared_under : Prepared → Prepared
  prepared_under p = prepared p.side (under e p.state)

  prepared_for_under : (k : ℕ) (s : State) → prepared_for k (under e s) ≡ prepared_under (prepared_for k s)
  prepared_for_under k s = mapped prepared_under (keeps_centre k s) (λ t. from s.chain.center) refl
    where
      from : (at : Option ℕ) → prepared_on k at (under e s) ≡ prepared_under (prepared_on k at s)
      from None = ap (prepared Right) (established_under k s)
      from (Some j) = mapped prepared_under (leb j k) (λ t. ap (prepared Right) (moved_under j k s)) (ap (prepared Left) (moved_under j (k + 1) s))

  -- ---- a cut, which reads it in a test that fails from 63 on, and a run of cuts

  abbrev tried_under : Tried → Tried
  tried_under t = tried t.refused t.again (under e t.state)

  abbrev ran_under : Ran → Ran
  ran_under r = ran r.refused (under e r.state)

  cut_with_under : (g : List (List Complex)) (k : ℕ) (maintained : Bool) (p : Prepared) → cut_with g k maintained (prepared_under p) ≡ tried_under (cut_with g k maintained p)
  unfolding cut_with
  cut_with_under g k maintained p =
      let d = pair_of g k p.state in
      mapped tried_under (any_nan d.wide (raw_value d)) (λ t. refl) (mapped tried_under (not maintained && resolvable (values d) (rank_of p.state d)) (λ t. refl) refl)

  attempt_reason_under : (g : List (List Complex)) (k : ℕ) (s : State) → attempt_reason g k (under e s) ≡ attempt_reason g k s
  attempt_reason_under g k s = ap (λ (p : Prepared). reason_in g k p.state) (prepared_for_under k s)

  module _ (wide : 63 ≤ e) where
    attempt_under : (g : List (List Complex)) (k : ℕ) (s : State) → Sound s.chain → 63 ≤ s.chain.workspace_exponent → k + 1 < s.chain.num_qubits → attempt g k (under e s) ≡ tried_under (attempt g k s)
    unfolding attempt
    attempt_under g k s h wide' inside =
        rw (le-ltb _ _ (workspace_enough k s h inside e wide), le-ltb _ _ (workspace_enough k s h inside s.chain.workspace_exponent wide'), prepared_for_under k s) (cut_with_under g k (keeps_centre k s) (prepared_for k s))

    adjacent_under : (g : List (List Complex)) (k : ℕ) (s : State) → Sound s.chain → 63 ≤ s.chain.workspace_exponent → k + 1 < s.chain.num_qubits → adjacent g k (under e s) ≡ ran_under (adjacent g k s)
    unfolding adjacent
    adjacent_under g k s h wide' inside =
        let t = (attempt g k s).state in
        let x = attempt_keeps g k s h inside in
        let y = narrowed_keeps (established_narrowed k t x.sound (omega (arith, x.qubits))) in
        let second = attempt_under g k (established k t) y.sound (omega (arith, x.exponent, y.exponent)) (omega (arith, x.qubits, y.qubits)) in
        rw (attempt_under g k s h wide' inside, established_under k t, second) (mapped ran_under (attempt g k s).again (λ a. refl) refl)

    adjacent_reason_under : (g : List (List Complex)) (k : ℕ) (s : State) → Sound s.chain → 63 ≤ s.chain.workspace_exponent → k + 1 < s.chain.num_qubits → adjacent_reason g k (under e s) ≡ adjacent_reason g k s
    unfolding adjacent_reason
    adjacent_reason_under g k s h wide' inside =
        let t = (attempt g k s).state in
        rw (attempt_under g k s h wide' inside, established_under k t, attempt_reason_under g k (established k t), attempt_reason_under g k s)

    stepped_under : (x : Step) (s : State) → Sound s.chain → 63 ≤ s.chain.workspace_exponent → x.site + 1 < s.chain.num_qubits → stepped x (under e s) ≡ ran_under (stepped x s)
    unfolding stepped
    stepped_under x s h wide' inside =
        let r = adjacent x.gate x.site s in
        rw (adjacent_under x.gate x.site s h wide' inside)
        (mapped ran_under (eqb r.refused 0) (λ t. ap (λ (c : Chain). ran 0 (held c r.state.store)) (mapped (λ (c : Chain). with_exponent c e) x.relabels (λ l. refl) refl)) refl)

    run_steps_under : (xs : List Step) (s : State) → Sound s.chain → 63 ≤ s.chain.workspace_exponent → Inside s.chain.num_qubits xs → run_steps xs (under e s) ≡ ran_under (run_steps xs s)
    unfolding run_steps
    run_steps_under [] s h wide' inside = refl
    run_steps_under (x ∷ xs) s h wide' inside =
        let y = stepped_keeps x s h inside.0 in
        rw (stepped_under x s h wide' inside.0)
        (mapped ran_under (eqb (stepped x s).refused 0) (λ t. run_steps_under xs (stepped x s).state y.sound (omega (arith, y.exponent)) (rw y.qubits inside.1)) refl)

    reason_under : (g : List (List Complex)) (q0 q1 : ℕ) (s : State) → Sound s.chain → 63 ≤ s.chain.workspace_exponent → Inside s.chain.num_qubits (gate_steps s q0 q1 g) → gate_reason g q0 q1 (under e s) ≡ gate_reason g q0 q1 s
    unfolding gate_reason
    reason_under g q0 q1 s h wide' inside =
        let r = route_of (site_of s.chain q0) (site_of s.chain q1) in
        let swaps = map swap_step r.swaps in
        let x = inside_first s.chain.num_qubits swaps (gate_step (turned g r) r.near ∷ []) inside in
        let y = run_steps_keeps swaps s h x in
        rw (run_steps_under swaps s h wide' x)
        (adjacent_reason_under (turned g r) r.near (run_steps swaps s).state y.sound (omega (arith, y.exponent))
        (rw y.qubits (inside_last s.chain.num_qubits swaps (gate_step (turned g r) r.near) inside)))

    -- the gates of a layer in turn
    layer_run_under : (p : ℕ) (xs : List Placed) (s : State) → Sound s.chain → AllFit s.chain.num_qubits xs → 63 ≤ s.chain.workspace_exponent
        → layer_run p xs (under e s) ≡ layer_ran (layer_run p xs s).answer (under e (layer_run p xs s).state)
    unfolding layer_run gate_run
    layer_run_under =
        layer_by (λ p xs s r. 63 ≤ s.chain.workspace_exponent → layer_run p xs (under e s) ≡ layer_ran r.answer (under e r.state)) (λ p s h wide'. refl)
        (λ p x xs s h f z r k wide'. rw (one x s h f wide', eq-eqb (placed_run x s).refused 0 z) (k (rw (placed_run_keeps x s h f).exponent wide')))
        (λ p x xs s h f z wide'. rw (one x s h f wide', ne_eqb (placed_run x s).refused 0 z))
      where
        one : (x : Placed) (s : State) → Sound s.chain → Fits s.chain.num_qubits x → 63 ≤ s.chain.workspace_exponent → placed_run x (under e s) ≡ ran_under (placed_run x s)
        one x s h f wide' = run_steps_under (gate_steps s x.q0 x.q1 x.gate) s h wide' (gate_inside x.gate x.q0 x.q1 s h f.first f.second f.two)

  -- ---- the calls

  clamped_under : (k : ℕ) (o : Bool) (site : List Float) (s : State) → unless_clamped k o site (under e s) ≡ under e (unless_clamped k o site s)
  clamped_under k o site s = mapped (under e) (le (weight_at k o s) s.chain.norm_clamp_min) (λ t. refl) refl

  abbrev after_under : {A : Type 0} → After A → After A
  after_under a = after a.answer (under e (left a)) a.work

  module _ (wide : 63 ≤ e) (byte : e ≤ 255) (s : State) (wide' : 63 ≤ s.chain.workspace_exponent) (byte' : s.chain.workspace_exponent ≤ 255) where
    same : sound (under e s).chain ≡ sound s.chain
    same = sound_same e s.chain byte byte'

    gate_under : (work : List Float) (q0 q1 : ℕ) (g : List (List Complex)) → gate_call (under e s) work q0 q1 g ≡ after_under (gate_call s work q0 q1 g)
    unfolding gate_call gate_run cleared
    gate_under work q0 q1 g = rw same (mapped after_under (eqb (gate_refusal s work q0 q1 g) 0) (λ t. let x = gate_accepted s work q0 q1 g t in rw (reason_under wide g q0 q1 s x.sound wide' x.inside, run_steps_under wide (gate_steps s q0 q1 g) s x.sound wide' x.inside)) refl)

    layer_under : (work : List Float) (pairs : List ℕ) (gates : List Float) → layer_call (under e s) work pairs gates ≡ after_under (layer_call s work pairs gates)
    unfolding layer_call cleared
    layer_under work pairs gates =
        rw same
        (mapped after_under (eqb (layer_refusal s work pairs gates) 0) (λ t.
        let x = layer_accepted s work pairs gates t in
        rw (layer_run_under wide 0 (layer_of pairs gates) s x.sound (layer_fits s work pairs gates x) wide')) refl)

    -- what a list of calls takes from one
    seen : {A : Type 0} (view : A → View) (call : State → After A) → call (under e s) ≡ after_under (call s)
        → (view (call (under e s)).answer ≡ view (call s).answer) × (left (call (under e s)) ≡ under e (left (call s)))
    seen view call x = (λ i. view (x i).answer, λ i. left (x i))

    call_under : (c : Call) → (answer_of c (under e s) ≡ answer_of c s) × (state_of c (under e s) ≡ under e (state_of c s))
    unfolding named_gate_call project_call projected_at measure_call reset_call reset_at cleared
    call_under (gate q0 q1 g work) = seen view_applied (λ t. gate_call t work q0 q1 g) (gate_under work q0 q1 g)
    call_under (named q0 q1 name work) = seen view_applied (λ t. gate_call t work q0 q1 (matrix_of name)) (gate_under work q0 q1 (matrix_of name))
    call_under (layer pairs gates work) = seen view_layered (λ t. layer_call t work pairs gates) (layer_under work pairs gates)
    call_under (project q o work) = seen view_projected (λ t. project_call t work q o) (rw same (mapped after_under (eqb (project_refusal s work q) 0) (λ t. rw (readied_under, clamped_under)) refl))
    call_under (measure q flag draw work) = seen view_measured (λ t. measure_call t work q flag draw) (rw same (mapped after_under (eqb (measure_refusal s work q flag draw) 0) (λ t. rw (readied_under, clamped_under)) refl))
    call_under (reset q draw work) = seen view_answer (λ t. reset_call t work q draw) (rw same (mapped after_under (eqb (reset_refusal s work q draw) 0) (λ t. rw (readied_under, clamped_under)) refl))

-- ---- the statement

pub as_at_63 : AsAt63
unfolding fresh_chain left_environment_call right_environment_call cleared left_env right_env
as_at_63 = record {
  start = λ n d epsilon clamp e store byte.
      let same = start_same n d epsilon clamp store e byte in
      (same, λ done. rw ((start_accepted n d epsilon clamp e store done).is, (start_accepted n d epsilon clamp 63 store (sym same ∙ done)).is));
  calls = lists;
  left_environment = λ s work out from site e byte. rw (sound_same e (under 63 s).chain byte (omega arith));
  right_environment = λ s work out site to e byte. rw (sound_same e (under 63 s).chain byte (omega arith));
}
  where
    lists : (cs : List Call) (s : State) (e : ℕ) → 63 ≤ e → e ≤ 255 → (answers_of cs (under e s) ≡ answers_of cs (under 63 s)) × (final_state cs (under e s) ≡ under e (final_state cs (under 63 s)))
    lists [] s e wide byte = (refl, refl)
    lists (c ∷ cs) s e wide byte =
        let x = call_under e wide byte (under 63 s) (omega arith) (omega arith) c in
        -- by the same law at 63, the call leaves the exponent
        let kept = (call_under 63 (omega arith) (omega arith) (under 63 s) (omega arith) (omega arith) c).1 in
        let rest = lists cs (state_of c (under 63 s)) e wide byte in
        (ap₂ ◌∷◌ x.0 (ap (answers_of cs) x.1 ∙ rest.0 ∙ ap (answers_of cs) (sym kept)), ap (final_state cs) x.1 ∙ rest.1 ∙ ap (λ (t : State). under e (final_state cs t)) (sym kept))
