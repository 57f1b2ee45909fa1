-- What every call leaves of its record and slices, whatever it answers.
use Prim.Native.Nat.{ℕ, ◌*◌, ◌≤◌, ◌<◌, min, max}
use native.Mathlib.Omega.{arith}
use Rattle.std.specs.Prelude.{◌≡◌, ◌≢◌, Bool, true, false, not, ◌||◌, cond, List, [], ◌∷◌, eqb, length, replicate, Float, Option, None, Some, Ok, Err}
use Rattle.std.proofs.Math.Path.{refl}
use Rattle.std.proofs.Common.{inl, inr, length-append, length-drop}
use Rattle.std.proofs.Math.Dec.{leb}
use Rattle.std.proofs.Math.ListN.{length-replicate}
use Rattle.std.proofs.Math.Seq.{take_at, drop_at}
use Rattle.complex.specs.Complex.{zero_f}
use Rattle.complex.specs.declared.Complex.{Complex}
use Rattle.gates.specs.Named.{matrix_of}
use Rattle.gates.specs.declared.NamedGate.{NamedGate}
use Rattle.model.specs.declared.Chain.{Chain}
use Rattle.model.specs.declared.Projected.TheVariants as projected
use Rattle.model.specs.Chain.{site_of}
use Rattle.model.specs.Slots.{State, store_room, work_room}
use Rattle.model.specs.Cut.{Ran, attempt, adjacent}
use Rattle.model.specs.Moves.{established}
use Rattle.model.specs.Routing.{Step, stepped, run_steps, gate_run, gate_reason}
use Rattle.model.specs.Born.{readied, projected_at, reset_at, drawn_at}
use Rattle.model.specs.Answers.{Applied, View, view_answer, view_applied, view_projected, view_measured}
use Rattle.model.specs.Sound.{share01, sound}
use Rattle.model.specs.Calls.{After, after, first_of, short, outside, cleared, flagged, gate_refusal, applied_of, gate_call, named_gate_call, project_refusal, project_answer, project_call, measure_refusal, measure_call, reset_refusal, reset_call}
use Rattle.model.specs.Statements.Table.{gate_steps}
use Rattle.model.specs.Statements.Demand1.{Early, Late, lowest, highest, WorkLeft, StoreLeft, Leaves}
use Rattle.model.specs.Statements.Soundness.{Sound}
use Rattle.model.proofs.Laws.MoveLaws.{Apart, apart_at, apart_then}
use Rattle.model.proofs.Laws.RunLaws.{Room, Reach, Within, within_room, readied_within, route_spans, Unmoved, run_steps_within, run_steps_unmoved, projected_at_apart, reset_at_apart}
use Rattle.model.proofs.Laws.Labels.{sound_maps, sites_apart}
use Rattle.model.proofs.Laws.Refusals.{project_passes, measure_passes, reset_passes, applied_number, decides_short, first_of_early, gate_early, project_accepted}
use Rattle.model.proofs.Laws.SoundKept.{AcceptedGate, gate_accepted}
use Rattle.model.proofs.Laws.CutEnds.{Attempted, attempted, above, nan, again, stored, stepped_number}
use Rattle.model.proofs.Laws.Tests.{by_test, decides_false, either_way}

-- ---- the numbers of a run

attempt_late : (gate : List (List Complex)) (k : ℕ) (s : State) → Late (attempt gate k s).refused
attempt_late gate k s = cases (attempted gate k s)
  where
    cases : Attempted gate k s (attempt gate k s) → Late (attempt gate k s).refused
    cases (above a e) = rw e (inr (inl refl))
    cases (nan a n e) = rw e (inr (inr refl))
    cases (again a m e) = rw e (inl refl)
    cases (stored a n m e) = rw e (inl refl)

adjacent_late : (gate : List (List Complex)) (k : ℕ) (s : State) → Late (adjacent gate k s).refused
unfolding adjacent
adjacent_late gate k s =
    either_way (λ (r : Ran). Late r.refused) (attempt gate k s).again _ _ (attempt_late gate k (established k (attempt gate k s).state)) (attempt_late gate k s)

run_steps_late : (xs : List Step) (s : State) → Late (run_steps xs s).refused
unfolding run_steps
run_steps_late [] s = inl refl
run_steps_late (x ∷ xs) s =
    either_way (λ (r : Ran). Late r.refused) (eqb (stepped x s).refused 0) _ _ (run_steps_late xs (stepped x s).state) (rw (stepped_number x s) (adjacent_late x.gate x.site s))

pub gate_run_late : (gate : List (List Complex)) (q0 q1 : ℕ) (s : State) → Late (gate_run gate q0 q1 s).refused
unfolding gate_run
gate_run_late gate q0 q1 s = run_steps_late (gate_steps s q0 q1 gate) s

-- ---- the work slice

module _ (c : Chain) (number : ℕ) (work : List Float) where
  abbrev need : ℕ
  need = work_room c.max_bond_dim

  -- refused before it ran, a call leaves it
  pub work_kept : Early number → WorkLeft c.max_bond_dim number work work
  work_kept e = record { unaltered = λ x. refl; cleared = λ l. absurd (e l); past = refl; long = refl }

  pub work_cleared : Late number → need ≤ length work → WorkLeft c.max_bond_dim number work (cleared c work)
  unfolding cleared
  work_cleared l room = record {
    unaltered = λ e. absurd (e l);
    cleared = λ z. take_at (replicate need zero_f) _ need (length-replicate need zero_f);
    past = drop_at (replicate need zero_f) _ need (length-replicate need zero_f);
    long = simp (length-append, length-replicate, length-drop) (omega arith);
  }

-- ---- a call's record and slices

-- what acceptance gives of the slices
pub record Long (s : State) (work : List Float) : Type 0 where
  pub amplitudes : Room s
  pub scratch : work_room s.chain.max_bond_dim ≤ length work

at_least : {a b : ℕ} → (a < b → ⊥) → b ≤ a
at_least f = omega arith

pub not_short : (s : State) (work : List Float) → short s.chain s.store work ≡ false → Long s work
not_short s work e =
    let f = decides_false (decides_short s.chain s.store work) e in
    record { amplitudes = at_least (λ l. f (inl (omega arith))); scratch = at_least (λ l. f (inr l)) }

-- a store that is as it was but for some slots, in the statement's words
apart_left : {n d lo hi : ℕ} {x y : List Float} → Apart n d lo hi x y → StoreLeft n d lo hi x y
apart_left {n = n} {d = d} a = let e : store_room n d ≡ 4 * n * d * d = omega arith in record { slots = a.slots; past = rw (← e) a.past; long = a.long }

module _ {A : Type 0} (view : A → View) (s : State) (work : List Float) (near far : ℕ) where
  abbrev SitesApart : State → Type 0
  SitesApart t = Apart s.chain.num_qubits s.chain.max_bond_dim (lowest s.chain.center near) (highest s.chain.center s.chain.num_qubits far) s.store t.store

  -- refused before its run, a call leaves everything
  turned_leaves : (a : A) → Early (view a).number → Leaves s work near far (view a).number (after a s work)
  turned_leaves a e = record {
    unaltered = λ x. refl;
    work_left = work_kept s.chain (view a).number work e;
    store_left = record { slots = λ j o. refl; past = refl; long = refl };
  }

  run_leaves : (a : A) (t : State) → Late (view a).number → work_room s.chain.max_bond_dim ≤ length work → SitesApart t → Leaves s work near far (view a).number (after a t (cleared s.chain work))
  run_leaves a t l room x = record {
    work_left = work_cleared s.chain (view a).number work l room;
    unaltered = λ e. absurd (e l);
    store_left = apart_left x;
  }

  pub call_leaves : (k : ℕ) (a back : A) (t : State) → (eqb k 0 ≡ false → Early k) → (view back).number ≡ k
      → (eqb k 0 ≡ true → Late (view a).number × (work_room s.chain.max_bond_dim ≤ length work) × SitesApart t)
      → (let z = cond (eqb k 0) (after a t (cleared s.chain work)) (after back s work) in Leaves s work near far (view z.answer).number z)
  call_leaves k a back t early e accepted =
      by_test (λ (z : After A). Leaves s work near far (view z.answer).number z) (eqb k 0) _ _
      (λ q. let y = accepted q in run_leaves a t y.0 y.1 y.2) (λ q. turned_leaves back (rw e (early q)))

-- ---- the range of a call

pub own_reach : (c : Option ℕ) (n near far : ℕ) → Reach n (lowest c near) (highest c n far) c
own_reach None n near far = (refl, omega arith)
own_reach (Some k) n near far = (omega arith, omega arith)

pub lowest_near : (c : Option ℕ) (near : ℕ) → lowest c near ≤ near
lowest_near None near = omega arith
lowest_near (Some k) near = omega arith

pub far_highest : (c : Option ℕ) (n far : ℕ) → far < n → far ≤ highest c n far
far_highest None n far l = omega arith
far_highest (Some k) n far l = omega arith

-- ---- readings

module _ (s : State) (work : List Float) (q : ℕ) where
  abbrev k : ℕ
  k = site_of s.chain q

  abbrev t : State
  t = readied k s

  abbrev Rewrites : State → Type 0
  Rewrites u = Apart s.chain.num_qubits s.chain.max_bond_dim (lowest s.chain.center k) (highest s.chain.center s.chain.num_qubits k) s.store u.store

  module _ (h : Sound s.chain) (room : Room s) (below : q < s.chain.num_qubits) where
    pub ready : Within (lowest s.chain.center k) (highest s.chain.center s.chain.num_qubits k) s t
    ready =
        let inside : k < s.chain.num_qubits = h.sites.below q below in
        readied_within s h room _ _ k (lowest_near s.chain.center k) (own_reach s.chain.center s.chain.num_qubits k k) inside (far_highest s.chain.center s.chain.num_qubits k (omega arith))

    -- the centre move, then a site rewritten
    then_rewritten : (u : State) → Apart t.chain.num_qubits t.chain.max_bond_dim k k t.store u.store → Rewrites u
    then_rewritten u x =
        let inside : k < s.chain.num_qubits = h.sites.below q below in
        apart_then _ _ (omega arith) (omega arith) (lowest_near s.chain.center k) (far_highest s.chain.center s.chain.num_qubits k (omega arith))
        ready.apart (apart_at ready.keeps.qubits ready.keeps.cap x)

    ready_inside : k < t.chain.num_qubits
    ready_inside = rw ready.keeps.qubits (h.sites.below q below)

    pub projected_rewrites : (o : Bool) → Rewrites (projected_at k o t)
    projected_rewrites o = then_rewritten (projected_at k o t) (projected_at_apart t ready.keeps.sound (within_room ready room) k ready_inside o)

    pub reset_rewrites : (o : Bool) → Rewrites (reset_at k o t)
    reset_rewrites o = then_rewritten (reset_at k o t) (reset_at_apart t ready.keeps.sound (within_room ready room) k ready_inside o)

-- ---- the calls

module _ (s : State) (work : List Float) where
  abbrev tests : Bool → Bool → ℕ
  tests four five = first_of (not (sound s.chain)) (short s.chain s.store work) four five

  early : (four five : Bool) → eqb (tests four five) 0 ≡ false → Early (tests four five)
  early four five = first_of_early (not (sound s.chain)) (short s.chain s.store work) four five

  pub project_leaves : (q : ℕ) (o : Bool) → (let a = project_call s work q o in let k = site_of s.chain q in Leaves s work k k (view_projected a.answer).number a)
  unfolding project_call
  project_leaves q o =
      let k = site_of s.chain q in
      let t = readied k s in
      call_leaves view_projected s work k k (project_refusal s work q) (project_answer k o t) (projected.Refused (project_refusal s work q)) (projected_at k o t)
      (early (outside s.chain q) false) refl
      (λ e.
      let a = project_passes s work q e in
      let l = not_short s work a.long in
      (inl (project_accepted k o t), l.scratch, projected_rewrites s work q a.sound l.amplitudes a.below o))

  pub measure_leaves : (q flag : ℕ) (draw : Float) → (let a = measure_call s work q flag draw in let k = site_of s.chain q in Leaves s work k k (view_measured a.answer).number a)
  unfolding measure_call
  measure_leaves q flag draw =
      let k = site_of s.chain q in
      let t = readied k s in
      let b = drawn_at k draw t in
      call_leaves view_measured s work k k (measure_refusal s work q flag draw) (Ok b) (Err (measure_refusal s work q flag draw)) (flagged flag b (projected_at k b t))
      (early (outside s.chain q || leb 64 flag) (not (share01 draw))) refl
      (λ e.
      let a = measure_passes s work q flag draw e in
      let l = not_short s work a.long in
      (inl refl, l.scratch, projected_rewrites s work q a.sound l.amplitudes a.below b))

  pub reset_leaves : (q : ℕ) (draw : Float) → (let a = reset_call s work q draw in let k = site_of s.chain q in Leaves s work k k (view_answer a.answer).number a)
  unfolding reset_call
  reset_leaves q draw =
      let k = site_of s.chain q in
      let t = readied k s in
      let b = drawn_at k draw t in
      call_leaves view_answer s work k k (reset_refusal s work q draw) (Ok tt) (Err (reset_refusal s work q draw)) (reset_at k b t)
      (early (outside s.chain q) (not (share01 draw))) refl
      (λ e.
      let a = reset_passes s work q draw e in
      let l = not_short s work a.long in
      (inl refl, l.scratch, reset_rewrites s work q a.sound l.amplitudes a.below b))

  module _ (q0 q1 : ℕ) where
    abbrev p : ℕ
    p = site_of s.chain q0

    abbrev q : ℕ
    q = site_of s.chain q1

    module _ (gate : List (List Complex)) (x : AcceptedGate s work q0 q1 gate) where
      room : Room s
      room = (not_short s work x.long).amplitudes

      two : p ≢ q
      two = sites_apart (sound_maps s.chain x.sound) q0 q1 x.first x.second x.two

      gate_rewrites : Within (lowest s.chain.center (min p q)) (highest s.chain.center s.chain.num_qubits (max p q)) s (gate_run gate q0 q1 s).state
      unfolding gate_run
      gate_rewrites =
          let most : max p q < s.chain.num_qubits = omega (arith, x.sound.sites.below q0 x.first, x.sound.sites.below q1 x.second) in
          run_steps_within _ _ (gate_steps s q0 q1 gate) s x.sound room x.inside
          (route_spans _ _ gate p q two (lowest_near s.chain.center (min p q)) (far_highest s.chain.center s.chain.num_qubits (max p q) most))
          (own_reach s.chain.center s.chain.num_qubits (min p q) (max p q))

      run_unmoved : Unmoved (min p q) (max p q) s (gate_run gate q0 q1 s).state
      unfolding gate_run
      run_unmoved =
          let low : min p q ≤ min p q = omega arith in
          let high : max p q ≤ max p q = omega arith in
          run_steps_unmoved (min p q) (max p q) (gate_steps s q0 q1 gate) s x.sound room x.inside (route_spans (min p q) (max p q) gate p q two low high)

    pub gate_leaves : (gate : List (List Complex)) → (let a = gate_call s work q0 q1 gate in Leaves s work (min p q) (max p q) (view_applied a.answer).number a)
    unfolding gate_call
    gate_leaves gate =
        let r = gate_run gate q0 q1 s in
        call_leaves view_applied s work (min p q) (max p q) (gate_refusal s work q0 q1 gate) (applied_of (gate_reason gate q0 q1 s) r.refused) (Err (gate_refusal s work q0 q1 gate)) r.state
        (gate_early s work q0 q1 gate) refl
        (λ e. let x = gate_accepted s work q0 q1 gate e in (rw (applied_number (gate_reason gate q0 q1 s) r.refused) (gate_run_late gate q0 q1 s), (not_short s work x.long).scratch, (gate_rewrites gate x).apart))

    pub gate_unmoved : (gate : List (List Complex)) →
        (let a = gate_call s work q0 q1 gate in a.chain.center ≡ None → StoreLeft s.chain.num_qubits s.chain.max_bond_dim (min p q) (max p q) s.store a.store)
    unfolding gate_call
    gate_unmoved gate =
        by_test (λ (a : After Applied). a.chain.center ≡ None → StoreLeft s.chain.num_qubits s.chain.max_bond_dim (min p q) (max p q) s.store a.store)
        (eqb (gate_refusal s work q0 q1 gate) 0) _ _ (λ e c. apart_left ((run_unmoved gate (gate_accepted s work q0 q1 gate e)).apart c)) (λ e c. record { slots = λ j o. refl; past = refl; long = refl })

    pub named_unmoved : (name : NamedGate) →
        (let a = named_gate_call s work q0 q1 name in
        a.chain.center ≡ None → StoreLeft s.chain.num_qubits s.chain.max_bond_dim (min p q) (max p q) s.store a.store)
    unfolding named_gate_call
    named_unmoved name = gate_unmoved (matrix_of name)

    pub named_leaves : (name : NamedGate) → (let a = named_gate_call s work q0 q1 name in Leaves s work (min p q) (max p q) (view_applied a.answer).number a)
    unfolding named_gate_call
    named_leaves name = gate_leaves (matrix_of name)
