-- Every run and every call leaves a sound record sound, and its settings as they were. Nothing is asked of the store: the new bonds are ranks of what it holds.
use Rattle.std.specs.Prelude.{ℕ, zero, suc, ◌+◌, ◌-◌, ◌^◌, ◌≤◌, ◌<◌, min, max, ◌≡◌, ◌≢◌, Bool, true, false, not, ◌&&◌, ◌||◌, cond, List, [], ◌∷◌, ◌++◌, map, ltb, eqb, Float, Option, Some}
use Rattle.std.proofs.Math.Path.{refl}
use Rattle.std.proofs.Common.{◌∙◌, arith, length-set}
use Rattle.std.specs.Float.Ieee.{le}
use Rattle.complex.specs.declared.Complex.{Complex}
use Rattle.gates.specs.Finite.{all_finite}
use Rattle.gates.specs.Named.{matrix_of}
use Rattle.gates.specs.declared.NamedGate.{NamedGate}
use Rattle.model.specs.declared.Chain.{Chain}
use Rattle.model.specs.declared.WeightSide.{WeightSide}
use Rattle.model.specs.declared.WeightSide.TheVariants.{Left, Right}
use Rattle.model.specs.Chain.{settings_of, site_of, with_bond}
use Rattle.model.specs.Slots.{State, held, lefts, rights}
use Rattle.model.specs.Svd.{Svd, values, raw_value, any_nan}
use Rattle.model.specs.Truncation.{resolvable, share, workspace}
use Rattle.model.specs.Moves.{moved, established, Prepared}
use Rattle.model.specs.Cut.{Tried, weight_site, cut_recorded, cut_stored, concluded, cut_with, attempt, Ran, ran, adjacent, rank_of, keeps_centre, prepared_for}
use Rattle.model.specs.Routing.{down_to, route_of, Step, swap_step, steps_of, relabelled, follow, stepped, run_steps, gate_run}
use Rattle.model.specs.Born.{weight_at, drawn_at, projected_at, reset_at, readied}
use Rattle.model.specs.Sound.{sound}
use Rattle.model.specs.Calls.{After, short, outside, flagged, gate_refusal, gate_call, named_gate_call, project_refusal, project_call, measure_refusal, measure_call, reset_refusal, reset_call}
use Rattle.model.specs.Statements.Table.{gate_steps}
use Rattle.model.proofs.Laws.Labels.{sound_maps, sites_apart}
use Rattle.model.proofs.Laws.Refusals.{project_passes, measure_passes, reset_passes, passes_sound, first_of_none, two_qubits}
use Rattle.model.specs.Statements.Soundness.{Sound}
use Rattle.model.proofs.Laws.SoundChanges.{center_sound, bits_sound, recorded_sound, bond_sound, relabelled_sound, cut_rank_least, cut_rank_most}
use Rattle.model.proofs.Laws.MoveLaws.{last_site, Narrowed, narrowed_none, narrowed_then, moved_narrowed, established_narrowed, readied_by, prepared_by_lem}
use Rattle.model.proofs.Laws.Tests.{by_test, either_way}

-- ---- a record left sound, with the settings that it had

pub record Keeps (c c' : Chain) : Type 0 where
  pub sound : Sound c'
  pub qubits : c'.num_qubits ≡ c.num_qubits
  pub cap : c'.max_bond_dim ≡ c.max_bond_dim
  pub exponent : c'.workspace_exponent ≡ c.workspace_exponent
  pub epsilon : c'.svd_epsilon ≡ c.svd_epsilon
  pub clamp : c'.norm_clamp_min ≡ c.norm_clamp_min

-- the settings are as before if their group is
keeps_by : {c c' : Chain} → Sound c' → settings_of c' ≡ settings_of c → Keeps c c'
keeps_by h e = record { sound = h; qubits = λ i. (e i).qubits; cap = λ i. (e i).cap; exponent = λ i. (e i).exponent; epsilon = λ i. (e i).epsilon; clamp = λ i. (e i).clamp }

pub keeps_none : (c : Chain) → Sound c → Keeps c c
keeps_none c h = keeps_by h refl

pub keeps_then : {a b c : Chain} → Keeps a b → Keeps b c → Keeps a c
keeps_then x y = record {
  sound = y.sound;
  qubits = y.qubits ∙ x.qubits;
  cap = y.cap ∙ x.cap;
  exponent = y.exponent ∙ x.exponent;
  epsilon = y.epsilon ∙ x.epsilon;
  clamp = y.clamp ∙ x.clamp;
}

pub narrowed_keeps : {lo hi : ℕ} {a b : Chain} → Narrowed lo hi a b → Keeps a b
narrowed_keeps x = keeps_by x.sound x.rest.settings

-- ---- the centre brought to a site, and onto a pair if the cut keeps one

module _ (k : ℕ) (s : State) (h : Sound s.chain) where
  abbrev Narrows : State → Type 0
  Narrows t = Narrowed 0 (last_site s) s.chain t.chain

  moved_narrows : (from to : ℕ) → from < s.chain.num_qubits → to < s.chain.num_qubits → Narrows (moved from to s)
  moved_narrows from to hf ht =
      let x = moved_narrowed from to s h hf ht in
      narrowed_then 0 (last_site s) (omega arith) (omega arith) (omega arith) (omega arith) x (narrowed_none 0 (last_site s) _ x.sound)

  pub readied_narrowed : k < s.chain.num_qubits → Narrows (readied k s)
  readied_narrowed inside = readied_by Narrows k s (λ e. established_narrowed k s h inside) (λ from e. moved_narrows from k (h.centre from e) inside)

  pub prepared_narrowed : k + 1 < s.chain.num_qubits → Narrows (prepared_for k s).state
  prepared_narrowed inside =
      prepared_by_lem Narrows k s (narrowed_none 0 (last_site s) s.chain h) (λ e. established_narrowed k s h (omega arith)) (λ from to e l m. moved_narrows from to (h.centre from e) (omega arith))

-- ---- one cut

-- the centre that a stored cut leaves is a site: that of the weight, or the one before
pub stored_centre : (n k : ℕ) → k + 1 < n → (maintained : Bool) (side : WeightSide) (c : Option ℕ) → ((j : ℕ) → c ≡ Some j → j < n) → (j : ℕ) → cond maintained (Some (weight_site side k)) c ≡ Some j → j < n
stored_centre n k inside true Left c below j e = let same : k ≡ j = cc in omega arith
stored_centre n k inside true Right c below j e = let same : k + 1 ≡ j = cc in omega arith
stored_centre n k inside false side c below j e = below j e

module _ (k : ℕ) (maintained : Bool) (side : WeightSide) (s : State) (h : Sound s.chain) (inside : k + 1 < s.chain.num_qubits) (d : Svd) where
  -- the bond is at most the cap, and the high water is raised to it
  cut_stored_keeps : Keeps s.chain (cut_stored k maintained side s d (rank_of s d)).chain
  cut_stored_keeps =
      let c = s.chain in
      let kept = rank_of s d in
      let least : 1 ≤ kept = cut_rank_least c.svd_epsilon c.max_bond_dim (values d) h.settings.cap.0 in
      let most : kept ≤ c.max_bond_dim = cut_rank_most c.svd_epsilon c.max_bond_dim (values d) in
      let shares = share (values d) kept in
      let bonded = bond_sound (cut_recorded k kept shares c) (recorded_sound c h k kept shares inside most) k kept inside least (omega arith) in
      keeps_by (center_sound (with_bond (cut_recorded k kept shares c) k kept) bonded _ (stored_centre s.chain.num_qubits k inside maintained side s.chain.center h.centre)) refl

  concluded_keeps : Keeps s.chain (concluded k maintained side s d).state.chain
  concluded_keeps =
      let none = keeps_none s.chain h in
      let P : Tried → Type 0 = λ t. Keeps s.chain t.state.chain in
      either_way P (any_nan d.wide (raw_value d)) _ _ none (either_way P (not maintained && resolvable (values d) (rank_of s d)) _ _ none cut_stored_keeps)

module _ (gate : List (List Complex)) (k : ℕ) where
  cut_with_keeps : (maintained : Bool) (p : Prepared) → Sound p.state.chain → k + 1 < p.state.chain.num_qubits → Keeps p.state.chain (cut_with gate k maintained p).state.chain
  unfolding cut_with
  cut_with_keeps maintained p h inside = concluded_keeps k maintained p.side p.state h inside _

  pub attempt_keeps : (s : State) → Sound s.chain → k + 1 < s.chain.num_qubits → Keeps s.chain (attempt gate k s).state.chain
  unfolding attempt
  attempt_keeps s h inside =
      let x = narrowed_keeps (prepared_narrowed k s h inside) in
      either_way (λ (t : Tried). Keeps s.chain t.state.chain) (ltb (2 ^ s.chain.workspace_exponent) (workspace (lefts s k) (rights s k) (rights s (k + 1)))) _ _ (keeps_none s.chain h)
      (keeps_then x (cut_with_keeps (keeps_centre k s) (prepared_for k s) x.sound (omega (arith, x.qubits))))

  pub adjacent_keeps : (s : State) → Sound s.chain → k + 1 < s.chain.num_qubits → Keeps s.chain (adjacent gate k s).state.chain
  unfolding adjacent
  adjacent_keeps s h inside =
      let t = (attempt gate k s).state in
      let x = attempt_keeps s h inside in
      let y = narrowed_keeps (established_narrowed k t x.sound (omega (arith, x.qubits))) in
      either_way (λ (r : Ran). Keeps s.chain r.state.chain) (attempt gate k s).again _ _
      (keeps_then x (keeps_then y (attempt_keeps (established k t) y.sound (omega (arith, x.qubits, y.qubits))))) x

-- ---- a route

-- each step's pair lies in a chain of n sites
abbrev pub Inside : ℕ → List Step → Type 0
Inside n [] = Unit
Inside n (x ∷ xs) = (x.site + 1 < n) × Inside n xs

-- the first steps, and the last one
pub inside_first : (n : ℕ) (xs ys : List Step) → Inside n (xs ++ ys) → Inside n xs
inside_first n [] ys h = tt
inside_first n (x ∷ xs) ys h = (h.0, inside_first n xs ys h.1)

pub inside_last : (n : ℕ) (xs : List Step) (x : Step) → Inside n (xs ++ (x ∷ [])) → x.site + 1 < n
inside_last n [] x h = h.0
inside_last n (y ∷ xs) x h = inside_last n xs x h.1

swaps_inside : (n near m : ℕ) (xs : List Step) → near + m + 1 < n → Inside n xs → Inside n (map swap_step (down_to near m) ++ xs)
swaps_inside n near zero xs l h = h
swaps_inside n near (suc m) xs l h = (omega arith, swaps_inside n near m xs (omega arith) h)

route_inside : (n : ℕ) (gate : List (List Complex)) (p q : ℕ) → p < n → q < n → p ≢ q → Inside n (steps_of gate (route_of p q))
route_inside n gate p q hp hq apart = swaps_inside n (min p q) (max p q - min p q - 1) _ (far apart) (near apart, tt)
  where
    far : p ≢ q → min p q + (max p q - min p q - 1) + 1 < n
    far e = omega arith

    near : p ≢ q → min p q + 1 < n
    near e = omega arith

follow_keeps : (c : Chain) (r : Ran) (f : State → Ran) → Keeps c r.state.chain → (Keeps c r.state.chain → Keeps c (f r.state).state.chain) → Keeps c (follow r f).state.chain
follow_keeps c r f x y = either_way (λ (t : Ran). Keeps c t.state.chain) (eqb r.refused 0) _ _ (y x) x

-- a swap's labels follow its cut
abbrev pub relabelled_by : Step → State → State
relabelled_by x t = held (cond x.relabels (relabelled x.site t.chain) t.chain) t.store

relabelled_keeps : (c : Chain) (k : ℕ) → Sound c → k + 1 < c.num_qubits → (b : Bool) → Keeps c (cond b (relabelled k c) c)
relabelled_keeps c k h inside true = keeps_by (relabelled_sound c h k inside) refl
relabelled_keeps c k h inside false = keeps_none c h

pub stepped_keeps : (x : Step) (s : State) → Sound s.chain → x.site + 1 < s.chain.num_qubits → Keeps s.chain (stepped x s).state.chain
unfolding stepped
stepped_keeps x s h inside =
    follow_keeps s.chain (adjacent x.gate x.site s)
    (λ t. ran 0 (relabelled_by x t))
    (adjacent_keeps x.gate x.site s h inside)
    (λ y. keeps_then y (relabelled_keeps (adjacent x.gate x.site s).state.chain x.site y.sound (omega (arith, y.qubits)) x.relabels))

pub run_steps_keeps : (xs : List Step) (s : State) → Sound s.chain → Inside s.chain.num_qubits xs → Keeps s.chain (run_steps xs s).state.chain
unfolding run_steps
run_steps_keeps [] s h inside = keeps_none s.chain h
run_steps_keeps (x ∷ xs) s h inside =
    follow_keeps s.chain (stepped x s) (run_steps xs) (stepped_keeps x s h inside.0)
    (λ y. keeps_then y (run_steps_keeps xs (stepped x s).state y.sound (rw y.qubits inside.1)))

module _ (gate : List (List Complex)) (q0 q1 : ℕ) (s : State) (h : Sound s.chain) (l0 : q0 < s.chain.num_qubits) (l1 : q1 < s.chain.num_qubits) (two : q0 ≢ q1) where
  -- the route of two qubits of the chain lies in it
  pub gate_inside : Inside s.chain.num_qubits (gate_steps s q0 q1 gate)
  gate_inside =
      route_inside s.chain.num_qubits gate (site_of s.chain q0) (site_of s.chain q1) (h.sites.below q0 l0) (h.sites.below q1 l1) (sites_apart (sound_maps s.chain h) q0 q1 l0 l1 two)

  pub gate_run_keeps : Keeps s.chain (gate_run gate q0 q1 s).state.chain
  unfolding gate_run
  gate_run_keeps = run_steps_keeps (gate_steps s q0 q1 gate) s h gate_inside

-- ---- readings

pub readied_keeps : (k : ℕ) (s : State) → Sound s.chain → k < s.chain.num_qubits → Keeps s.chain (readied k s).chain
readied_keeps k s h inside = narrowed_keeps (readied_narrowed k s h inside)

-- a projection and a reset of a site write the store alone
module _ (k : ℕ) (o : Bool) (s : State) where
  pub projected_at_chain : (projected_at k o s).chain ≡ s.chain
  unfolding projected_at
  projected_at_chain = either_way (λ (t : State). t.chain ≡ s.chain) (le (weight_at k o s) s.chain.norm_clamp_min) _ _ refl refl

  pub reset_at_chain : (reset_at k o s).chain ≡ s.chain
  unfolding reset_at
  reset_at_chain = either_way (λ (t : State). t.chain ≡ s.chain) (le (weight_at k o s) s.chain.norm_clamp_min) _ _ refl refl

pub flagged_keeps : (flag : ℕ) (b : Bool) (s : State) → Sound s.chain → Keeps s.chain (flagged flag b s).chain
flagged_keeps flag b s h = keeps_by (bits_sound s.chain h _ (rw length-set h.sizes.bits)) refl

-- ---- the calls

-- what a gate that 3, 2, 4 and 5 do not refuse has: a sound record, long slices and two qubits, whose route lies in the chain
pub record AcceptedGate (s : State) (work : List Float) (q0 q1 : ℕ) (gate : List (List Complex)) : Type 0 where
  pub sound : Sound s.chain
  pub long : short s.chain s.store work ≡ false
  pub first : q0 < s.chain.num_qubits
  pub second : q1 < s.chain.num_qubits
  pub two : q0 ≢ q1
  pub inside : Inside s.chain.num_qubits (gate_steps s q0 q1 gate)

module _ (s : State) (work : List Float) (q0 q1 : ℕ) (gate : List (List Complex)) where
  abbrev four : Bool
  four = outside s.chain q0 || outside s.chain q1 || eqb q0 q1

  pub gate_accepted : eqb (gate_refusal s work q0 q1 gate) 0 ≡ true → AcceptedGate s work q0 q1 gate
  gate_accepted e =
      let p = first_of_none (not (sound s.chain)) (short s.chain s.store work) four (not (all_finite gate)) e in
      let h = passes_sound s.chain p.three in
      let t = two_qubits s.chain.num_qubits q0 q1 p.four in
      record { sound = h; long = p.two; first = t.0; second = t.1; two = t.2; inside = gate_inside gate q0 q1 s h t.0 t.1 t.2 }

-- a call that is refused leaves the record, and one that is accepted leaves what its run does
call_keeps : {A : Type 0} (c : Chain) (k : ℕ) (run back : After A) → (eqb k 0 ≡ true → Keeps c run.chain) → Keeps c back.chain → Keeps c (cond (eqb k 0) run back).chain
call_keeps c k run back x y = by_test (λ (a : After _). Keeps c a.chain) (eqb k 0) run back x (λ e. y)

module _ (s : State) (work : List Float) (h : Sound s.chain) where
  pub gate_call_keeps : (q0 q1 : ℕ) (gate : List (List Complex)) → Keeps s.chain (gate_call s work q0 q1 gate).chain
  unfolding gate_call
  gate_call_keeps q0 q1 gate =
      call_keeps s.chain (gate_refusal s work q0 q1 gate) _ _ (λ e. let x = gate_accepted s work q0 q1 gate e in gate_run_keeps gate q0 q1 s h x.first x.second x.two) (keeps_none s.chain h)

  pub named_gate_call_keeps : (q0 q1 : ℕ) (name : NamedGate) → Keeps s.chain (named_gate_call s work q0 q1 name).chain
  unfolding named_gate_call
  named_gate_call_keeps q0 q1 name = gate_call_keeps q0 q1 (matrix_of name)

  pub project_call_keeps : (q : ℕ) (o : Bool) → Keeps s.chain (project_call s work q o).chain
  unfolding project_call
  project_call_keeps q o = call_keeps s.chain (project_refusal s work q) _ _ (λ e.
      let k = site_of s.chain q in
      let x = readied_keeps k s h (project_passes s work q e).site_below in
      rw (projected_at_chain k o (readied k s)) x) (keeps_none s.chain h)

  pub measure_call_keeps : (q flag : ℕ) (draw : Float) → Keeps s.chain (measure_call s work q flag draw).chain
  unfolding measure_call
  measure_call_keeps q flag draw = call_keeps s.chain (measure_refusal s work q flag draw) _ _ (λ e.
      let k = site_of s.chain q in
      let x = readied_keeps k s h (measure_passes s work q flag draw e).site_below in
      let t = projected_at k (drawn_at k draw (readied k s)) (readied k s) in
      let y : Keeps s.chain t.chain = rw (projected_at_chain k (drawn_at k draw (readied k s)) (readied k s)) x in
      keeps_then y (flagged_keeps flag _ t y.sound)) (keeps_none s.chain h)

  pub reset_call_keeps : (q : ℕ) (draw : Float) → Keeps s.chain (reset_call s work q draw).chain
  unfolding reset_call
  reset_call_keeps q draw = call_keeps s.chain (reset_refusal s work q draw) _ _ (λ e.
      let k = site_of s.chain q in
      let x = readied_keeps k s h (reset_passes s work q draw e).site_below in
      rw (reset_at_chain k (drawn_at k draw (readied k s)) (readied k s)) x) (keeps_none s.chain h)
