-- A figure to which cuts add, as the discarded weight, is the shares of the stored cuts that count for it, added from the left in the order of the cuts. Other calls leave it, and the labels, as they were.
-- For the chain's weight it is the proof of (e); `Laws/BondShares` has it for each bond's.
use Rattle.std.specs.Prelude.{ℕ, ◌+◌, ◌<◌, ◌≡◌, refl, Bool, true, false, cond, eqb, length, Float}
use Rattle.std.proofs.Common.{arith, sym, ◌∙◌, subst, eq-eqb, ne_eqb}
use Rattle.std.proofs.Math.Path.{ap}
use mathlib.Core.List.{List, [], ◌∷◌, ◌++◌, map, foldl, map-append}
use Rattle.std.proofs.lemmas.Bool.{eqb-false}
use Rattle.std.specs.Float.{binary64}
use Rattle.std.specs.Float.Ieee.{add}
use Rattle.complex.specs.declared.Complex.{Complex}
use Rattle.gates.specs.Named.{matrix_of}
use Rattle.model.specs.declared.Layered.{Layered}
use Rattle.model.specs.declared.Projected.{Projected}
use Rattle.model.specs.declared.Chain.{Chain}
use Rattle.model.specs.Chain.{site_of, labels_of, CutTotals, cut_totals_of}
use Rattle.model.specs.Slots.{State}
use Rattle.model.specs.Svd.{values}
use Rattle.model.specs.Truncation.{rank, share, recorded}
use Rattle.model.specs.Cut.{rank_of, cut_recorded, Ran, ran, adjacent}
use Rattle.model.specs.Layers.{Placed, layer_of}
use Rattle.model.specs.Routing.{Step, relabelled, follow, stepped, run_steps, gate_run, gate_reason, placed_run, layer_run}
use Rattle.model.specs.Born.{drawn_at, readied}
use Rattle.model.specs.Answers.{Answer, Applied, Measured, view_applied, view_layered}
use Rattle.model.specs.Calls.{After, gate_refusal, gate_call, named_gate_call, layer_refusal, layer_call, project_refusal, project_call, measure_refusal, measure_call, reset_refusal, reset_call}
use Rattle.model.specs.Lists.{Call, gate, named, layer, project, measure, reset, left, state_of, final_state}
use Rattle.model.specs.Statements.Table.{gate_steps}
use Rattle.model.specs.Statements.Demand1.{Early, Late}
use Rattle.model.specs.Statements.Pinned.{last_in}
use Rattle.model.specs.Statements.Demand1Cuts.{Dropped, dropped_at, cut_svd, cut_share, shares_of, unless_early, layer_shares, call_shares, list_shares, of_chain, WeightOfCall, WeightOfList}
use Rattle.model.specs.Statements.Soundness.{Sound}
use Rattle.model.proofs.Laws.Refusals.{AcceptedReading, project_passes, measure_passes, reset_passes, applied_number, decides_late, gate_early}
use Rattle.model.proofs.Laws.AfterStates.{gate_run_late}
use Rattle.model.proofs.Laws.SoundKept.{gate_accepted, gate_inside, Inside, stepped_keeps, readied_narrowed, projected_at_chain, reset_at_chain, relabelled_by}
use Rattle.model.proofs.Laws.LayerRuns.{Fits, AllFit, layer_early, layer_accepted, layer_fits, layer_by, layer_run_ended, ended_late}
use Rattle.model.proofs.Laws.CutEnds.{cut_at, CutEnds, above, nan, stored, adjacent_ends, last_narrowed, refused_narrowed}
use Rattle.model.proofs.Laws.Tests.{by_test, either_way, test_true, test_false}

-- ---- shares added from the left

abbrev pub added : Float → List Float → Float
added = foldl (add binary64)

pub recorded_added : (d : Float) (xs : List Float) → recorded d xs ≡ added d xs
recorded_added d [] = refl
recorded_added d (x ∷ xs) = recorded_added (add binary64 d x) xs

added_append : (d : Float) (xs ys : List Float) → added d (xs ++ ys) ≡ added (added d xs) ys
added_append d [] ys = refl
added_append d (x ∷ xs) ys = added_append (add binary64 d x) xs ys

-- ---- a figure to which cuts add

-- it is read from the totals, and of the shares only those that are chosen count: a stored cut adds those of its own in their order
pub record Tally : Type 0 where
  pub figure : CutTotals → Float
  pub chosen : List Dropped → List Float
  pub none : chosen [] ≡ []
  pub joined : (xs ys : List Dropped) → chosen (xs ++ ys) ≡ chosen xs ++ chosen ys
  pub of_cut : (k chi : ℕ) (shares : List Float) (c : Chain) → k < length c.bond_discarded
      → figure (cut_totals_of (cut_recorded k chi shares c)) ≡ added (figure (cut_totals_of c)) (chosen (map (dropped_at k) shares))

abbrev pub tallied : Tally → State → Float
tallied y s = y.figure (cut_totals_of s.chain)

-- the figure with the shares of a list that count for it
abbrev pub counted : Tally → Float → List Dropped → Float
counted y d xs = added d (y.chosen xs)

counted_none : (y : Tally) (d : Float) → d ≡ counted y d []
counted_none y d = ap (added d) (sym y.none)

counted_append : (y : Tally) (d : Float) (xs ys : List Dropped) → counted y d (xs ++ ys) ≡ counted y (counted y d xs) ys
counted_append y d xs ys = ap (added d) (y.joined xs ys) ∙ added_append d (y.chosen xs) (y.chosen ys)

-- the weight of the chain: every share counts
pub chosen_all : (k : ℕ) (shares : List Float) → of_chain (map (dropped_at k) shares) ≡ shares
chosen_all k [] = refl
chosen_all k (x ∷ xs) = ap (λ (r : List Float). x ∷ r) (chosen_all k xs)

abbrev pub of_chain_lem : Tally
of_chain_lem = record {
  figure = λ t. t.discarded;
  chosen = of_chain;
  none = refl;
  joined = map-append (λ (x : Dropped). x.share);
  of_cut = λ k chi shares c room. recorded_added c.truncation_discarded shares ∙ ap (added c.truncation_discarded) (sym (chosen_all k shares));
}

-- ---- one step

-- the shares of a step that is not refused
abbrev step_shares : Step → State → List Dropped
step_shares x s = map (dropped_at x.site) (cut_share x.gate x.site s)

-- a run's figure: that before, and the shares if it was not refused
abbrev Weighed : Tally → List Dropped → State → Ran → Type 0
Weighed y shares s r = tallied y r.state ≡ cond (eqb r.refused 0) (counted y (tallied y s) shares) (tallied y s)

module _ (y : Tally) (x : Step) (s : State) (h : Sound s.chain) (inside : x.site + 1 < s.chain.num_qubits) where
  stored_tallied : tallied y (cut_at x.gate x.site s) ≡ counted y (tallied y s) (step_shares x s)
  stored_tallied =
      let d = cut_svd x.gate x.site s in
      let t = last_in x.gate x.site s in
      let last = last_narrowed x.gate x.site s h inside in
      let same = last.rest in
      y.of_cut x.site (rank_of t d) (share (values d) (rank_of t d)) t.chain (omega (arith, last.sound.sizes.by_bond, h.settings.qubits.1))
      ∙ (λ i. counted y (y.figure (same.totals i)) (map (dropped_at x.site) (share (values d) (rank (same.settings i).epsilon (same.settings i).cap (values d)))))

  relabels_totals : (t : State) → cut_totals_of (relabelled_by x t).chain ≡ cut_totals_of t.chain
  relabels_totals t = either_way (λ (c : Chain). cut_totals_of c ≡ cut_totals_of t.chain) x.relabels (relabelled x.site t.chain) t.chain refl refl

  abbrev Follows : Ran → Type 0
  Follows r = Weighed y (step_shares x s) s (follow r (λ t. ran 0 (relabelled_by x t)))

  -- a refused cut leaves the totals
  refused_follows : (r : Ran) → CutEnds x.gate x.site s r → eqb r.refused 0 ≡ false → Follows r
  refused_follows r c e = rw (e, e) (ap y.figure (refused_narrowed x.gate x.site s h inside r c (eqb-false r.refused 0 e)).rest.totals)

  step_ends : (r : Ran) → CutEnds x.gate x.site s r → Follows r
  step_ends r (above a e) = refused_follows r (above a e) (ap (λ (z : Ran). eqb z.refused 0) e)
  step_ends r (nan a t n e) = refused_follows r (nan a t n e) (ap (λ (z : Ran). eqb z.refused 0) e)
  step_ends r (stored a n e) = subst Follows (sym e) (ap y.figure (relabels_totals (cut_at x.gate x.site s)) ∙ stored_tallied)

  step_tallied : Weighed y (step_shares x s) s (stepped x s)
  unfolding stepped
  step_tallied = step_ends (adjacent x.gate x.site s) (adjacent_ends x.gate x.site s h inside)

-- ---- a run, refused or not

pub run_tallied : (y : Tally) (steps : List Step) (s : State) → Sound s.chain → Inside s.chain.num_qubits steps
    → tallied y (run_steps steps s).state ≡ counted y (tallied y s) (shares_of steps s)
unfolding run_steps shares_of
run_tallied y [] s h inside = counted_none y (tallied y s)
run_tallied y (x ∷ xs) s h inside =
    let z = stepped_keeps x s h inside.0 in
    pick (eqb (stepped x s).refused 0) refl (run_tallied y xs (stepped x s).state z.sound (rw z.qubits inside.1))
  where
    pick : (b : Bool) → eqb (stepped x s).refused 0 ≡ b
        → tallied y (run_steps xs (stepped x s).state).state ≡ counted y (tallied y (stepped x s).state) (shares_of xs (stepped x s).state)
        → tallied y (cond b (run_steps xs (stepped x s).state) (stepped x s)).state ≡ counted y (tallied y s) (cond b (step_shares x s ++ shares_of xs (stepped x s).state) [])
    pick true e z =
        z ∙ ap (λ (w : Float). counted y w (shares_of xs (stepped x s).state)) (rw e at (step_tallied y x s h inside.0))
        ∙ sym (counted_append y (tallied y s) (step_shares x s) (shares_of xs (stepped x s).state))
    pick false e z = rw e at (step_tallied y x s h inside.0) ∙ counted_none y (tallied y s)

-- ---- the calls that make no gate: they change the bonds, the centre and the flags at most

pub record Reads (c c' : Chain) : Type 0 where
  pub labels : labels_of c' ≡ labels_of c
  pub totals : cut_totals_of c' ≡ cut_totals_of c

reads_none : (c : Chain) → Reads c c
reads_none c = record { labels = refl; totals = refl }

module _ (s : State) (work : List Float) where
  -- with the centre on the site of a qubit of the chain
  readied_reads : (q : ℕ) → AcceptedReading s work q → Reads s.chain (readied (site_of s.chain q) s).chain
  readied_reads q a =
      let x = (readied_narrowed (site_of s.chain q) s a.sound a.site_below).rest in
      record { labels = x.labels; totals = x.totals }

  pub project_reads : (q : ℕ) (o : Bool) → Reads s.chain (project_call s work q o).chain
  unfolding project_call
  project_reads q o =
      let k = site_of s.chain q in
      by_test (λ (a : After Projected). Reads s.chain a.chain) (eqb (project_refusal s work q) 0) _ _
      (λ e. rw (projected_at_chain k o (readied k s)) (readied_reads q (project_passes s work q e)))
      (λ e. reads_none s.chain)

  pub measure_reads : (q flag : ℕ) (draw : Float) → Reads s.chain (measure_call s work q flag draw).chain
  unfolding measure_call
  measure_reads q flag draw =
      let k = site_of s.chain q in
      by_test (λ (a : After Measured). Reads s.chain a.chain) (eqb (measure_refusal s work q flag draw) 0) _ _
      (λ e.
      let x = readied_reads q (measure_passes s work q flag draw e) in
      let same = projected_at_chain k (drawn_at k draw (readied k s)) (readied k s) in
      record { labels = ap labels_of same ∙ x.labels; totals = ap cut_totals_of same ∙ x.totals })
      (λ e. reads_none s.chain)

  pub reset_reads : (q : ℕ) (draw : Float) → Reads s.chain (reset_call s work q draw).chain
  unfolding reset_call
  reset_reads q draw =
      let k = site_of s.chain q in
      by_test (λ (a : After Answer). Reads s.chain a.chain) (eqb (reset_refusal s work q draw) 0) _ _
      (λ e. rw (reset_at_chain k (drawn_at k draw (readied k s)) (readied k s)) (readied_reads q (reset_passes s work q draw e)))
      (λ e. reads_none s.chain)

-- ---- a call, and a list of calls

unless_early_lem : (number : ℕ) (shares : List Dropped) → Early number → unless_early number shares ≡ []
unless_early_lem number shares e = rw (test_false (decides_late number) e)

unless_late : (number : ℕ) (shares : List Dropped) → Late number → unless_early number shares ≡ shares
unless_late number shares l = rw (test_true (decides_late number) l)

gate_tallied : (y : Tally) (s : State) (work : List Float) (q0 q1 : ℕ) (g : List (List Complex))
    → (let a = gate_call s work q0 q1 g in tallied y (left a) ≡ counted y (tallied y s) (unless_early (view_applied a.answer).number (shares_of (gate_steps s q0 q1 g) s)))
unfolding gate_call gate_run
gate_tallied y s work q0 q1 g =
    by_test (λ (a : After Applied). tallied y (left a) ≡ counted y (tallied y s) (unless_early (view_applied a.answer).number shares)) (eqb (gate_refusal s work q0 q1 g) 0) _ _
    (λ e.
    let x = gate_accepted s work q0 q1 g e in
    let n = (gate_run g q0 q1 s).refused in
    let late = ap (λ (m : ℕ). unless_early m shares) (applied_number (gate_reason g q0 q1 s) n) ∙ unless_late n shares (gate_run_late g q0 q1 s) in
    run_tallied y (gate_steps s q0 q1 g) s x.sound x.inside ∙ ap (counted y (tallied y s)) (sym late))
    (λ e. counted_none y (tallied y s) ∙ ap (counted y (tallied y s)) (sym (unless_early_lem (gate_refusal s work q0 q1 g) shares (gate_early s work q0 q1 g e))))
  where
    shares : List Dropped
    shares = shares_of (gate_steps s q0 q1 g) s

-- the gates of a layer in turn, and a layer
layer_run_tallied : (y : Tally) (p : ℕ) (xs : List Placed) (s : State) → Sound s.chain → AllFit s.chain.num_qubits xs
    → tallied y (layer_run p xs s).state ≡ counted y (tallied y s) (layer_shares xs s)
unfolding layer_shares gate_run
layer_run_tallied y =
    layer_by (λ p xs s r. tallied y r.state ≡ counted y (tallied y s) (layer_shares xs s)) (λ p s h. counted_none y (tallied y s))
    (λ p x xs s h f e r k.
    let t = (placed_run x s).state in
    k ∙ ap (λ (w : Float). counted y w (layer_shares xs t)) (one x s h f) ∙ rw (eq-eqb (placed_run x s).refused 0 e) (sym (counted_append y (tallied y s) (shares x s) (layer_shares xs t))))
    (λ p x xs s h f e. one x s h f ∙ counted_none y _ ∙ rw (ne_eqb (placed_run x s).refused 0 e) (sym (counted_append y (tallied y s) (shares x s) [])))
  where
    shares : Placed → State → List Dropped
    shares x s = shares_of (gate_steps s x.q0 x.q1 x.gate) s

    one : (x : Placed) (s : State) → Sound s.chain → Fits s.chain.num_qubits x → tallied y (placed_run x s).state ≡ counted y (tallied y s) (shares x s)
    one x s h f = run_tallied y (gate_steps s x.q0 x.q1 x.gate) s h (gate_inside x.gate x.q0 x.q1 s h f.first f.second f.two)

layer_tallied : (y : Tally) (s : State) (work : List Float) (pairs : List ℕ) (gates : List Float)
    → (let a = layer_call s work pairs gates in tallied y (left a) ≡ counted y (tallied y s) (unless_early (view_layered a.answer).number (layer_shares (layer_of pairs gates) s)))
unfolding layer_call
layer_tallied y s work pairs gates =
    by_test (λ (a : After Layered). tallied y (left a) ≡ counted y (tallied y s) (unless_early (view_layered a.answer).number shares)) (eqb (layer_refusal s work pairs gates) 0) _ _
    (λ e.
    let x = layer_accepted s work pairs gates e in
    let fits = layer_fits s work pairs gates x in
    let late = ended_late (layer_run 0 (layer_of pairs gates) s).answer (layer_run_ended 0 (layer_of pairs gates) s x.sound fits) in
    layer_run_tallied y 0 (layer_of pairs gates) s x.sound fits ∙ ap (counted y (tallied y s)) (sym (unless_late _ shares late)))
    (λ e. counted_none y (tallied y s) ∙ ap (counted y (tallied y s)) (sym (unless_early_lem (layer_refusal s work pairs gates) shares (layer_early s work pairs gates e))))
  where
    shares : List Dropped
    shares = layer_shares (layer_of pairs gates) s

-- a call that makes no gate leaves the totals
reads_tallied : (y : Tally) (s : State) (c : Chain) → Reads s.chain c → y.figure (cut_totals_of c) ≡ counted y (tallied y s) []
reads_tallied y s c r = ap y.figure r.totals ∙ counted_none y (tallied y s)

pub call_tallied : (y : Tally) (c : Call) (s : State) → tallied y (state_of c s) ≡ counted y (tallied y s) (call_shares c s)
unfolding call_shares named_gate_call
call_tallied y (gate q0 q1 g work) s = gate_tallied y s work q0 q1 g
call_tallied y (named q0 q1 name work) s = gate_tallied y s work q0 q1 (matrix_of name)
call_tallied y (layer pairs gates work) s = layer_tallied y s work pairs gates
call_tallied y (project q o work) s = reads_tallied y s _ (project_reads s work q o)
call_tallied y (measure q flag draw work) s = reads_tallied y s _ (measure_reads s work q flag draw)
call_tallied y (reset q draw work) s = reads_tallied y s _ (reset_reads s work q draw)

pub list_tallied : (y : Tally) (cs : List Call) (s : State) → tallied y (final_state cs s) ≡ counted y (tallied y s) (list_shares cs s)
list_tallied y [] s = counted_none y (tallied y s)
list_tallied y (c ∷ cs) s =
    list_tallied y cs (state_of c s) ∙ ap (λ (w : Float). counted y w (list_shares cs (state_of c s))) (call_tallied y c s)
    ∙ sym (counted_append y (tallied y s) (call_shares c s) (list_shares cs (state_of c s)))

-- ---- of the chain

pub weight_of_call : WeightOfCall
unfolding WeightOfCall
weight_of_call = call_tallied of_chain_lem

pub weight_of_list : WeightOfList
unfolding WeightOfList
weight_of_list = list_tallied of_chain_lem
