-- The call of a layer: its number by its table; what it leaves; and that it is its gates called one by one, the proof of `Statements/Layers`.
use Prim.Native.Nat.{ℕ, ◌+◌, ◌*◌, ◌-◌, ◌/◌, ◌≤◌, ◌<◌, min, max}
use native.Mathlib.Omega.{arith}
use Rattle.std.proofs.Math.Path.{◌≡◌, refl, sym, ap}
use Rattle.std.proofs.Common.{◌∙◌, subst, inl, inr, length-append, length-drop, drop_at, eq-eqb, ne_eqb, le-ltb}
use Rattle.std.specs.Prelude.{◌⊎◌, ◌≢◌, Bool, not, ◌&&◌, ◌||◌, cond, drop, replicate, Float, Option, None, Some, Ok, Err}
use Rattle.std.proofs.Math.Bool.{true}
use mathlib.Core.List.{List, [], ◌∷◌, ◌++◌, map}
use lib.Dec.{T, eqb, ltb}
use Rattle.std.proofs.Math.ListN.{length, get_or, get_or-map}
use Rattle.std.proofs.lemmas.List.{length-replicate}
use Rattle.std.proofs.lemmas.Bool.{eqb-false, lt-leb}
use Rattle.std.specs.Float.Ieee.Bits.{is_true}
use Rattle.std.specs.Float.Ieee.Fits.{and_r}
use Rattle.complex.specs.Complex.{zero_f}
use Rattle.model.specs.declared.Chain.{Chain}
use Rattle.model.specs.declared.Reason.{Reason}
use Rattle.model.specs.declared.Layered.{Layered}
use Rattle.model.specs.declared.Layered.TheVariants as layered
use Rattle.model.specs.Chain.{Labels, labels_of, site_of}
use Rattle.model.specs.Slots.{State, work_room}
use Rattle.model.specs.Cut.{Ran}
use Rattle.model.specs.Layers.{pair_count, first, second, gate_at, Placed, layer_of}
use Rattle.model.specs.Routing.{Step, stepped, gate_run, gate_reason, placed_run, layer_run}
use Rattle.model.specs.Sound.{sound}
use Rattle.model.specs.Answers.{Applied, view_applied, view_layered}
use Rattle.model.specs.Calls.{After, after, first_of, lengths_agree, meet, pairs_fit, pairs_apart, gates_finite, cleared, gate_refusal, gate_after, gate_call, layer_refusal, layer_after, layer_call}
use Rattle.model.specs.Lists.{left}
use Rattle.model.specs.Statements.Soundness.{Sound}
use Rattle.model.specs.Statements.Table.{◌when◌, FirstGround, ShortSlice, Unsound, Unpaired, NoPairAt, Names, NamedTwice, NoGateAt, cut_rows, gate_steps, layer_rows, layer_table}
use Rattle.model.specs.Statements.Demand1.{Late, Leaves, nearest_of, farthest_of}
use Rattle.model.specs.Statements.Demand1Cuts.{site_after, labels_after, labels_through}
use Rattle.model.specs.Statements.Layers.{placed_call, one_by_one, StopsAtPair, LayerAsGates}
use Rattle.model.proofs.Laws.Refusals.{without, first_then, untested, test, table_answered, decides_unsound, decides_short, decides_gate, applied_number, run_late}
use Rattle.model.proofs.Laws.SoundFacts.{facts_sound}
use Rattle.model.proofs.Laws.SoundKept.{gate_inside}
use Rattle.model.proofs.Laws.Gates.{run_first, decides_pair, gate_ends}
use Rattle.model.proofs.Laws.RouteLabels.{gate_labels}
use Rattle.model.proofs.Laws.Labels.{sound_maps, sites_apart}
use Rattle.model.proofs.Laws.RunLaws.{Room, Reach, Within, within_none, within_then, within_room, within_reach, route_spans, run_steps_within}
use Rattle.model.proofs.Laws.AfterStates.{lowest_near, far_highest, own_reach, not_short, call_leaves}
use Rattle.model.proofs.Laws.LayerRuns.{Fits, AllFit, AcceptedLayer, layer_early, layer_accepted, layer_fits, layer_by, layer_run_ended, Ended, ended_late}
use Rattle.model.proofs.Laws.Tests.{Decides, by_test, decides_as, decides_both, decides_either, decides_equal, decides_not, decides_not_not, decides_some}

-- ---- the grounds of a layer

module _ (pairs : List ℕ) (gates : List Float) where
  pub decides_lengths : Decides (not (lengths_agree (length pairs) (length gates))) (Unpaired pairs gates)
  unfolding lengths_agree
  decides_lengths = decides_not (decides_as (decides_both (decides_equal (length pairs) (2 * (length pairs / 2))) (decides_equal (length gates) (32 * (length pairs / 2))))
      (λ x. (length pairs / 2, x.0, x.1)) (λ x. (omega (arith, x.1), omega (arith, x.1, x.2))))

  decides_fit : (c : Chain) → Decides (not (pairs_fit c.num_qubits pairs)) (NoPairAt c pairs)
  unfolding pairs_fit
  decides_fit c = decides_some (pair_count pairs) _ _ (λ p. decides_not_not (decides_pair c (first pairs p) (second pairs p)))

  decides_meet : (r p : ℕ) → Decides (meet pairs r p) ((q : ℕ) × Names pairs r q × Names pairs p q)
  decides_meet r p =
      decides_as (decides_either (decides_either (decides_either (decides_equal (first pairs r) (first pairs p)) (decides_equal (first pairs r) (second pairs p))) (decides_equal (second pairs r) (first pairs p))) (decides_equal (second pairs r) (second pairs p))) to back
    where
      to : (((first pairs r ≡ first pairs p) ⊎ (first pairs r ≡ second pairs p)) ⊎ (second pairs r ≡ first pairs p)) ⊎ (second pairs r ≡ second pairs p) → (q : ℕ) × Names pairs r q × Names pairs p q
      to (inl (inl (inl e))) = (first pairs r, inl refl, inl e)
      to (inl (inl (inr e))) = (first pairs r, inl refl, inr e)
      to (inl (inr e)) = (second pairs r, inr refl, inl e)
      to (inr e) = (second pairs r, inr refl, inr e)

      back : (q : ℕ) × Names pairs r q × Names pairs p q → (((first pairs r ≡ first pairs p) ⊎ (first pairs r ≡ second pairs p)) ⊎ (second pairs r ≡ first pairs p)) ⊎ (second pairs r ≡ second pairs p)
      back (q, inl a, inl b) = inl (inl (inl (sym a ∙ b)))
      back (q, inl a, inr b) = inl (inl (inr (sym a ∙ b)))
      back (q, inr a, inl b) = inl (inr (sym a ∙ b))
      back (q, inr a, inr b) = inr (sym a ∙ b)

  pub decides_twice : Decides (not (pairs_apart pairs)) (NamedTwice pairs)
  unfolding pairs_apart
  decides_twice = decides_some (pair_count pairs) _ _ (λ p. decides_some p _ _ (λ r. decides_not_not (decides_meet r p)))

  decides_gates : Decides (not (gates_finite (pair_count pairs) gates)) (NoGateAt pairs gates)
  unfolding gates_finite
  decides_gates = decides_some (pair_count pairs) _ _ (λ p. decides_gate (gate_at gates p))

-- ---- the number

cut_rows_numbered : (xs : List Step) (s : State) → T (without 0 (cut_rows xs s))
cut_rows_numbered [] s = tt
cut_rows_numbered (x ∷ xs) s = cut_rows_numbered xs (stepped x s).state

-- the rows of a gate's cuts give the number of its run
placed_first : (x : Placed) (s : State) → Sound s.chain → Fits s.chain.num_qubits x → FirstGround (cut_rows (gate_steps s x.q0 x.q1 x.gate) s) (placed_run x s).refused
unfolding gate_run
placed_first x s h f = run_first (gate_steps s x.q0 x.q1 x.gate) s h (gate_inside x.gate x.q0 x.q1 s h f.first f.second f.two)

layer_run_first : (p : ℕ) (xs : List Placed) (s : State) → Sound s.chain → AllFit s.chain.num_qubits xs → FirstGround (layer_rows xs s) (view_layered (layer_run p xs s).answer).number
layer_run_first =
    layer_by (λ p xs s r. FirstGround (layer_rows xs s) (view_layered r.answer).number) (λ p s h. refl)
    (λ p x xs s h f e r k. subst (FirstGround (layer_rows (x ∷ xs) s)) (ap (λ (b : Bool). cond b (view_layered r.answer).number (placed_run x s).refused) (eq-eqb (placed_run x s).refused 0 e)) (rows x xs s h f (view_layered r.answer).number (λ z. k)))
    (λ p x xs s h f e. subst (FirstGround (layer_rows (x ∷ xs) s)) (ap (λ (b : Bool). cond b 0 (placed_run x s).refused) (ne_eqb (placed_run x s).refused 0 e)) (rows x xs s h f 0 (λ z. absurd (e z))))
  where
    rows : (x : Placed) (xs : List Placed) (s : State) → Sound s.chain → Fits s.chain.num_qubits x → (m : ℕ) → ((placed_run x s).refused ≡ 0 → FirstGround (layer_rows xs (placed_run x s).state) m)
        → FirstGround (layer_rows (x ∷ xs) s) (cond (eqb (placed_run x s).refused 0) m (placed_run x s).refused)
    rows x xs s h f m rest = let steps = gate_steps s x.q0 x.q1 x.gate in
        first_then (cut_rows steps s) (layer_rows xs (placed_run x s).state) (placed_run x s).refused m (cut_rows_numbered steps s) (placed_first x s h f) rest

-- ---- the sites that it may rewrite, and its labels

-- a gate that is not refused has the labels of the closed form
placed_labels : (x : Placed) (s : State) → Sound s.chain → Fits s.chain.num_qubits x → (placed_run x s).refused ≡ 0 → labels_of (placed_run x s).state.chain ≡ labels_after (labels_of s.chain) x.q0 x.q1
unfolding gate_run
placed_labels x s h f e = gate_labels x.gate x.q0 x.q1 s h f.first f.second f.two e

layer_run_labels : (p : ℕ) (xs : List Placed) (s : State) → Sound s.chain → AllFit s.chain.num_qubits xs
    → (layer_run p xs s).answer ≡ layered.Done → labels_of (layer_run p xs s).state.chain ≡ labels_through xs (labels_of s.chain)
layer_run_labels =
    layer_by (λ p xs s r. r.answer ≡ layered.Done → labels_of r.state.chain ≡ labels_through xs (labels_of s.chain)) (λ p s h e. refl)
    (λ p x xs s h f e r k done. k done ∙ ap (labels_through xs) (placed_labels x s h f e))
    (λ p x xs s h f e done. let z : ◌≡◌ {A = ℕ} 0 1 = cc in absurd (omega arith))

-- its own cuts lie between its qubits' sites
placed_within : (lo hi : ℕ) (x : Placed) (s : State) → Sound s.chain → Fits s.chain.num_qubits x → Room s
    → (let p = site_of s.chain x.q0 in let q = site_of s.chain x.q1 in (lo ≤ min p q) × (max p q ≤ hi)) → Reach s.chain.num_qubits lo hi s.chain.center → Within lo hi s (placed_run x s).state
unfolding gate_run
placed_within lo hi x s h f room b reach =
    let apart = sites_apart (sound_maps s.chain h) x.q0 x.q1 f.first f.second f.two in
    run_steps_within lo hi (gate_steps s x.q0 x.q1 x.gate) s h room (gate_inside x.gate x.q0 x.q1 s h f.first f.second f.two)
    (route_spans lo hi x.gate (site_of s.chain x.q0) (site_of s.chain x.q1) apart b.0 b.1) reach

-- every qubit that the gates name stands from lo to hi
abbrev Stand : ℕ → ℕ → List Placed → Labels → Type 0
Stand lo hi [] l = Unit
Stand lo hi (x ∷ xs) l = (let p = get_or l.sites x.q0 0 in let q = get_or l.sites x.q1 0 in (lo ≤ min p q) × (max p q ≤ hi)) × Stand lo hi xs l

module _ (lo hi : ℕ) where
  -- a gate between two sites of the range leaves every qubit of the range in it
  stays : (near far k : ℕ) → lo ≤ near → near < far → far ≤ hi → lo ≤ k → k ≤ hi → (lo ≤ site_after near far k) × (site_after near far k ≤ hi)
  stays near far k a b c d e =
      by_test (λ (j : ℕ). (lo ≤ j) × (j ≤ hi)) (eqb k far) (near + 1) _ (λ g. (omega arith, omega arith))
      (λ g. by_test (λ (j : ℕ). (lo ≤ j) × (j ≤ hi)) (ltb near k && ltb k far) (k + 1) k (λ v. (omega arith, inside v)) (λ v. (d, e)))
    where
      inside : (ltb near k && ltb k far) ≡ true → k + 1 ≤ hi
      inside v = let l : k < far = lib.Dec.ltb→lt k far (and_r (ltb near k) (ltb k far) (rw v tt)) in omega arith

  site_after_lem : (near far : ℕ) (sites : List ℕ) (q : ℕ) → near < far → get_or (map (site_after near far) sites) q 0 ≡ site_after near far (get_or sites q 0)
  site_after_lem near far sites q l =
      let none : site_after near far 0 ≡ 0 = rw (ne_eqb 0 far (λ e. omega arith), le-ltb near 0 (omega arith)) in
      ap (get_or (map (site_after near far) sites) q) (sym none) ∙ get_or-map (site_after near far) sites q 0

  stand_after : (xs : List Placed) (l : Labels) (q0 q1 : ℕ) → (let p = get_or l.sites q0 0 in let q = get_or l.sites q1 0 in (p ≢ q) × (lo ≤ min p q) × (max p q ≤ hi))
      → Stand lo hi xs l → Stand lo hi xs (labels_after l q0 q1)
  unfolding labels_after
  stand_after [] l q0 q1 r h = tt
  stand_after (x ∷ xs) l q0 q1 r h =
      let p = get_or l.sites q0 0 in
      let q = get_or l.sites q1 0 in
      let order : min p q < max p q = apart p q r.0 in
      let site : (y : ℕ) → (lo ≤ get_or l.sites y 0) × (get_or l.sites y 0 ≤ hi) → (lo ≤ get_or (labels_after l q0 q1).sites y 0) × (get_or (labels_after l q0 q1).sites y 0 ≤ hi) = λ y b.
      rw (site_after_lem (min p q) (max p q) l.sites y order) (stays (min p q) (max p q) (get_or l.sites y 0) r.1 order r.2 b.0 b.1) in
      let a = site x.q0 (omega (arith, h.0), omega (arith, h.0)) in
      let b = site x.q1 (omega (arith, h.0), omega (arith, h.0)) in
      ((omega (arith, a, b), omega (arith, a, b)), stand_after xs l q0 q1 r h.1)
    where
      apart : (p q : ℕ) → p ≢ q → min p q < max p q
      apart p q e = omega arith

  -- in that range all that the run rewrites lies, if the centre does
  layer_run_within : (p : ℕ) (xs : List Placed) (s : State) → Sound s.chain → AllFit s.chain.num_qubits xs
      → Room s → Stand lo hi xs (labels_of s.chain) → Reach s.chain.num_qubits lo hi s.chain.center → Within lo hi s (layer_run p xs s).state
  layer_run_within =
      layer_by (λ p xs s r. Room s → Stand lo hi xs (labels_of s.chain) → Reach s.chain.num_qubits lo hi s.chain.center → Within lo hi s r.state)
      (λ p s h room stand reach. within_none lo hi s h reach)
      (λ p x xs s h f e r k room stand reach.
      let y = placed_within lo hi x s h f room stand.0 reach in
      let apart = sites_apart (sound_maps s.chain h) x.q0 x.q1 f.first f.second f.two in
      within_then y (k (within_room y room) (rw (placed_labels x s h f e) (stand_after xs (labels_of s.chain) x.q0 x.q1 (apart, stand.0.0, stand.0.1) stand.1)) (within_reach y)))
      (λ p x xs s h f e room stand reach. placed_within lo hi x s h f room stand.0 reach)

module _ (s : State) (work : List Float) (pairs : List ℕ) (gates : List Float) where
  abbrev xs : List Placed
  xs = layer_of pairs gates

  abbrev refusal : ℕ
  refusal = layer_refusal s work pairs gates

  pub layer_refusals : FirstGround (layer_table s work pairs gates) (view_layered (layer_call s work pairs gates).answer).number
  unfolding layer_call
  layer_refusals =
      table_answered (λ (a : After Layered). (view_layered a.answer).number)
      (3 when Unsound s.chain ∷ 2 when (ShortSlice s.chain s.store work ⊎ Unpaired pairs gates) ∷ 4 when NoPairAt s.chain pairs ∷ 9 when NamedTwice pairs ∷ 5 when NoGateAt pairs gates ∷ []) (layer_rows xs s)
      refusal (view_layered (layer_run 0 xs s).answer).number (layer_after (layer_run 0 xs s) (cleared s.chain work)) _
      refl refl tt
      (test 3 (decides_unsound s.chain) (test 2 (decides_either (decides_short s.chain s.store work) (decides_lengths pairs gates)) (test 4 (decides_fit pairs gates s.chain) (test 9 (decides_twice pairs gates) (test 5 (decides_gates pairs gates) untested)))))
      (λ z. let x = layer_accepted s work pairs gates (eq-eqb refusal 0 z) in layer_run_first 0 xs s x.sound (layer_fits s work pairs gates x))

  -- the range of its qubits' sites
  stand_own : (ys : List Placed) (lo hi : ℕ) → lo ≤ nearest_of s ys → farthest_of s ys ≤ hi → Stand lo hi ys (labels_of s.chain)
  stand_own [] lo hi a b = tt
  stand_own (y ∷ ys) lo hi a b = ((omega arith, omega arith), stand_own ys lo hi (omega arith) (omega arith))

  farthest_below : (ys : List Placed) → Sound s.chain → AllFit s.chain.num_qubits ys → farthest_of s ys < s.chain.num_qubits
  farthest_below [] h f = omega (arith, h.settings.qubits.0)
  farthest_below (y ∷ ys) h f = omega (arith, h.sites.below y.q0 f.0.first, h.sites.below y.q1 f.0.second, farthest_below ys h f.1)

  pub layer_leaves : Leaves s work (nearest_of s xs) (farthest_of s xs) (view_layered (layer_call s work pairs gates).answer).number (layer_call s work pairs gates)
  unfolding layer_call
  layer_leaves =
      let c = s.chain in
      let near = nearest_of s xs in
      let far = farthest_of s xs in
      call_leaves view_layered s work near far refusal (layer_run 0 xs s).answer (layered.Refused refusal) (layer_run 0 xs s).state (layer_early s work pairs gates) refl
      (λ e.
      let x = layer_accepted s work pairs gates e in
      let fits = layer_fits s work pairs gates x in
      let l = not_short s work x.long in
      let low = lowest_near c.center near in
      let high = far_highest c.center c.num_qubits far (farthest_below xs x.sound fits) in
      (ended_late (layer_run 0 xs s).answer (layer_run_ended 0 xs s x.sound fits), l.scratch, (layer_run_within _ _ 0 xs s x.sound fits l.amplitudes (stand_own xs _ _ low high) (own_reach c.center c.num_qubits near far)).apart))

-- ---- the gates one by one

-- how far the work slice is cleared goes by the cap alone, and clearing it again changes nothing
cap_cleared : (c c' : Chain) (work : List Float) → c'.max_bond_dim ≡ c.max_bond_dim → cleared c' work ≡ cleared c work
unfolding cleared
cap_cleared c c' work e = rw e

cleared_again : (c : Chain) (work : List Float) → cleared c (cleared c work) ≡ cleared c work
unfolding cleared
cleared_again c work =
    let room = work_room c.max_bond_dim in
    ap (λ (xs : List Float). replicate room zero_f ++ xs) (drop_at (replicate room zero_f) (drop room work) room (length-replicate room zero_f))

length_cleared : (c : Chain) (work : List Float) → work_room c.max_bond_dim ≤ length work → length (cleared c work) ≡ length work
unfolding cleared
length_cleared c work l = simp (length-append, length-replicate, length-drop) (omega arith)

module _ (x : Placed) (s : State) (h : Sound s.chain) (f : Fits s.chain.num_qubits x) (room : Room s) (work : List Float) (l : work_room s.chain.max_bond_dim ≤ length work) where
  -- a gate that fits is not refused before it runs
  placed_unrefused : gate_refusal s work x.q0 x.q1 x.gate ≡ 0
  placed_unrefused =
      let n = s.chain.num_qubits in
      λ i. first_of (not (is_true (sound s.chain) (facts_sound s.chain h) i)) (le-ltb (length s.store) _ room i || le-ltb (length work) _ l i)
      (lt-leb n x.q0 f.first i || lt-leb n x.q1 f.second i || ne_eqb x.q0 x.q1 f.two i) (not (f.finite i))

  placed_runs : placed_call x s work ≡ gate_after (gate_reason x.gate x.q0 x.q1 s) (placed_run x s) (cleared s.chain work)
  unfolding gate_call
  placed_runs = rw placed_unrefused

-- the first gate's call, and what follows it
turn : ℕ → List Placed → After Applied → After Layered
turn p xs a = let number = (view_applied a.answer).number in cond (eqb number 0) (one_by_one (p + 1) xs (left a) a.work) (after (layered.Stopped number p) (left a) a.work)

turned : (p : ℕ) (xs : List Placed) (reason : Reason) (r : Ran) (work : List Float)
    → turn p xs (gate_after reason r work) ≡ cond (eqb r.refused 0) (one_by_one (p + 1) xs r.state work) (after (layered.Stopped r.refused p) r.state work)
unfolding turn
turned p xs reason r work = rw (applied_number reason r.refused)

layer_run_in_turn : (p : ℕ) (xs : List Placed) (s : State) → Sound s.chain → AllFit s.chain.num_qubits xs
    → (work : List Float) → Room s → work_room s.chain.max_bond_dim ≤ length work → cleared s.chain work ≡ work → layer_after (layer_run p xs s) work ≡ one_by_one p xs s work
unfolding one_by_one turn
layer_run_in_turn =
    layer_by (λ p xs s r. (work : List Float) → Room s → work_room s.chain.max_bond_dim ≤ length work → cleared s.chain work ≡ work → layer_after r work ≡ one_by_one p xs s work)
    (λ p s h work room l clear. refl)
    (λ p x xs s h f e r k work room l clear.
    let y = placed_within 0 (s.chain.num_qubits - 1) x s h f room (whole x s h f) (reach s h) in
    let cap = y.keeps.cap in
    k work (within_room y room) (rw cap l) (cap_cleared s.chain (placed_run x s).state.chain work cap ∙ clear)
    ∙ sym (one p x xs s h f work room l clear ∙ rw (eq-eqb (placed_run x s).refused 0 e)))
    (λ p x xs s h f e work room l clear. sym (one p x xs s h f work room l clear ∙ rw (ne_eqb (placed_run x s).refused 0 e)))
  where
    one : (p : ℕ) (x : Placed) (xs : List Placed) (s : State) → Sound s.chain → Fits s.chain.num_qubits x → (work : List Float) → Room s → work_room s.chain.max_bond_dim ≤ length work → cleared s.chain work ≡ work
        → one_by_one p (x ∷ xs) s work ≡ cond (eqb (placed_run x s).refused 0) (one_by_one (p + 1) xs (placed_run x s).state work) (after (layered.Stopped (placed_run x s).refused p) (placed_run x s).state work)
    one p x xs s h f work room l clear =
        ap (turn p xs) (placed_runs x s h f room work l ∙ ap (gate_after (gate_reason x.gate x.q0 x.q1 s) (placed_run x s)) clear) ∙ turned p xs _ (placed_run x s) work

    whole : (x : Placed) (s : State) (h : Sound s.chain) (f : Fits s.chain.num_qubits x) → (let p = site_of s.chain x.q0 in let q = site_of s.chain x.q1 in (0 ≤ min p q) × (max p q ≤ s.chain.num_qubits - 1))
    whole x s h f = (omega arith, omega (arith, h.sites.below x.q0 f.first, h.sites.below x.q1 f.second))

    reach : (s : State) → Sound s.chain → Reach s.chain.num_qubits 0 (s.chain.num_qubits - 1) s.chain.center
    reach s h = go s.chain.center h.centre
      where
        go : (c : Option ℕ) → ((k : ℕ) → c ≡ Some k → k < s.chain.num_qubits) → Reach s.chain.num_qubits 0 (s.chain.num_qubits - 1) c
        go None below = (refl, omega arith)
        go (Some k) below = (omega arith, omega (arith, below k refl))

module _ (s : State) (work : List Float) (pairs : List ℕ) (gates : List Float) where
  abbrev placed : List Placed
  placed = layer_of pairs gates

  abbrev outcome : After Layered
  outcome = layer_call s work pairs gates

  abbrev number : ℕ
  number = (view_layered outcome.answer).number

  -- accepted, or stopped by 6 or 7, it ran
  pub layer_ran_lem : Late number → eqb (layer_refusal s work pairs gates) 0 ≡ true
  unfolding layer_call
  layer_ran_lem l = run_late (λ (a : After Layered). (view_layered a.answer).number) (layer_refusal s work pairs gates) (layer_after (layer_run 0 placed s) (cleared s.chain work)) _ refl (layer_early s work pairs gates) l

  layer_is_run : eqb (layer_refusal s work pairs gates) 0 ≡ true → outcome ≡ layer_after (layer_run 0 placed s) (cleared s.chain work)
  unfolding layer_call
  layer_is_run e = rw e

  module _ (e : eqb (layer_refusal s work pairs gates) 0 ≡ true) where
    abbrev accepted : AcceptedLayer s work pairs gates
    accepted = layer_accepted s work pairs gates e

    abbrev fits : AllFit s.chain.num_qubits placed
    fits = layer_fits s work pairs gates accepted

    in_turn_cleared : outcome ≡ one_by_one 0 placed s (cleared s.chain work)
    in_turn_cleared =
        let l = not_short s work accepted.long in
        layer_is_run e
        ∙ layer_run_in_turn 0 placed s accepted.sound fits (cleared s.chain work) l.amplitudes (omega (arith, length_cleared s.chain work l.scratch, l.scratch)) (cleared_again s.chain work)

    -- the first gate clears the work slice in any case
    in_turn_lem : (x : Placed) (xs : List Placed) → placed ≡ x ∷ xs → outcome ≡ one_by_one 0 (x ∷ xs) s work
    unfolding one_by_one turn
    in_turn_lem x xs same =
        let l = not_short s work accepted.long in
        let f = (subst (AllFit s.chain.num_qubits) same fits).0 in
        let longer : work_room s.chain.max_bond_dim ≤ length (cleared s.chain work) = omega (arith, length_cleared s.chain work l.scratch, l.scratch) in
        in_turn_cleared ∙ ap (λ (ys : List Placed). one_by_one 0 ys s (cleared s.chain work)) same
        ∙ ap (turn 0 xs) (placed_runs x s accepted.sound f l.amplitudes (cleared s.chain work) longer
        ∙ ap (gate_after (gate_reason x.gate x.q0 x.q1 s) (placed_run x s)) (cleared_again s.chain work)
        ∙ sym (placed_runs x s accepted.sound f l.amplitudes work l.scratch))

-- ---- the gate at which it stops

applied_refused : (a : Applied) → (view_applied a).number ≢ 0 → a ≡ Err (view_applied a).number
applied_refused (Ok r) some = absurd (some refl)
applied_refused (Err k) some = refl

in_turn_stops : (p : ℕ) (xs : List Placed) (s : State) (work : List Float) (number pair : ℕ) → (number ≡ 6) ⊎ (number ≡ 7)
    → (one_by_one p xs s work).answer ≡ layered.Stopped number pair → StopsAtPair p xs s work number pair (one_by_one p xs s work)
unfolding one_by_one
in_turn_stops p [] s work number pair l = λ e. let z : ◌≡◌ {A = ℕ} 0 1 = cc in absurd (omega arith)
in_turn_stops p (x ∷ xs) s work number pair l =
    let a = placed_call x s work in
    let k = (view_applied a.answer).number in
    by_test (λ (r : After Layered). r.answer ≡ layered.Stopped number pair → StopsAtPair p (x ∷ xs) s work number pair r) (eqb k 0) _ _
    (λ on e. go_on on (in_turn_stops (p + 1) xs (left a) a.work number pair l e))
    (λ out e.
    let same : k ≡ number = cc in
    let here : p ≡ pair = cc in
    record {
      before = [];
      at = x;
      rest = xs;
      layer = refl;
      place = omega (arith, here);
      done = refl;
      refused = applied_refused a.answer (eqb-false k 0 out) ∙ ap Err same;
      state = refl;
      cut = (gate_ends s work x.q0 x.q1 x.gate).stopped (subst (λ (m : ℕ). (m ≡ 6) ⊎ (m ≡ 7)) (sym same) l);
    })
  where
    go_on : eqb (view_applied (placed_call x s work).answer).number 0 ≡ true → {r : After Layered} → (let a = placed_call x s work in StopsAtPair (p + 1) xs (left a) a.work number pair r) → StopsAtPair p (x ∷ xs) s work number pair r
    go_on on z =
        let a = placed_call x s work in
        let first : one_by_one p (x ∷ z.before) s work ≡ one_by_one (p + 1) z.before (left a) a.work = rw on in
        record {
          before = x ∷ z.before;
          at = z.at;
          rest = z.rest;
          layer = ap (λ (ys : List Placed). x ∷ ys) z.layer;
          place = omega (arith, z.place);
          done = rw first z.done;
          refused = rw first z.refused;
          state = rw first z.state;
          cut = rw first z.cut;
        }

-- ---- the statements

ended_done : (a : Layered) → Ended a → (view_layered a).number ≡ 0 → a ≡ layered.Done
ended_done layered.Done l z = refl
ended_done (layered.Refused k) l z = absurd l
ended_done (layered.Stopped k p) (inl l) z = absurd (omega arith)
ended_done (layered.Stopped k p) (inr l) z = absurd (omega arith)

module _ (s : State) (work : List Float) (pairs : List ℕ) (gates : List Float) where
  outcome_ended : Late (number s work pairs gates) → Ended (outcome s work pairs gates).answer
  outcome_ended l =
      let e = layer_ran_lem s work pairs gates l in
      subst (λ (a : After Layered). Ended a.answer) (sym (layer_is_run s work pairs gates e)) (layer_run_ended 0 (layer_of pairs gates) s (accepted s work pairs gates e).sound (fits s work pairs gates e))

  pub layer_done : number s work pairs gates ≡ 0 → ((outcome s work pairs gates).answer ≡ layered.Done) × (labels_of (outcome s work pairs gates).chain ≡ labels_through (layer_of pairs gates) (labels_of s.chain))
  layer_done z =
      let e = layer_ran_lem s work pairs gates (inl z) in
      let is = layer_is_run s work pairs gates e in
      let done = ended_done (outcome s work pairs gates).answer (outcome_ended (inl z)) z in (
        done,
        ap (λ (a : After Layered). labels_of a.chain) is ∙ layer_run_labels 0 (layer_of pairs gates) s (accepted s work pairs gates e).sound (fits s work pairs gates e) (ap (λ (a : After Layered). a.answer) (sym is) ∙ done),
      )

  -- an answer that tells a pair is the run's
  stopped_ran : (k p : ℕ) → (outcome s work pairs gates).answer ≡ layered.Stopped k p → eqb (layer_refusal s work pairs gates) 0 ≡ true
  unfolding layer_call
  stopped_ran k p =
      by_test (λ (a : After Layered). a.answer ≡ layered.Stopped k p → eqb (layer_refusal s work pairs gates) 0 ≡ true) (eqb (layer_refusal s work pairs gates) 0) (layer_after (layer_run 0 (layer_of pairs gates) s) (cleared s.chain work)) _
      (λ e z. e) (λ e z. let w : ◌≡◌ {A = ℕ} 0 1 = cc in absurd (omega arith))

  layer_stopped : (k p : ℕ) → (outcome s work pairs gates).answer ≡ layered.Stopped k p → ((k ≡ 6) ⊎ (k ≡ 7)) × StopsAtPair 0 (layer_of pairs gates) s work k p (outcome s work pairs gates)
  unfolding layer_run
  layer_stopped k p z = (six_seven, go (layer_of pairs gates) refl)
    where
      ran : eqb (layer_refusal s work pairs gates) 0 ≡ true
      ran = stopped_ran k p z

      is : outcome s work pairs gates ≡ layer_after (layer_run 0 (layer_of pairs gates) s) (cleared s.chain work)
      is = layer_is_run s work pairs gates ran

      six_seven : (k ≡ 6) ⊎ (k ≡ 7)
      six_seven = subst Ended (ap (λ (a : After Layered). a.answer) (sym is) ∙ z) (layer_run_ended 0 (layer_of pairs gates) s (accepted s work pairs gates ran).sound (fits s work pairs gates ran))

      go : (ys : List Placed) → layer_of pairs gates ≡ ys → StopsAtPair 0 ys s work k p (outcome s work pairs gates)
      go [] same = let w : ◌≡◌ {A = ℕ} 0 1 = cc (ap (λ (a : After Layered). a.answer) is, z) in absurd (omega arith)
      go (x ∷ xs) same =
          let e = in_turn_lem s work pairs gates ran x xs same in
          subst (StopsAtPair 0 (x ∷ xs) s work k p) (sym e) (in_turn_stops 0 (x ∷ xs) s work k p six_seven (ap (λ (a : After Layered). a.answer) (sym e) ∙ z))

  layer_refused : (k : ℕ) → (outcome s work pairs gates).answer ≡ layered.Refused k → Late k → ⊥
  layer_refused k z l = subst Ended z (outcome_ended (subst (λ (a : Layered). Late (view_layered a).number) (sym z) l))

pub layer_as_gates : LayerAsGates
unfolding layer_run
layer_as_gates = record {
  gates = λ s work pairs gates l x xs. in_turn_lem s work pairs gates (layer_ran_lem s work pairs gates l) x xs;
  empty = λ s work pairs gates l same. layer_is_run s work pairs gates (layer_ran_lem s work pairs gates l) ∙ ap (λ (ys : List Placed). layer_after (layer_run 0 ys s) (cleared s.chain work)) same;
  done = layer_done;
  stopped = layer_stopped;
  refused = layer_refused;
}
