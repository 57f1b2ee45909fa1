-- The labels that a gate's route leaves, as a function of the labels and the pair of qubits alone.
use Rattle.std.specs.Prelude.{ℕ, zero, suc, ◌+◌, ◌-◌, ◌≤◌, ◌<◌, min, max, ◌≡◌, refl, ◌≢◌, Bool, true, false, cond, eqb, length, get_or}
use Rattle.std.proofs.Math.Path.{sym}
use Rattle.std.proofs.Common.{ap, ◌∙◌, subst, arith, lt-ltb, le-ltb, le-leb, eq-eqb, ne_eqb, length-set}
use Rattle.std.proofs.lemmas.Bool.{false≢true, lt-leb, eqb-false}
use mathlib.Core.List.{List, [], ◌∷◌, ◌++◌, map}
use Rattle.std.proofs.Math.Decide.{ℕ_discrete, dec_lt}
use Rattle.std.proofs.lemmas.List.{length-map}
use Rattle.std.proofs.Math.ListN.{get_or-map}
use Rattle.std.proofs.Math.Seq.{ext_get_or}
use Rattle.complex.specs.Loops.{tabulate, length_tabulate, get_d_tabulate}
use Rattle.complex.specs.declared.Complex.{Complex}
use Rattle.model.specs.declared.Chain.{Chain}
use Rattle.model.specs.Chain.{site_of, Labels, labels_of}
use Rattle.model.specs.Slots.{State}
use Rattle.model.specs.Cut.{Ran, ran, adjacent}
use Rattle.model.specs.Routing.{relabelled, Route, down_to, route_of, Step, swap_step, gate_step, steps_of, follow, stepped, run_steps}
use Rattle.model.specs.Statements.Table.{gate_steps}
use Rattle.model.specs.Statements.Demand1Cuts.{exchanged, exchanged_all, swaps_of, site_after, site_before, labels_after}
use Rattle.model.specs.Statements.Soundness.{Sound}
use Rattle.model.proofs.Laws.Labels.{turn, turn_first, turn_second, turn_else, three, Maps, sound_maps, sites_apart, exchanged_qubit, exchanged_site, exchanged_past, exchanged_maps}
use Rattle.model.proofs.Laws.SoundKept.{Inside, stepped_keeps, gate_inside, relabelled_by}
use Rattle.model.proofs.Laws.CutEnds.{cut_at, CutEnds, above, nan, stored, adjacent_ends, last_narrowed}

-- ---- the closed form, by cases

pub after_far : (near far : ℕ) → site_after near far far ≡ near + 1
after_far near far = rw (eq-eqb far far refl)

pub after_between : (near far k : ℕ) → near < k → k < far → site_after near far k ≡ k + 1
after_between near far k h l = rw (ne_eqb k far (λ e. omega arith), lt-ltb near k h, lt-ltb k far l)

pub after_below : (near far k : ℕ) → k ≤ near → near < far → site_after near far k ≡ k
after_below near far k h l = rw (ne_eqb k far (λ e. omega arith), le-ltb near k h)

pub after_above : (near far k : ℕ) → near < far → far < k → site_after near far k ≡ k
after_above near far k h l = rw (ne_eqb k far (λ e. omega arith), lt-ltb near k (omega arith), le-ltb k far (omega arith))

pub before_near : (near far : ℕ) → site_before near far (near + 1) ≡ far
before_near near far = rw (eq-eqb (near + 1) (near + 1) refl)

pub before_between : (near far k : ℕ) → near + 1 < k → k ≤ far → site_before near far k ≡ k - 1
before_between near far k h l = rw (ne_eqb k (near + 1) (λ e. omega arith), lt-ltb (near + 1) k h, le-leb k far l)

pub before_below : (near far k : ℕ) → k ≤ near → site_before near far k ≡ k
before_below near far k h = rw (ne_eqb k (near + 1) (λ e. omega arith), le-ltb (near + 1) k (omega arith))

pub before_above : (near far k : ℕ) → near < far → far < k → site_before near far k ≡ k
before_above near far k h l = rw (ne_eqb k (near + 1) (λ e. omega arith), lt-ltb (near + 1) k (omega arith), lt-leb k far l)

-- ---- one swap

-- an entry past the chain is 0, which is no site of a route's swap
exchanged_entry : (n : ℕ) (l : Labels) (u : Maps n l) (k : ℕ) → k + 1 < n → 1 ≤ k → (q : ℕ) → get_or (exchanged k l).sites q 0 ≡ turn k (get_or l.sites q 0)
exchanged_entry n l u k h p q = go (dec_lt q n)
  where
    go : Dec (q < n) → get_or (exchanged k l).sites q 0 ≡ turn k (get_or l.sites q 0)
    go (yes i) = exchanged_site n l u k h q i
    go (no i) = exchanged_past n l u k h q (omega arith) ∙ rw (u.sites.past q (omega arith)) (sym (turn_else k 0 (λ e. omega arith) (λ e. omega arith)))

-- ---- the swaps of a route: near + m, .., near + 1

-- one site further: the qubit at far is first brought to the site before it
after_more : (near k x : ℕ) → near < k → site_after near k (turn k x) ≡ site_after near (k + 1) x
after_more near k x h =
    three k x (λ i. site_after near k (turn k i) ≡ site_after near (k + 1) i)
    (ap (site_after near k) (turn_first k) ∙ after_above near k (k + 1) h (omega arith) ∙ sym (after_between near (k + 1) k h (omega arith)))
    (ap (site_after near k) (turn_second k) ∙ after_far near k ∙ sym (after_far near (k + 1)))
    (λ m n. ap (site_after near k) (turn_else k x m n) ∙ elsewhere m n (dec_lt near x) (dec_lt x k))
  where
    elsewhere : x ≢ k → x ≢ k + 1 → Dec (near < x) → Dec (x < k) → site_after near k x ≡ site_after near (k + 1) x
    elsewhere m n (yes a) (yes b) = after_between near k x a b ∙ sym (after_between near (k + 1) x a (omega arith))
    elsewhere m n (yes a) (no b) = after_above near k x h (omega arith) ∙ sym (after_above near (k + 1) x (omega arith) (omega arith))
    elsewhere m n (no a) d = after_below near k x (omega arith) h ∙ sym (after_below near (k + 1) x (omega arith) (omega arith))

before_more : (near k j : ℕ) → near < k → turn k (site_before near k j) ≡ site_before near (k + 1) j
before_more near k j h = go (ℕ_discrete j (near + 1)) (dec_lt (near + 1) j) (dec_lt k j) (ℕ_discrete j (k + 1))
  where
    go : Dec (j ≡ near + 1) → Dec (near + 1 < j) → Dec (k < j) → Dec (j ≡ k + 1) → turn k (site_before near k j) ≡ site_before near (k + 1) j
    go (yes e) c d f = rw (e, before_near near k, before_near near (k + 1)) (turn_first k)
    go (no e) (yes a) (no b) f =
        ap (turn k) (before_between near k j a (omega arith)) ∙ turn_else k (j - 1) (λ z. omega arith) (λ z. omega arith) ∙ sym (before_between near (k + 1) j a (omega arith))
    go (no e) (yes a) (yes b) (yes f) =
        rw f (ap (turn k) (before_above near k (k + 1) h (omega arith)) ∙ turn_second k ∙ sym (before_between near (k + 1) (k + 1) (omega arith) (omega arith) ∙ omega arith))
    go (no e) (yes a) (yes b) (no f) =
        ap (turn k) (before_above near k j h b) ∙ turn_else k j (λ z. omega arith) f ∙ sym (before_above near (k + 1) j (omega arith) (omega arith))
    go (no e) (no a) d f =
        ap (turn k) (before_below near k j (omega arith)) ∙ turn_else k j (λ z. omega arith) (λ z. omega arith) ∙ sym (before_below near (k + 1) j (omega arith))

-- neighbours: nothing to swap
after_none : (near x : ℕ) → site_after near (near + 1) x ≡ x
after_none near x = go (ℕ_discrete x (near + 1)) (dec_lt near x)
  where
    go : Dec (x ≡ near + 1) → Dec (near < x) → site_after near (near + 1) x ≡ x
    go (yes e) d = rw e (after_far near (near + 1))
    go (no e) (yes a) = after_above near (near + 1) x (omega arith) (omega arith)
    go (no e) (no a) = after_below near (near + 1) x (omega arith) (omega arith)

before_none : (near j : ℕ) → site_before near (near + 1) j ≡ j
before_none near j = go (ℕ_discrete j (near + 1)) (dec_lt near j)
  where
    go : Dec (j ≡ near + 1) → Dec (near < j) → site_before near (near + 1) j ≡ j
    go (yes e) d = rw e (before_near near (near + 1))
    go (no e) (yes a) = before_above near (near + 1) j (omega arith) (omega arith)
    go (no e) (no a) = before_below near (near + 1) j (omega arith)

-- the maps after m swaps down to near + 1, the far site being near + m + 1
pub record Routed (n near m : ℕ) (l r : Labels) : Type 0 where
  pub site : (q : ℕ) → get_or r.sites q 0 ≡ site_after near (near + m + 1) (get_or l.sites q 0)
  pub qubit : (k : ℕ) → get_or r.qubits k 0 ≡ get_or l.qubits (site_before near (near + m + 1) k) 0
  pub sites_length : length r.sites ≡ length l.sites
  pub qubits_length : length r.qubits ≡ length l.qubits
  pub maps : Maps n r

pub routed : (n near m : ℕ) (l : Labels) → Maps n l → near + m + 1 < n → Routed n near m l (exchanged_all (down_to near m) l)
routed n near zero l u h =
    let e : near + 0 + 1 ≡ near + 1 = omega arith in
    record {
      site = λ q. rw e (sym (after_none near (get_or l.sites q 0)));
      qubit = λ k. rw e (ap (λ (j : ℕ). get_or l.qubits j 0) (sym (before_none near k)));
      sites_length = refl;
      qubits_length = refl;
      maps = u;
    }
routed n near (suc m) l u h =
    let k : ℕ = near + suc m in
    let e : near + m + 1 ≡ k = omega arith in
    let low : k + 1 < n = omega arith in
    let some : 1 ≤ k = omega arith in
    let above : near < k = omega arith in
    let x = routed n near m (exchanged k l) (exchanged_maps n l u k low) (omega arith) in
    record {
      site = λ q. x.site q ∙ ap (λ (f : ℕ). site_after near f (get_or (exchanged k l).sites q 0)) e ∙ ap (site_after near k) (exchanged_entry n l u k low some q) ∙ after_more near k (get_or l.sites q 0) above;
      qubit = λ j. x.qubit j ∙ ap (λ (f : ℕ). get_or (exchanged k l).qubits (site_before near f j) 0) e ∙ exchanged_qubit n l u k low (site_before near k j) ∙ ap (λ (i : ℕ). get_or l.qubits i 0) (before_more near k j above);
      sites_length = x.sites_length ∙ rw (length-set, length-set);
      qubits_length = x.qubits_length ∙ rw (length-set, length-set);
      maps = x.maps;
    }

-- ---- the swaps of a route in closed form

get_d_map_zero : (f : ℕ → ℕ) (xs : List ℕ) (i : ℕ) → f 0 ≡ 0 → get_or (map f xs) i 0 ≡ f (get_or xs i 0)
get_d_map_zero f xs i z = subst (λ (d : ℕ). get_or (map f xs) i d ≡ f (get_or xs i 0)) z (get_or-map f xs i 0)

module _ (n : ℕ) (l : Labels) (u : Maps n l) (q0 q1 : ℕ) (low0 : q0 < n) (low1 : q1 < n) (two : q0 ≢ q1) where
  abbrev p : ℕ
  p = get_or l.sites q0 0

  abbrev q : ℕ
  q = get_or l.sites q1 0

  abbrev near : ℕ
  near = min p q

  abbrev far : ℕ
  far = max p q

  abbrev route : Labels
  route = exchanged_all (route_of p q).swaps l

  p_low : p < n
  p_low = u.sites.below q0 low0

  q_low : q < n
  q_low = u.sites.below q1 low1

  apart : p ≢ q
  apart = sites_apart u q0 q1 low0 low1 two

  order : near < far
  order = let d : p ≢ q = apart in omega arith

  far_low : far < n
  far_low = omega (arith, p_low, q_low)

  there : near + (far - near - 1) + 1 ≡ far
  there = omega (arith, order)

  all : Routed n near (far - near - 1) l route
  all = routed n near (far - near - 1) l u (rw there far_low)

  -- each qubit's site, and each site's qubit
  pub route_site : (x : ℕ) → get_or route.sites x 0 ≡ site_after near far (get_or l.sites x 0)
  route_site x = all.site x ∙ ap (λ (f : ℕ). site_after near f (get_or l.sites x 0)) there

  pub route_qubit : (k : ℕ) → get_or route.qubits k 0 ≡ get_or l.qubits (site_before near far k) 0
  route_qubit k = all.qubit k ∙ ap (λ (f : ℕ). get_or l.qubits (site_before near f k) 0) there

  -- both maps
  pub route_labels : route ≡ labels_after l q0 q1
  unfolding labels_after
  route_labels = λ i. record { sites = same_sites i; qubits = same_qubits i }
    where
      same_sites : route.sites ≡ map (site_after near far) l.sites
      same_sites =
          ext_get_or 0 route.sites (map (site_after near far) l.sites) (all.sites_length ∙ sym (length-map l.sites (site_after near far)))
          (λ i h. route_site i ∙ sym (get_d_map_zero (site_after near far) l.sites i (after_below near far 0 (omega arith) order)))

      same_qubits : route.qubits ≡ tabulate (length l.qubits) (λ k. get_or l.qubits (site_before near far k) 0)
      same_qubits =
          ext_get_or 0 route.qubits _ (all.qubits_length ∙ sym (length_tabulate (length l.qubits) _))
          (λ i h. route_qubit i ∙ sym (get_d_tabulate (length l.qubits) _ 0 i (rw all.qubits_length at h)))

-- ---- what a run leaves: the swaps done, whatever the gates, the store and the settings

module _ (x : Step) (s : State) (h : Sound s.chain) (inside : x.site + 1 < s.chain.num_qubits) where
  abbrev Exchanged : Ran → Type 0
  Exchanged r = eqb r.refused 0 ≡ true → labels_of r.state.chain ≡ cond x.relabels (exchanged x.site (labels_of s.chain)) (labels_of s.chain)

  relabels_exchange : (b : Bool) (c : Chain) → labels_of c ≡ labels_of s.chain → labels_of (cond b (relabelled x.site c) c) ≡ cond b (exchanged x.site (labels_of s.chain)) (labels_of s.chain)
  relabels_exchange true c e = ap (exchanged x.site) e
  relabels_exchange false c e = e

  step_ends : (r : Ran) → CutEnds x.gate x.site s r → Exchanged (follow r (λ t. ran 0 (relabelled_by x t)))
  step_ends r (above a e) = subst (λ (y : Ran). Exchanged (follow y (λ t. ran 0 (relabelled_by x t)))) (sym e) (λ z. absurd (false≢true z))
  step_ends r (nan a t n e) = subst (λ (y : Ran). Exchanged (follow y (λ t. ran 0 (relabelled_by x t)))) (sym e) (λ z. absurd (false≢true z))
  step_ends r (stored a n e) =
      let same = (last_narrowed x.gate x.site s h inside).rest in
      subst (λ (y : Ran). Exchanged (follow y (λ t. ran 0 (relabelled_by x t)))) (sym e)
      (λ z. relabels_exchange x.relabels (cut_at x.gate x.site s).chain same.labels)

  step_labels : Exchanged (stepped x s)
  unfolding stepped
  step_labels = step_ends (adjacent x.gate x.site s) (adjacent_ends x.gate x.site s h inside)

pub run_labels : (steps : List Step) (s : State) → Sound s.chain → Inside s.chain.num_qubits steps → (run_steps steps s).refused ≡ 0
    → labels_of (run_steps steps s).state.chain ≡ exchanged_all (swaps_of steps) (labels_of s.chain)
unfolding run_steps
run_labels [] s h inside z = refl
run_labels (x ∷ xs) s h inside z =
    let y = stepped_keeps x s h inside.0 in
    pick (eqb (stepped x s).refused 0) refl z (run_labels xs (stepped x s).state y.sound (rw y.qubits inside.1))
  where
    in_turn_lem : (b : Bool) (l : Labels) → exchanged_all (swaps_of xs) (cond b (exchanged x.site l) l) ≡ exchanged_all (cond b (x.site ∷ swaps_of xs) (swaps_of xs)) l
    in_turn_lem true l = refl
    in_turn_lem false l = refl

    pick : (b : Bool) → eqb (stepped x s).refused 0 ≡ b → (cond b (run_steps xs (stepped x s).state) (stepped x s)).refused ≡ 0
        → ((run_steps xs (stepped x s).state).refused ≡ 0 → labels_of (run_steps xs (stepped x s).state).state.chain ≡ exchanged_all (swaps_of xs) (labels_of (stepped x s).state.chain))
        → labels_of (cond b (run_steps xs (stepped x s).state) (stepped x s)).state.chain ≡ exchanged_all (swaps_of (x ∷ xs)) (labels_of s.chain)
    pick true e z later = later z ∙ ap (exchanged_all (swaps_of xs)) (step_labels x s h inside.0 e) ∙ in_turn_lem x.relabels (labels_of s.chain)
    pick false e z later = absurd (eqb-false (stepped x s).refused 0 e z)

swaps_first : (gate : List (List Complex)) (near : ℕ) (ks : List ℕ) → swaps_of (map swap_step ks ++ (gate_step gate near ∷ [])) ≡ ks
swaps_first gate near [] = refl
swaps_first gate near (k ∷ ks) = ap (λ (l : List ℕ). k ∷ l) (swaps_first gate near ks)

pub route_swaps : (gate : List (List Complex)) (r : Route) → swaps_of (steps_of gate r) ≡ r.swaps
route_swaps gate r = swaps_first _ r.near r.swaps

-- a gate that is not refused leaves the labels of the closed form, whatever its matrix, the store and the settings
pub gate_labels : (gate : List (List Complex)) (q0 q1 : ℕ) (s : State) → Sound s.chain → q0 < s.chain.num_qubits → q1 < s.chain.num_qubits → q0 ≢ q1
    → (run_steps (gate_steps s q0 q1 gate) s).refused ≡ 0 → labels_of (run_steps (gate_steps s q0 q1 gate) s).state.chain ≡ labels_after (labels_of s.chain) q0 q1
gate_labels gate q0 q1 s h a b d z =
    run_labels (gate_steps s q0 q1 gate) s h (gate_inside gate q0 q1 s h a b d) z
    ∙ ap (λ (ks : List ℕ). exchanged_all ks (labels_of s.chain)) (route_swaps gate (route_of (site_of s.chain q0) (site_of s.chain q1)))
    ∙ route_labels s.chain.num_qubits (labels_of s.chain) (sound_maps s.chain h) q0 q1 a b d
