-- What moves, cuts and readings leave of the store: the sites that they do not rewrite keep their whole slots, and numbers past the slots are unchanged.
use Rattle.std.specs.Prelude.{ℕ, zero, suc, ◌+◌, ◌-◌, ◌*◌, ◌≤◌, ◌<◌, min, max, ◌≡◌, refl, ◌≢◌, Bool, true, false, ◌||◌, cond, leb, eqb, length, Float, Option, None, Some}
use native.Mathlib.Omega.{arith}
use Rattle.std.proofs.Common.{mul-le-mul, sym, ap, ◌∙◌, subst}
use mathlib.Core.List.{List, [], ◌∷◌, ◌++◌, map}
use Rattle.std.specs.Float.Ieee.{le}
use Rattle.complex.specs.Numbers.{numbers, length_numbers}
use Rattle.complex.specs.Matrix.{rows, length_rows}
use Rattle.complex.specs.declared.Complex.{Complex}
use Rattle.model.specs.declared.Chain.{Chain}
use Rattle.model.specs.declared.WeightSide.{WeightSide}
use Rattle.model.specs.declared.WeightSide.TheVariants.{Left, Right}
use Rattle.model.specs.Slots.{State, held, lefts, rights, slot_room, store_room, with_site}
use Rattle.model.specs.Svd.{Svd, values}
use Rattle.model.specs.Pair.{isometry_site, scaled_site, vt_site, scaled_vt_site, left_site, right_site}
use Rattle.model.specs.Moves.{moved, established, Prepared, prepared_on}
use Rattle.model.specs.Cut.{cut_stored, Ran, ran, adjacent, weight_site, rank_of, keeps_centre, prepared_for}
use Rattle.model.specs.Born.{weight_at, projected_site, reset_site, projected_at, reset_at, readied}
use Rattle.model.specs.Routing.{Step, down_to, route_of, swap_step, steps_of, stepped, run_steps}
use Rattle.model.specs.Statements.Table.{DecomposedIn}
use Rattle.model.specs.Statements.Pinned.{made_again, last_in}
use Rattle.model.specs.Statements.Demand1Cuts.{cut_svd}
use Rattle.model.specs.Statements.Soundness.{Sound}
use Rattle.model.proofs.Laws.SoundFacts.{left_most, right_most}
use Rattle.model.proofs.Laws.SoundChanges.{cut_rank_most}
use Rattle.model.proofs.Laws.MoveLaws.{readied_by, prepared_by_lem, apart_at, Apart, apart_none, apart_then, site_apart, pair_apart, rows_fit, wide_rows_fit, moved_narrowed, moved_apart, moved_centre, established_narrowed, established_apart, established_centre}
use Rattle.model.proofs.Laws.SoundKept.{Keeps, keeps_none, keeps_then, narrowed_keeps, relabelled_by, adjacent_keeps, stepped_keeps, Inside}
use Rattle.model.proofs.Laws.CutEnds.{unprepared, decomposed_by, last_decomposed, cut_at, CutEnds, above, nan, stored, adjacent_ends}
use Rattle.model.proofs.Laws.Tests.{by_test, either_way}

-- ---- a state that rewrites the sites from lo to hi alone

-- the store is long enough for the chain's sites
abbrev pub Room : State → Type 0
Room s = store_room s.chain.num_qubits s.chain.max_bond_dim ≤ length s.store

-- the centre lies from lo to hi; where none is recorded, every site does
abbrev pub Reach : ℕ → ℕ → ℕ → Option ℕ → Type 0
Reach n lo hi None = (lo ≡ 0) × (n ≤ hi + 1)
Reach n lo hi (Some k) = (lo ≤ k) × (k ≤ hi)

pub record Within (lo hi : ℕ) (s t : State) : Type 0 where
  pub keeps : Keeps s.chain t.chain
  pub apart : Apart s.chain.num_qubits s.chain.max_bond_dim lo hi s.store t.store
  pub reach : Reach s.chain.num_qubits lo hi t.chain.center

module _ {lo hi : ℕ} {s t : State} (x : Within lo hi s t) where
  pub within_room : Room s → Room t
  within_room room = rw (x.keeps.qubits, x.keeps.cap, x.apart.long) room

  pub within_reach : Reach t.chain.num_qubits lo hi t.chain.center
  within_reach = rw x.keeps.qubits x.reach

  pub within_then : {u : State} → Within lo hi t u → Within lo hi s u
  within_then y = record {
    keeps = keeps_then x.keeps y.keeps;
    apart = apart_then lo hi (omega arith) (omega arith) (omega arith) (omega arith) x.apart (apart_at x.keeps.qubits x.keeps.cap y.apart);
    reach = rw x.keeps.qubits at y.reach;
  }

-- a range within a range
widened : {n d lo hi lo' hi' : ℕ} {x y : List Float} → lo ≤ lo' → hi' ≤ hi → Apart n d lo' hi' x y → Apart n d lo hi x y
widened {n = n} {d = d} {lo = lo} {hi = hi} {y = y} l m a = apart_then lo hi l m (omega arith) (omega arith) a (apart_none n d lo hi y)

pub within_none : (lo hi : ℕ) (s : State) → Sound s.chain → Reach s.chain.num_qubits lo hi s.chain.center → Within lo hi s s
within_none lo hi s h r = record { keeps = keeps_none s.chain h; apart = apart_none _ _ lo hi s.store; reach = r }

-- ---- moves

module _ (s : State) (h : Sound s.chain) (room : Room s) where
  moved_within : (lo hi from to : ℕ) → from < s.chain.num_qubits → to < s.chain.num_qubits → lo ≤ from → from ≤ hi → lo ≤ to → to ≤ hi → Within lo hi s (moved from to s)
  moved_within lo hi from to hf ht a b c d = record {
    keeps = narrowed_keeps (moved_narrowed from to s h hf ht);
    apart = widened (omega arith) (omega arith) (moved_apart from to s h hf ht room);
    reach = rw (moved_centre from to s) (c, d);
  }

  pub established_within : (lo hi to : ℕ) → to < s.chain.num_qubits → lo ≡ 0 → s.chain.num_qubits ≤ hi + 1 → Within lo hi s (established to s)
  established_within lo hi to ht a b = record {
    keeps = narrowed_keeps (established_narrowed to s h ht);
    apart = widened (omega arith) (omega arith) (established_apart to s h ht room);
    reach = rw (established_centre to s) (omega arith, omega arith);
  }

  module _ (lo hi k : ℕ) (a : lo ≤ k) (r : Reach s.chain.num_qubits lo hi s.chain.center) where
    -- where no centre is recorded the range is the whole chain, and a recorded one lies in the range
    whole : s.chain.center ≡ None → (lo ≡ 0) × (s.chain.num_qubits ≤ hi + 1)
    whole e = rw e at r

    reached : (from : ℕ) → s.chain.center ≡ Some from → (lo ≤ from) × (from ≤ hi)
    reached from e = rw e at r

    pub readied_within : k < s.chain.num_qubits → k ≤ hi → Within lo hi s (readied k s)
    readied_within inside b =
        readied_by (Within lo hi s) k s (λ e. established_within lo hi k inside (whole e).0 (whole e).1) (λ from e. moved_within lo hi from k (h.centre from e) inside (reached from e).0 (reached from e).1 a b)

    pub prepared_within : k + 1 < s.chain.num_qubits → k + 1 ≤ hi → Within lo hi s (prepared_for k s).state
    prepared_within inside b =
        prepared_by_lem (Within lo hi s) k s (within_none lo hi s h r) (λ e. established_within lo hi k (omega arith) (whole e).0 (whole e).1)
        (λ from to e l m. moved_within lo hi from to (h.centre from e) (omega arith) (reached from e).0 (reached from e).1 (omega arith) (omega arith))

-- ---- a cut

left_site_fits : (side : WeightSide) (cap bl chi : ℕ) (d : Svd) → bl ≤ cap → chi ≤ cap → length (left_site side bl chi d) ≤ slot_room cap
unfolding isometry_site scaled_site
left_site_fits Left cap bl chi d a b = rows_fit cap bl chi _ a b
left_site_fits Right cap bl chi d a b = rows_fit cap bl chi _ a b

right_site_fits : (side : WeightSide) (cap chi br : ℕ) (d : Svd) → chi ≤ cap → br ≤ cap → length (right_site side chi br d) ≤ slot_room cap
unfolding vt_site scaled_vt_site
right_site_fits Left cap chi br d a b = wide_rows_fit cap chi br _ a b
right_site_fits Right cap chi br d a b = wide_rows_fit cap chi br _ a b

module _ (s : State) (h : Sound s.chain) (room : Room s) (k : ℕ) (inside : k + 1 < s.chain.num_qubits) (maintained : Bool) (side : WeightSide) (d : Svd) where
  -- the two sites of a cut
  pub cut_stored_apart : (chi : ℕ) → chi ≤ s.chain.max_bond_dim
      → Apart s.chain.num_qubits s.chain.max_bond_dim k (k + 1) s.store (cut_stored k maintained side s d chi).store
  cut_stored_apart chi most =
      pair_apart s.chain.num_qubits s.chain.max_bond_dim k _ _ s.store inside room
      (left_site_fits side _ _ chi d (left_most s.chain h k (omega arith)) most)
      (right_site_fits side _ chi _ d most (right_most s.chain h (k + 1) inside))

  pub cut_stored_reach : (chi lo hi : ℕ) → lo ≤ k → k + 1 ≤ hi → Reach s.chain.num_qubits lo hi s.chain.center
      → Reach s.chain.num_qubits lo hi (cut_stored k maintained side s d chi).chain.center
  cut_stored_reach chi lo hi a b r = pick maintained side
    where
      pick : (m : Bool) (w : WeightSide) → Reach s.chain.num_qubits lo hi (cond m (Some (weight_site w k)) s.chain.center)
      pick true Left = (a, omega arith)
      pick true Right = (omega arith, b)
      pick false w = r

module _ (lo hi k : ℕ) (a : lo ≤ k) (b : k + 1 ≤ hi) where
  module _ (gate : List (List Complex)) (s : State) (h : Sound s.chain) (room : Room s) (inside : k + 1 < s.chain.num_qubits) (r : Reach s.chain.num_qubits lo hi s.chain.center) where
    -- every state in which the pair is decomposed
    decomposed_within : (t : State) → DecomposedIn gate k s t → Within lo hi s t
    decomposed_within = decomposed_by gate k s (Within lo hi s) (prepared_within s h room lo hi k a r inside b)
        (λ e. let z : Reach s.chain.num_qubits lo hi None = rw e at r in established_within s h room lo hi k (omega arith) z.0 z.1)

    stored_within : (adjacent gate k s).state ≡ cut_at gate k s → Within lo hi s (adjacent gate k s).state
    stored_within e =
        let t = last_in gate k s in
        let y = decomposed_within t (last_decomposed gate k s) in
        let d = cut_svd gate k s in
        let keeps = made_again gate k s || keeps_centre k s in
        let side = (prepared_for k s).side in
        let inside' : k + 1 < t.chain.num_qubits = rw y.keeps.qubits inside in
        record {
          keeps = adjacent_keeps gate k s h inside;
          apart = rw e (apart_then lo hi (omega arith) (omega arith) (omega arith) (omega arith) y.apart
              (apart_at y.keeps.qubits y.keeps.cap (widened a b (cut_stored_apart t y.keeps.sound (within_room y room) k inside' keeps side d (rank_of t d) (cut_rank_most t.chain.svd_epsilon t.chain.max_bond_dim (values d))))));
          reach = rw e (subst (λ (n : ℕ). Reach n lo hi (cut_at gate k s).chain.center) y.keeps.qubits (cut_stored_reach t y.keeps.sound (within_room y room) k inside' keeps side d (rank_of t d) lo hi a b (within_reach y)));
        }

    pub adjacent_within : Within lo hi s (adjacent gate k s).state
    adjacent_within = cases (adjacent_ends gate k s h inside)
      where
        cases : CutEnds gate k s (adjacent gate k s) → Within lo hi s (adjacent gate k s).state
        cases (above x e) = rw e (within_none lo hi s h r)
        cases (nan x t n e) = rw e (decomposed_within t n.0)
        cases (stored x n e) = stored_within (ap (λ (r : Ran). r.state) e)

-- ---- a route

-- each step's pair lies from lo to hi
abbrev pub Spans : ℕ → ℕ → List Step → Type 0
Spans lo hi [] = Unit
Spans lo hi (x ∷ xs) = (lo ≤ x.site) × (x.site + 1 ≤ hi) × Spans lo hi xs

swaps_span : (lo hi near m : ℕ) (xs : List Step) → lo ≤ near → near + m + 1 ≤ hi → Spans lo hi xs → Spans lo hi (map swap_step (down_to near m) ++ xs)
swaps_span lo hi near zero xs a b h = h
swaps_span lo hi near (suc m) xs a b h = (omega arith, omega arith, swaps_span lo hi near m xs a (omega arith) h)

pub route_spans : (lo hi : ℕ) (gate : List (List Complex)) (p q : ℕ) → p ≢ q → lo ≤ min p q → max p q ≤ hi → Spans lo hi (steps_of gate (route_of p q))
route_spans lo hi gate p q apart a b = swaps_span lo hi (min p q) (max p q - min p q - 1) _ a (omega arith) (a, omega arith, tt)

-- labels are neither store nor centre
relabelled_centre : (x : Step) (t : State) → (relabelled_by x t).chain.center ≡ t.chain.center
relabelled_centre x t = either_way (λ (c : Chain). c.center ≡ t.chain.center) x.relabels _ _ refl refl

stepped_same : (x : Step) (s : State) → ((stepped x s).state.store ≡ (adjacent x.gate x.site s).state.store) × ((stepped x s).state.chain.center ≡ (adjacent x.gate x.site s).state.chain.center)
unfolding stepped
stepped_same x s =
    let t = (adjacent x.gate x.site s).state in
    either_way (λ (r : Ran). (r.state.store ≡ t.store) × (r.state.chain.center ≡ t.chain.center)) (eqb (adjacent x.gate x.site s).refused 0) (ran 0 (relabelled_by x t)) (adjacent x.gate x.site s)
    (refl, relabelled_centre x t) (refl, refl)

module _ (lo hi : ℕ) where
  pub stepped_within : (x : Step) (s : State) → Sound s.chain → Room s → x.site + 1 < s.chain.num_qubits → lo ≤ x.site → x.site + 1 ≤ hi → Reach s.chain.num_qubits lo hi s.chain.center
      → Within lo hi s (stepped x s).state
  stepped_within x s h room inside a b r =
      let y = adjacent_within lo hi x.site a b x.gate s h room inside r in
      let e = stepped_same x s in
      record { keeps = stepped_keeps x s h inside; apart = rw e.0 y.apart; reach = rw e.1 y.reach }

  pub run_steps_within : (xs : List Step) (s : State) → Sound s.chain → Room s → Inside s.chain.num_qubits xs → Spans lo hi xs → Reach s.chain.num_qubits lo hi s.chain.center
      → Within lo hi s (run_steps xs s).state
  unfolding run_steps
  run_steps_within [] s h room inside spans r = within_none lo hi s h r
  run_steps_within (x ∷ xs) s h room inside spans r =
      let y = stepped_within x s h room inside.0 spans.0 spans.1 r in
      either_way (λ (z : Ran). Within lo hi s z.state) (eqb (stepped x s).refused 0) (run_steps xs (stepped x s).state) (stepped x s)
      (within_then y (run_steps_within xs (stepped x s).state y.keeps.sound (within_room y room) (rw y.keeps.qubits inside.1) spans.2 (within_reach y)))
      y

-- ---- a site projected, and reset

module _ (s : State) (h : Sound s.chain) (room : Room s) (k : ℕ) (inside : k < s.chain.num_qubits) (o : Bool) where
  -- rows of the left index, then of the bit
  bits_fit : (f : ℕ → ℕ → ℕ → Complex) → length (rows (lefts s k) (λ a. rows 2 (λ i. numbers (rights s k) (f a i)))) ≤ slot_room s.chain.max_bond_dim
  bits_fit f =
      let bl : lefts s k ≤ s.chain.max_bond_dim = left_most s.chain h k inside in
      let br : rights s k ≤ s.chain.max_bond_dim = right_most s.chain h k inside in
      rw (length_rows (2 * rights s k) _ (λ a. length_rows (rights s k) _ (λ i. length_numbers (rights s k) (f a i)) 2) (lefts s k)) (omega (arith, mul-le-mul bl br))

  rewritten : (site : List Float) → length site ≤ slot_room s.chain.max_bond_dim → (b : Bool)
      → Apart s.chain.num_qubits s.chain.max_bond_dim k k s.store (cond b s (held s.chain (with_site s.chain.max_bond_dim k site s.store))).store
  rewritten site fits true = apart_none _ _ k k s.store
  rewritten site fits false = site_apart _ _ k site s.store inside room fits

  pub projected_at_apart : Apart s.chain.num_qubits s.chain.max_bond_dim k k s.store (projected_at k o s).store
  unfolding projected_at projected_site
  projected_at_apart = rewritten _ (bits_fit _) (le (weight_at k o s) s.chain.norm_clamp_min)

  pub reset_at_apart : Apart s.chain.num_qubits s.chain.max_bond_dim k k s.store (reset_at k o s).store
  unfolding reset_at reset_site
  reset_at_apart = rewritten _ (bits_fit _) (le (weight_at k o s) s.chain.norm_clamp_min)

-- ---- a run that establishes no centre: only its cuts rewrite sites

no_some : {at : Option ℕ} {k : ℕ} → at ≡ Some k → at ≡ None → ⊥
no_some p q = let z : ◌≡◌ {A = ℕ} 0 1 = cc in omega arith

prepared_centre : (k : ℕ) (at : Option ℕ) (s : State) → (prepared_on k at s).state.chain.center ≡ None → ⊥
prepared_centre k None s = λ e. no_some (established_centre k s) e
prepared_centre k (Some from) s =
    either_way (λ (p : Prepared). p.state.chain.center ≡ None → ⊥) (leb from k) _ _ (λ e. no_some (moved_centre from k s) e) (λ e. no_some (moved_centre from (k + 1) s) e)

-- with no centre after it, a pair was taken as it stood
unmoved_pair : (k : ℕ) (s : State) → (prepared_for k s).state.chain.center ≡ None → keeps_centre k s ≡ false
unmoved_pair k s =
    by_test (λ (p : Prepared). p.state.chain.center ≡ None → keeps_centre k s ≡ false) (keeps_centre k s) _ _ (λ b e. absurd (prepared_centre k s.chain.center s e)) (λ b e. b)

-- no centre after means none before, and then only the sites from lo to hi are rewritten
pub record Unmoved (lo hi : ℕ) (s t : State) : Type 0 where
  pub before : t.chain.center ≡ None → s.chain.center ≡ None
  pub apart : t.chain.center ≡ None → Apart s.chain.num_qubits s.chain.max_bond_dim lo hi s.store t.store

unmoved_none : (lo hi : ℕ) (s : State) → Unmoved lo hi s s
unmoved_none lo hi s = record { before = λ e. e; apart = λ e. apart_none _ _ lo hi s.store }

unmoved_then : {lo hi : ℕ} {s t u : State} → Keeps s.chain t.chain → Unmoved lo hi s t → Unmoved lo hi t u → Unmoved lo hi s u
unmoved_then {lo = lo} {hi = hi} k x y = record {
  before = λ e. x.before (y.before e);
  apart = λ e. apart_then lo hi (omega arith) (omega arith) (omega arith) (omega arith) (x.apart (y.before e)) (apart_at k.qubits k.cap (y.apart e));
}

module _ (lo hi k : ℕ) (a : lo ≤ k) (b : k + 1 ≤ hi) (gate : List (List Complex)) (s : State) (h : Sound s.chain) (room : Room s) (inside : k + 1 < s.chain.num_qubits) where
  -- decomposed with no centre recorded, the pair was taken as the cut found it
  taken : (t : State) → DecomposedIn gate k s t → t.chain.center ≡ None → t ≡ s
  taken = decomposed_by gate k s (λ (t : State). t.chain.center ≡ None → t ≡ s)
      (λ c. ap (λ (p : Prepared). p.state) (unprepared k s (unmoved_pair k s c))) (λ e c. absurd (no_some (established_centre k s) c))

  pair_unmoved : (t : State) → DecomposedIn gate k s t → Unmoved lo hi s t
  pair_unmoved t x = record {
    before = λ c. ap (λ (u : State). u.chain.center) (sym (taken t x c)) ∙ c;
    apart = λ c. subst (λ (u : State). Apart s.chain.num_qubits s.chain.max_bond_dim lo hi s.store u.store) (sym (taken t x c)) (apart_none _ _ lo hi s.store);
  }

  cut_unmoved : (p : State) (side : WeightSide) (keeps : Bool) (d : Svd) (chi : ℕ) → chi ≤ p.chain.max_bond_dim → (p.chain.center ≡ None → p ≡ s) → Unmoved lo hi s (cut_stored k keeps side p d chi)
  cut_unmoved p side true d chi most same = record { before = λ e. absurd (no_some refl e); apart = λ e. absurd (no_some refl e) }
  cut_unmoved p side false d chi most same = record {
    before = λ e. ap (λ (t : State). t.chain.center) (sym (same e)) ∙ e;
    apart = λ e.
        let q = same e in
        subst (λ (t : State). Apart t.chain.num_qubits t.chain.max_bond_dim lo hi t.store (cut_stored k false side p d chi).store) q
        (widened a b (cut_stored_apart p (subst (λ (t : State). Sound t.chain) (sym q) h) (subst Room (sym q) room) k (subst (λ (t : State). k + 1 < t.chain.num_qubits) (sym q) inside) false side d chi most));
  }

  pub adjacent_unmoved : Unmoved lo hi s (adjacent gate k s).state
  adjacent_unmoved = cases (adjacent_ends gate k s h inside)
    where
      cases : CutEnds gate k s (adjacent gate k s) → Unmoved lo hi s (adjacent gate k s).state
      cases (above x e) = rw e (unmoved_none lo hi s)
      cases (nan x t n e) = subst (Unmoved lo hi s) (sym (ap (λ (r : Ran). r.state) e)) (pair_unmoved t n.0)
      cases (stored x n e) =
          let t = last_in gate k s in
          let d = cut_svd gate k s in
          subst (Unmoved lo hi s) (sym (ap (λ (r : Ran). r.state) e))
          (cut_unmoved t (prepared_for k s).side (made_again gate k s || keeps_centre k s) d (rank_of t d) (cut_rank_most t.chain.svd_epsilon t.chain.max_bond_dim (values d)) (taken t (last_decomposed gate k s)))

module _ (lo hi : ℕ) where
  stepped_unmoved : (x : Step) (s : State) → Sound s.chain → Room s → x.site + 1 < s.chain.num_qubits → lo ≤ x.site → x.site + 1 ≤ hi → Unmoved lo hi s (stepped x s).state
  stepped_unmoved x s h room inside a b =
      let y = adjacent_unmoved lo hi x.site a b x.gate s h room inside in
      let e = stepped_same x s in
      record { before = λ c. y.before (sym e.1 ∙ c); apart = λ c. rw e.0 (y.apart (sym e.1 ∙ c)) }

  pub run_steps_unmoved : (xs : List Step) (s : State) → Sound s.chain → Room s → Inside s.chain.num_qubits xs → Spans lo hi xs → Unmoved lo hi s (run_steps xs s).state
  unfolding run_steps
  run_steps_unmoved [] s h room inside spans = unmoved_none lo hi s
  run_steps_unmoved (x ∷ xs) s h room inside spans =
      let y = stepped_unmoved x s h room inside.0 spans.0 spans.1 in
      let z = stepped_within 0 s.chain.num_qubits x s h room inside.0 (omega arith) (omega (arith, inside.0)) (anywhere s.chain.center h.centre) in
      either_way (λ (r : Ran). Unmoved lo hi s r.state) (eqb (stepped x s).refused 0) (run_steps xs (stepped x s).state) (stepped x s)
      (unmoved_then z.keeps y (run_steps_unmoved xs (stepped x s).state z.keeps.sound (within_room z room) (rw z.keeps.qubits inside.1) spans.2))
      y
    where
      anywhere : (at : Option ℕ) → ((j : ℕ) → at ≡ Some j → j < s.chain.num_qubits) → Reach s.chain.num_qubits 0 s.chain.num_qubits at
      anywhere None below = (refl, omega arith)
      anywhere (Some j) below = (omega arith, omega (arith, below j refl))
