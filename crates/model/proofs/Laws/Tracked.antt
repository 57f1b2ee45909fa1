-- A chain of bonds 1 whose sites hold one unit each: centre moves keep it, and a cut moves the bits of its two sites and multiplies the phase. By site; `Following.antt` says it by qubit.
use Rattle.std.specs.Prelude.{◌≡◌, Bool, not, ◌&&◌, ◌≢◌, ◌⊎◌, leb, ltb, eqb, length, get_or, set, Float, Option, Some}
use Rattle.std.proofs.Math.Path.{refl, ap, subst}
use Rattle.std.proofs.Common.{sym, ◌∙◌, inl, inr, ⊎_elim, mul-le-mul_right, pow_mono, le-ltb, eq-eqb, ne_eqb}
use Rattle.std.proofs.Math.Bool.{true, false, cond}
use Rattle.std.specs.Bool.{beq}
use mathlib.Core.List.{List}
use Prim.Native.Nat.{ℕ, zero, suc, ◌+◌, ◌-◌, ◌*◌, ◌^◌, ◌≤◌, ◌<◌, max}
use Rattle.std.proofs.Math.Decide.{ℕ_discrete}
use native.Mathlib.Omega.{arith}
use Rattle.std.proofs.lemmas.List.{set-get_or}
use Rattle.std.specs.Float.Ieee.{binary64, div, le, of_bits}
use Rattle.complex.specs.Complex.{zero_f, one_f, conj_c}
use Rattle.complex.specs.Parts.{part_put}
use Rattle.complex.specs.Numbers.{numbers, length_numbers}
use Rattle.complex.specs.Matrix.{rows, length_rows}
use Rattle.complex.specs.declared.Complex.{Complex}
use Rattle.model.specs.declared.WeightSide.{WeightSide}
use Rattle.model.specs.declared.WeightSide.TheVariants.{Left, Right}
use Rattle.model.specs.declared.Projected.TheVariants as projected
use Rattle.model.specs.Chain.{with_bond, with_center}
use Rattle.model.specs.Slots.{State, held, lefts, rights, slot_room, store_room, slot_of, filled, with_site, site_at}
use Rattle.model.specs.Svd.{Svd, values, u_at, vt_at, value_at}
use Rattle.model.specs.Truncation.{share, recorded, workspace}
use Rattle.model.specs.Qr.{Kept, qr}
use Rattle.model.specs.Pair.{pair_svd, isometry_site, vt_site, left_site, right_site}
use Rattle.model.specs.Moves.{q_at, pair_stored, right_matrix, left_matrix, absorbed_right, absorbed_left, right_from, left_from, step_right, step_left, walk_right, walk_left, moved, established, Prepared}
use Rattle.model.specs.Cut.{Tried, tried, weight_site, cut_recorded, cut_stored, concluded, cut_with, attempt, ran, adjacent, keeps_centre, prepared_for}
use Rattle.model.specs.Born.{weight, total, drawn, projected_site, reset_site, weight_at, total_at, drawn_at, unless_clamped, projected_at, reset_at, readied}
use Rattle.model.specs.Calls.{project_answer}
use Rattle.model.specs.Phases.{Phase, ◌⊗◌, one}
use Rattle.model.proofs.Laws.Units.{Holds, Moves, Fraction}
use Rattle.model.proofs.Laws.UnitCut.{cut_exact}
use Rattle.model.proofs.Laws.UnitSites.{weight_is, total_is, drawn_is, clamped_is, projected_holds, reset_holds, holds_filled, right_exact, left_exact}
use Rattle.model.proofs.Laws.MoveLaws.{Apart, length_filled, site_apart, slot_four, readied_by, prepared_by_lem}
use Rattle.model.proofs.Laws.SoundKept.{stored_centre}
use Rattle.model.proofs.Laws.CutLaws.{length_isometry_site, length_scaled_site, length_vt_site, length_scaled_vt_site}
use Rattle.model.proofs.Laws.Tests.{trichotomy, either_way}

-- ---- a function changed at one place

abbrev pub update : {X : Type 0} → ℕ → X → (ℕ → X) → ℕ → X
update k x f j = cond (eqb j k) x (f j)

pub update_at : {X : Type 0} (k : ℕ) (x : X) (f : ℕ → X) → update k x f k ≡ x
update_at k x f = ap (λ (c : Bool). cond c x (f k)) (eq-eqb k k refl)

pub update_else : {X : Type 0} (k : ℕ) (x : X) (f : ℕ → X) (j : ℕ) → j ≢ k → update k x f j ≡ f j
update_else k x f j n = ap (λ (c : Bool). cond c x (f j)) (ne_eqb j k n)

-- at the sites k and k + 1
abbrev pub update2 : {X : Type 0} → ℕ → X → X → (ℕ → X) → ℕ → X
update2 k x y f = update (k + 1) y (update k x f)

pub update2_first : {X : Type 0} (k : ℕ) (x y : X) (f : ℕ → X) → update2 k x y f k ≡ x
update2_first k x y f = update_else (k + 1) y (update k x f) k (omega arith) ∙ update_at k x f

pub update2_second : {X : Type 0} (k : ℕ) (x y : X) (f : ℕ → X) → update2 k x y f (k + 1) ≡ y
update2_second k x y f = update_at (k + 1) y (update k x f)

pub update2_else : {X : Type 0} (k : ℕ) (x y : X) (f : ℕ → X) (j : ℕ) → j ≢ k → j ≢ k + 1 → update2 k x y f j ≡ f j
update2_else k x y f j m n = update_else (k + 1) y (update k x f) j n ∙ update_else k x f j m

-- ---- slots

-- what was written into the slot of site k is there
slot_same : (n d k : ℕ) (xs store : List Float) → k < n → store_room n d ≤ length store → length xs ≤ slot_room d → slot_of d k (with_site d k xs store) ≡ filled (slot_room d) xs
slot_same n d k xs store K room fits =
    let r = slot_room d in
    part_put (k * r) (k * r + r) store (omega arith) (omega (arith, mul-le-mul_right {m = suc k} {n = n} r K)) (filled r xs) (length_filled r xs fits ∙ omega arith)

-- ---- what no call changes: the settings, and the length of the store

pub record Setup : Type 0 where
  pub qubits : ℕ
  pub cap : ℕ
  pub exponent : ℕ
  pub epsilon : Float
  pub clamp : Float
  pub long : ℕ

abbrev pub setup_of : State → Setup
setup_of s = record {
  qubits = s.chain.num_qubits;
  cap = s.chain.max_bond_dim;
  exponent = s.chain.workspace_exponent;
  epsilon = s.chain.svd_epsilon;
  clamp = s.chain.norm_clamp_min;
  long = length s.store;
}

-- settings in their ranges, two qubits or more, workspace exponent 5 or more, and a store that is long enough
pub record Fit (S : Setup) : Type 0 where
  pub two : 2 ≤ S.qubits
  pub some : 1 ≤ S.cap
  pub room : 5 ≤ S.exponent
  pub epsilon : Fraction S.epsilon
  pub clamp : Fraction S.clamp
  pub store : store_room S.qubits S.cap ≤ S.long

-- every bond is 1, nothing is discarded, site k holds the phase p k at the bit b k, and the label maps are A and B
pub record Tracked (S : Setup) (A B : List ℕ) (s : State) (b : ℕ → Bool) (p : ℕ → Phase) : Type 0 where
  pub same : setup_of s ≡ S
  pub lefts_one : (k : ℕ) → k < S.qubits → lefts s k ≡ 1
  pub rights_one : (k : ℕ) → k < S.qubits → rights s k ≡ 1
  pub holds : (k : ℕ) → k < S.qubits → Holds (site_at s k) (b k) (p k)
  pub centre : (k : ℕ) → s.chain.center ≡ Some k → k < S.qubits
  pub high_one : s.chain.bond_high_water ≡ 1
  pub none : s.chain.truncation_discarded ≡ zero_f
  pub sites_are : s.chain.logical_to_site ≡ A
  pub qubits_are : s.chain.site_to_logical ≡ B

-- ---- sites of bonds 1 are four numbers long

length_left : (side : WeightSide) (d : Svd) → length (left_site side 1 1 d) ≡ 4
length_left Left d = length_scaled_site 1 1 (u_at d) (value_at d)
length_left Right d = length_isometry_site 1 1 (u_at d)

length_right : (side : WeightSide) (d : Svd) → length (right_site side 1 1 d) ≡ 4
length_right Left d = length_vt_site 1 1 (vt_at d)
length_right Right d = length_scaled_vt_site 1 1 (vt_at d) (value_at d)

length_absorbed_right : (f : Kept) (next : List Float) → f.rank ≡ 1 → length (absorbed_right 1 1 1 f next) ≡ 4
unfolding absorbed_right
length_absorbed_right f next e = length_rows 2 _ (λ c. length_numbers 2 _) f.rank ∙ omega arith

length_absorbed_left : (f : Kept) (prev : List Float) → f.rank ≡ 1 → length (absorbed_left 1 1 1 f prev) ≡ 4
unfolding absorbed_left
length_absorbed_left f prev e = length_rows f.rank _ (λ c. length_numbers f.rank _) 2 ∙ omega arith

length_projected : (o : Bool) (site : List Float) → length (projected_site 1 1 o site) ≡ 4
unfolding projected_site rows numbers
length_projected o site = refl

length_reset : (o : Bool) (site : List Float) → length (reset_site 1 1 o site) ≡ 4
unfolding reset_site rows numbers
length_reset o site = refl

unlike_self : (b : Bool) → not b ≡ b → ⊥
unlike_self true e = let z : ◌≡◌ {A = ℕ} 0 1 = cc in omega arith
unlike_self false e = let z : ◌≡◌ {A = ℕ} 0 1 = cc in omega arith

-- ---- sites written

either_side : (j k : ℕ) → j ≢ k → (j < k) ⊎ (k < j)
either_side j k n = ⊎_elim (λ l. inl l) (⊎_elim (λ e. absurd (n e)) (λ l. inr l)) (trichotomy j k)

module _ (S : Setup) (D : Fit S) (A B : List ℕ) where
  fit_of : (s : State) → setup_of s ≡ S → Fit (setup_of s)
  fit_of s e = subst (λ (x : Setup). Fit x) (sym e) D

  below : (s : State) (k : ℕ) → setup_of s ≡ S → k < S.qubits → k < s.chain.num_qubits
  below s k e l = let n : s.chain.num_qubits ≡ S.qubits = ap (λ (x : Setup). x.qubits) e in omega arith

  -- one site
  module _ (s : State) (b b' : ℕ → Bool) (p p' : ℕ → Phase) (k : ℕ) (xs : List Float) (K : k < S.qubits) (t : Tracked S A B s b p) (size : length xs ≡ 4)
      (H : Holds xs (b' k) (p' k)) (else : (j : ℕ) → j ≢ k → (b' j ≡ b j) × (p' j ≡ p j)) where
    abbrev d : ℕ
    d = s.chain.max_bond_dim

    F : Fit (setup_of s)
    F = fit_of s t.same

    small : length xs ≤ slot_room d
    small = let f : 4 ≤ slot_room d = slot_four d F.some in omega arith

    apart : Apart s.chain.num_qubits d k k s.store (with_site d k xs s.store)
    apart = site_apart s.chain.num_qubits d k xs s.store (below s k t.same K) F.store small

    abbrev out : State
    out = held s.chain (with_site d k xs s.store)

    at_site : (j : ℕ) → j < S.qubits → Dec (j ≡ k) → Holds (site_at out j) (b' j) (p' j)
    at_site j J (yes e) = subst (λ (x : ℕ). Holds (site_at out x) (b' x) (p' x)) (sym e)
        (subst (λ (x : List Float). Holds x (b' k) (p' k)) (sym (slot_same s.chain.num_qubits d k xs s.store (below s k t.same K) F.store small)) (holds_filled (slot_room d) xs (b' k) (p' k) (omega arith) H))
    at_site j J (no n) =
        let q = else j n in
        subst (λ (x : List Float). Holds x (b' j) (p' j)) (sym (apart.slots j (either_side j k n)))
        (subst (λ (x : Bool). Holds (site_at s j) x (p' j)) (sym q.0) (subst (λ (x : Phase). Holds (site_at s j) (b j) x) (sym q.1) (t.holds j J)))

    pub site_tracked : Tracked S A B out b' p'
    site_tracked = record {
      same = (λ i. record {
        qubits = s.chain.num_qubits;
        cap = d;
        exponent = s.chain.workspace_exponent;
        epsilon = s.chain.svd_epsilon;
        clamp = s.chain.norm_clamp_min;
        long = apart.long i;
      }) ∙ t.same;
      lefts_one = t.lefts_one;
      rights_one = t.rights_one;
      holds = λ j J. at_site j J (ℕ_discrete j k);
      centre = t.centre;
      high_one = t.high_one;
      none = t.none;
      sites_are = t.sites_are;
      qubits_are = t.qubits_are;
    }

  -- the bond between the sites k and k + 1, which is 1, written
  set_one : (l : List ℕ) (i : ℕ) → get_or l i 0 ≡ 1 → set l i 1 ≡ l
  set_one l i e = ap (set l i) (sym e) ∙ set-get_or l i 0

  bond_tracked : (s : State) (b : ℕ → Bool) (p : ℕ → Phase) (k : ℕ) → k + 1 < S.qubits → Tracked S A B s b p → Tracked S A B (held (with_bond s.chain k 1) s.store) b p
  bond_tracked s b p k K t =
      let K' : k < S.qubits = omega arith in
      record {
        same = t.same;
        lefts_one = λ j J. ap (λ (x : List ℕ). get_or x j 0) (set_one s.chain.bond_left (k + 1) (t.lefts_one (k + 1) K)) ∙ t.lefts_one j J;
        rights_one = λ j J. ap (λ (x : List ℕ). get_or x j 0) (set_one s.chain.bond_right k (t.rights_one k K')) ∙ t.rights_one j J;
        holds = t.holds;
        centre = t.centre;
        high_one = t.high_one;
        none = t.none;
        sites_are = t.sites_are;
        qubits_are = t.qubits_are;
      }

  -- two neighbours
  pair_tracked : (s : State) (b : ℕ → Bool) (p : ℕ → Phase) (k : ℕ) (x y : Bool) (u v : Phase) (l r : List Float) → k + 1 < S.qubits → Tracked S A B s b p
      → length l ≡ 4 → Holds l x u → length r ≡ 4 → Holds r y v → Tracked S A B (pair_stored k l 1 r s) (update2 k x y b) (update2 k u v p)
  pair_tracked s b p k x y u v l r K t sl hl sr hr =
      site_tracked (held (with_bond s.chain k 1) (with_site s.chain.max_bond_dim k l s.store)) (update k x b) (update2 k x y b) (update k u p) (update2 k u v p) (k + 1) r K
      (site_tracked (held (with_bond s.chain k 1) s.store) b (update k x b) p (update k u p) k l (omega arith) (bond_tracked s b p k K t) sl
      (subst (λ (z : Bool). Holds l z (update k u p k)) (sym (update_at k x b)) (subst (λ (z : Phase). Holds l x z) (sym (update_at k u p)) hl))
      (λ j n. (update_else k x b j n, update_else k u p j n)))
      sr
      (subst (λ (z : Bool). Holds r z (update2 k u v p (k + 1))) (sym (update2_second k x y b)) (subst (λ (z : Phase). Holds r y z) (sym (update2_second k u v p)) hr))
      (λ j n. (update_else (k + 1) y (update k x b) j n, update_else (k + 1) v (update k u p) j n))

  -- what is tracked of equal functions
  pub tracked_as : (s : State) (b b' : ℕ → Bool) (p p' : ℕ → Phase) → ((j : ℕ) → b' j ≡ b j) → ((j : ℕ) → p' j ≡ p j) → Tracked S A B s b p → Tracked S A B s b' p'
  tracked_as s b b' p p' e f t = record {
    same = t.same;
    lefts_one = t.lefts_one;
    rights_one = t.rights_one;
    holds = λ j J. subst (λ (z : Bool). Holds (site_at s j) z (p' j)) (sym (e j)) (subst (λ (z : Phase). Holds (site_at s j) (b j) z) (sym (f j)) (t.holds j J));
    centre = t.centre;
    high_one = t.high_one;
    none = t.none;
    sites_are = t.sites_are;
    qubits_are = t.qubits_are;
  }

  -- ---- moves of the centre
  module _ (b : ℕ → Bool) (p : ℕ → Phase) where
    -- two neighbours written with what they held
    rewritten : (s : State) (k : ℕ) (l r : List Float) → k + 1 < S.qubits → Tracked S A B s b p → length l ≡ 4 → Holds l (b k) (p k) → length r ≡ 4 → Holds r (b (k + 1)) (p (k + 1))
        → Tracked S A B (pair_stored k l 1 r s) b p
    rewritten s k l r K t sl hl sr hr =
        tracked_as (pair_stored k l 1 r s) _ b _ p (kept b) (kept p) (pair_tracked s b p k (b k) (b (k + 1)) (p k) (p (k + 1)) l r K t sl hl sr hr)
      where
        kept : {X : Type 0} (f : ℕ → X) (j : ℕ) → f j ≡ update2 k (f k) (f (k + 1)) f j
        kept {X} f j = go (ℕ_discrete j k) (ℕ_discrete j (k + 1))
          where
            go : Dec (j ≡ k) → Dec (j ≡ k + 1) → f j ≡ update2 k (f k) (f (k + 1)) f j
            go (yes e) d = ap f e ∙ sym (update2_first k (f k) (f (k + 1)) f) ∙ ap (update2 k (f k) (f (k + 1)) f) (sym e)
            go (no m) (yes e) = ap f e ∙ sym (update2_second k (f k) (f (k + 1)) f) ∙ ap (update2 k (f k) (f (k + 1)) f) (sym e)
            go (no m) (no n) = sym (update2_else k (f k) (f (k + 1)) f j m n)

    right_tracked : (k : ℕ) (s : State) → k + 1 < S.qubits → Tracked S A B s b p → Tracked S A B (step_right k s) b p
    unfolding step_right
    right_tracked k s K t =
        let K' : k < S.qubits = omega arith in
        let f = qr 2 1 (right_matrix 1 1 (site_at s k)) in
        let x = right_exact (site_at s k) (site_at s (k + 1)) (b k) (p k) (b (k + 1)) (p (k + 1)) (t.holds k K') (t.holds (k + 1) K) in
        subst (λ (y : State). Tracked S A B y b p)
        (sym ((λ i. right_from k (t.lefts_one k K' i) (t.rights_one k K' i) (t.rights_one (k + 1) K i) s
        (qr (2 * t.lefts_one k K' i) (t.rights_one k K' i) (right_matrix (t.lefts_one k K' i) (t.rights_one k K' i) (site_at s k))))
        ∙ (λ i. pair_stored k (isometry_site 1 (x.bond i) (q_at 2 f)) (x.bond i) (absorbed_right 1 1 1 f (site_at s (k + 1))) s)))
        (rewritten s k (isometry_site 1 1 (q_at 2 f)) (absorbed_right 1 1 1 f (site_at s (k + 1))) K t (length_isometry_site 1 1 (q_at 2 f)) (subst (λ (c : ℕ). Holds (isometry_site 1 c (q_at 2 f)) (b k) (p k)) x.bond x.left) (length_absorbed_right f (site_at s (k + 1)) x.bond) x.right)

    left_tracked : (k : ℕ) (s : State) → k + 1 < S.qubits → Tracked S A B s b p → Tracked S A B (step_left k s) b p
    unfolding step_left
    left_tracked k s K t =
        let K' : k < S.qubits = omega arith in
        let f = qr 2 1 (left_matrix 1 1 (site_at s (k + 1))) in
        let vt : ℕ → ℕ → Complex = λ g c. conj_c (q_at 2 f c g) in
        let x = left_exact (site_at s k) (site_at s (k + 1)) (b k) (p k) (b (k + 1)) (p (k + 1)) (t.holds k K') (t.holds (k + 1) K) in
        subst (λ (y : State). Tracked S A B y b p)
        (sym ((λ i. left_from k (t.lefts_one k K' i) (t.lefts_one (k + 1) K i) (t.rights_one (k + 1) K i) s
        (qr (2 * t.rights_one (k + 1) K i) (t.lefts_one (k + 1) K i) (left_matrix (t.lefts_one (k + 1) K i) (t.rights_one (k + 1) K i) (site_at s (k + 1)))))
        ∙ (λ i. pair_stored k (absorbed_left 1 1 1 f (site_at s k)) (x.bond i) (vt_site (x.bond i) 1 vt) s)))
        (rewritten s k (absorbed_left 1 1 1 f (site_at s k)) (vt_site 1 1 vt) K t (length_absorbed_left f (site_at s k) x.bond) x.left (length_vt_site 1 1 vt) (subst (λ (c : ℕ). Holds (vt_site c 1 vt) (b (k + 1)) (p (k + 1))) x.bond x.right))

    walk_right_tracked : (n k : ℕ) (s : State) → k + n < S.qubits → Tracked S A B s b p → Tracked S A B (walk_right n k s) b p
    unfolding walk_right
    walk_right_tracked zero k s K t = t
    walk_right_tracked (suc n) k s K t = walk_right_tracked n (k + 1) (step_right k s) (omega arith) (right_tracked k s (omega arith) t)

    walk_left_tracked : (n k : ℕ) (s : State) → n ≤ k → k < S.qubits → Tracked S A B s b p → Tracked S A B (walk_left n k s) b p
    unfolding walk_left
    walk_left_tracked zero k s N K t = t
    walk_left_tracked (suc n) k s N K t = walk_left_tracked n (k - 1) (step_left (k - 1) s) (omega arith) (omega arith) (left_tracked (k - 1) s (omega arith) t)

    centre_tracked : (s : State) (c : Option ℕ) → ((k : ℕ) → c ≡ Some k → k < S.qubits) → Tracked S A B s b p → Tracked S A B (held (with_center s.chain c) s.store) b p
    centre_tracked s c w t = record {
      same = t.same;
      lefts_one = t.lefts_one;
      rights_one = t.rights_one;
      holds = t.holds;
      centre = w;
      high_one = t.high_one;
      none = t.none;
      sites_are = t.sites_are;
      qubits_are = t.qubits_are;
    }

    moved_tracked : (from to : ℕ) (s : State) → from < S.qubits → to < S.qubits → Tracked S A B s b p → Tracked S A B (moved from to s) b p
    unfolding moved
    moved_tracked from to s F G t =
        centre_tracked (walk_left (from - to) from (walk_right (to - from) from s)) (Some to) (λ k e. let same : to ≡ k = cc in omega arith)
        (walk_left_tracked (from - to) from (walk_right (to - from) from s) (omega arith) F (walk_right_tracked (to - from) from s (omega arith) t))

    established_tracked : (to : ℕ) (s : State) → to < S.qubits → Tracked S A B s b p → Tracked S A B (established to s) b p
    unfolding established
    established_tracked to s G t =
        let two : 2 ≤ S.qubits = D.two in
        let n : s.chain.num_qubits ≡ S.qubits = ap (λ (x : Setup). x.qubits) t.same in
        let last = s.chain.num_qubits - 1 in
        let twice : (i j : ℕ) → i < S.qubits → j < S.qubits → Tracked S A B (moved j to (moved i j s)) b p = λ i j I J. moved_tracked j to (moved i j s) J G (moved_tracked i j s I J t) in
        either_way (λ (x : State). Tracked S A B x b p) (leb (2 * to) last) _ _ (twice last 0 (omega arith) (omega arith)) (twice 0 last (omega arith) (omega arith))

    pub readied_tracked : (k : ℕ) (s : State) → k < S.qubits → Tracked S A B s b p → Tracked S A B (readied k s) b p
    readied_tracked k s K t =
        readied_by (λ (x : State). Tracked S A B x b p) k s (λ e. established_tracked k s K t) (λ from e. moved_tracked from k s (t.centre from e) K t)

    prepared_tracked : (k : ℕ) (s : State) → k + 1 < S.qubits → Tracked S A B s b p → Tracked S A B (prepared_for k s).state b p
    prepared_tracked k s K t =
        prepared_by_lem (λ (x : State). Tracked S A B x b p) k s t (λ e. established_tracked k s (omega arith) t) (λ from to e l m. moved_tracked from to s (t.centre from e) (omega arith) t)

    -- ---- a cut
    module _ (gate : List (List Complex)) (G : Moves gate) (k : ℕ) (K : k + 1 < S.qubits) where
      abbrev pub moved_bits : ℕ → Bool
      moved_bits = update2 k (G.first (b k) (b (k + 1))) (G.second (b k) (b (k + 1))) b

      abbrev pub moved_phases : ℕ → Phase
      moved_phases = update2 k (G.by (b k) (b (k + 1)) ⊗ (p k ⊗ p (k + 1))) one p

      -- the cut is stored: not refused, not made again
      abbrev Stored : Tried → Type 0
      Stored a = (t : State) × (a ≡ tried 0 false t) × Tracked S A B t moved_bits moved_phases

      -- the state that a cut leaves, by its two sites and its shares of the discarded weight
      abbrev cut_written : Bool → WeightSide → State → List Float → List Float → List Float → State
      cut_written maintained side s l r shares =
          let t = pair_stored k l 1 r s in
          held (with_center (cut_recorded k 1 shares t.chain) (cond maintained (Some (weight_site side k)) s.chain.center)) t.store

      written_tracked : (maintained : Bool) (side : WeightSide) (s : State) (l r shares : List Float) → Tracked S A B s b p → length l ≡ 4
          → Holds l (G.first (b k) (b (k + 1))) (G.by (b k) (b (k + 1)) ⊗ (p k ⊗ p (k + 1))) → length r ≡ 4 → Holds r (G.second (b k) (b (k + 1))) one → recorded s.chain.truncation_discarded shares ≡ zero_f
          → Tracked S A B (cut_written maintained side s l r shares) moved_bits moved_phases
      written_tracked maintained side s l r shares t sl hl sr hr e =
          let u = pair_tracked s b p k (G.first (b k) (b (k + 1))) (G.second (b k) (b (k + 1))) (G.by (b k) (b (k + 1)) ⊗ (p k ⊗ p (k + 1))) one l r K t sl hl sr hr in
          record {
            same = u.same;
            lefts_one = u.lefts_one;
            rights_one = u.rights_one;
            holds = u.holds;
            centre = stored_centre S.qubits k K maintained side s.chain.center t.centre;
            high_one = λ i. max (t.high_one i) 1;
            none = e;
            sites_are = u.sites_are;
            qubits_are = u.qubits_are;
          }

      calm : (maintained : Bool) (x y : Tried) → cond (not maintained && false) x y ≡ y
      calm true x y = refl
      calm false x y = refl

      cut_stored_lem : (maintained : Bool) (P : Prepared) → Tracked S A B P.state b p → Stored (cut_with gate k maintained P)
      unfolding cut_with
      cut_stored_lem maintained P t =
          let K' : k < S.qubits = omega arith in
          let s = P.state in
          let F = fit_of s t.same in
          let d = pair_svd s.chain.norm_clamp_min 1 1 1 gate (site_at s k) (site_at s (k + 1)) in
          let x =
          cut_exact gate G (site_at s k) (site_at s (k + 1)) (b k) (b (k + 1)) (p k) (p (k + 1)) (t.holds k K') (t.holds (k + 1) K)
          s.chain.svd_epsilon s.chain.norm_clamp_min s.chain.max_bond_dim P.side F.epsilon F.clamp F.some in
          let out = cut_written maintained P.side s (left_site P.side 1 1 d) (right_site P.side 1 1 d) (share (values d) 1) in (
            out,
            (λ i. concluded k maintained P.side s
                (pair_svd s.chain.norm_clamp_min (t.lefts_one k K' i) (t.rights_one k K' i) (t.rights_one (k + 1) K i) gate (site_at s k) (site_at s (k + 1))))
                ∙ (λ i. cond (x.ordered i) (tried 7 false s) (cond (not maintained && x.resolved i) (tried 0 true s) (tried 0 false (cut_stored k maintained P.side s d (x.bond i)))))
                ∙ calm maintained (tried 0 true s) (tried 0 false (cut_stored k maintained P.side s d 1))
                ∙ (λ i. tried 0 false (cut_written maintained P.side s (left_site P.side (t.lefts_one k K' i) 1 d) (right_site P.side 1 (t.rights_one (k + 1) K i) d) (share (values d) 1))),
            written_tracked maintained P.side s (left_site P.side 1 1 d) (right_site P.side 1 1 d) (share (values d) 1) t (length_left P.side d)
                (subst (λ (c : ℕ). Holds (left_site P.side 1 c d) (G.first (b k) (b (k + 1))) (G.by (b k) (b (k + 1)) ⊗ (p k ⊗ p (k + 1)))) x.bond x.left)
                (length_right P.side d) (subst (λ (c : ℕ). Holds (right_site P.side c 1 d) (G.second (b k) (b (k + 1))) one) x.bond x.right)
                (ap (λ (z : Float). recorded z (share (values d) 1)) t.none ∙ ap (λ (c : ℕ). recorded zero_f (share (values d) c)) (sym x.bond) ∙ x.discarded),
          )

      -- a cut of bonds 1, 1, 1 works in 22 numbers
      roomy : (e : ℕ) → 5 ≤ e → ltb (2 ^ e) 22 ≡ false
      roomy e h = le-ltb (2 ^ e) 22 (let m : 2 ^ 5 ≤ 2 ^ e = pow_mono h in omega arith)

      attempt_stored : (s : State) → Tracked S A B s b p → Stored (attempt gate k s)
      unfolding attempt
      attempt_stored s t =
          let K' : k < S.qubits = omega arith in
          let cut = cut_with gate k (keeps_centre k s) (prepared_for k s) in
          let c = cut_stored_lem (keeps_centre k s) (prepared_for k s) (prepared_tracked k s K t) in (
            c.0,
            (λ i. cond (ltb (2 ^ s.chain.workspace_exponent) (workspace (t.lefts_one k K' i) (t.rights_one k K' i) (t.rights_one (k + 1) K i))) (tried 6 false s) cut)
                ∙ ap (λ (x : Bool). cond x (tried 6 false s) cut) (roomy s.chain.workspace_exponent (fit_of s t.same).room)
                ∙ c.1,
            c.2,
          )

      pub adjacent_tracked : (s : State) → Tracked S A B s b p → (t : State) × (adjacent gate k s ≡ ran 0 t) × Tracked S A B t moved_bits moved_phases
      unfolding adjacent
      adjacent_tracked s t =
          let c = attempt_stored s t in (
            c.0,
            ap (λ (first : Tried). let second = attempt gate k (established k first.state) in cond first.again (ran second.refused second.state) (ran first.refused first.state)) c.1,
            c.2,
          )

    -- ---- the centre being at site k: its weights, the draw, projection and reset
    module _ (s : State) (t : Tracked S A B s b p) (k : ℕ) (K : k < S.qubits) where
      site_holds : Holds (site_at s k) (b k) (p k)
      site_holds = t.holds k K

      at_ones : {X : Type 0} (f : ℕ → ℕ → X) → f (lefts s k) (rights s k) ≡ f 1 1
      at_ones f = λ i. f (t.lefts_one k K i) (t.rights_one k K i)

      pub weight_tracked : (o : Bool) → weight_at k o s ≡ cond (beq (b k) o) one_f zero_f
      weight_tracked o = at_ones (λ x y. weight x y (site_at s k) o) ∙ weight_is (site_at s k) (b k) (p k) site_holds o

      total_tracked : total_at k s ≡ one_f
      total_tracked = at_ones (λ x y. total x y (site_at s k)) ∙ total_is (site_at s k) (b k) (p k) site_holds

      pub drawn_tracked : (draw : Float) → Fraction draw → drawn_at k draw s ≡ b k
      drawn_tracked draw f = at_ones (λ x y. drawn draw x y (site_at s k)) ∙ drawn_is (site_at s k) (b k) (p k) site_holds draw f

      clamp_test : (o : Bool) → le (weight_at k o s) s.chain.norm_clamp_min ≡ not (beq (b k) o)
      clamp_test o = at_ones (λ x y. le (weight x y (site_at s k) o) s.chain.norm_clamp_min) ∙ clamped_is (site_at s k) (b k) (p k) site_holds s.chain.norm_clamp_min (fit_of s t.same).clamp o

      pub answer_tracked : (o : Bool) → project_answer k o s ≡ cond (beq (b k) o) (projected.Kept one_f) projected.Nothing
      unfolding div of_bits
      answer_tracked o =
          (λ i. cond (clamp_test o i) projected.Nothing (projected.Kept (div binary64 (weight_tracked o i) (total_tracked i)))) ∙ go (beq (b k) o)
        where
          go : (c : Bool) → cond (not c) projected.Nothing (projected.Kept (div binary64 (cond c one_f zero_f) one_f)) ≡ cond c (projected.Kept one_f) projected.Nothing
          go true = refl
          go false = refl

      -- the site rewritten, or not
      unless_tracked : (o : Bool) (site : List Float) (b' : ℕ → Bool) → length site ≡ 4 → (b k ≡ o → Tracked S A B (held s.chain (with_site s.chain.max_bond_dim k site s.store)) b' p)
          → (not (b k) ≡ o → Tracked S A B s b' p) → Tracked S A B (unless_clamped k o site s) b' p
      unless_tracked o site b' size there absent =
          subst (λ (y : State). Tracked S A B y b' p) (sym (ap (λ (c : Bool). cond c s (held s.chain (with_site s.chain.max_bond_dim k site s.store))) (clamp_test o))) (go (b k) o there absent)
        where
          go : (x o : Bool) → (x ≡ o → Tracked S A B (held s.chain (with_site s.chain.max_bond_dim k site s.store)) b' p) → (not x ≡ o → Tracked S A B s b' p)
              → Tracked S A B (cond (not (beq x o)) s (held s.chain (with_site s.chain.max_bond_dim k site s.store))) b' p
          go true true y n = y refl
          go true false y n = n refl
          go false true y n = n refl
          go false false y n = y refl

      -- whatever the outcome, a projection keeps every bit and phase
      pub projected_tracked : (o : Bool) → Tracked S A B (projected_at k o s) b p
      unfolding projected_at
      projected_tracked o =
          subst (λ (site : List Float). Tracked S A B (unless_clamped k o site s) b p) (sym (at_ones (λ x y. projected_site x y o (site_at s k))))
          (unless_tracked o (projected_site 1 1 o (site_at s k)) b (length_projected o (site_at s k))
          (λ e. site_tracked s b b p p k (projected_site 1 1 o (site_at s k)) K t (length_projected o (site_at s k))
          (subst (λ (x : Bool). Holds (projected_site 1 1 x (site_at s k)) (b k) (p k)) e (projected_holds (site_at s k) (b k) (p k) site_holds)) (λ j n. (refl, refl))) (λ e. t))

      -- a reset makes the bit 0 and keeps the phase
      pub reset_tracked : Tracked S A B (reset_at k (b k) s) (update k false b) p
      unfolding reset_at
      reset_tracked =
          subst (λ (site : List Float). Tracked S A B (unless_clamped k (b k) site s) (update k false b) p) (sym (at_ones (λ x y. reset_site x y (b k) (site_at s k))))
          (unless_tracked (b k) (reset_site 1 1 (b k) (site_at s k)) (update k false b) (length_reset (b k) (site_at s k))
          (λ e. site_tracked s b (update k false b) p p k (reset_site 1 1 (b k) (site_at s k)) K t (length_reset (b k) (site_at s k))
          (subst (λ (x : Bool). Holds (reset_site 1 1 (b k) (site_at s k)) x (p k)) (sym (update_at k false b)) (reset_holds (site_at s k) (b k) (p k) site_holds)) (λ j n. (update_else k false b j n, refl)))
          (λ e. absurd (unlike_self (b k) e)))
