-- An attempt and a cut by their branches.
use Rattle.std.specs.Prelude.{ℕ, ◌+◌, ◌^◌, ◌<◌, ◌≤◌, ◌≡◌, Bool, false, ◌&&◌, ◌||◌, cond, List, ltb, Float, Option, Some, Ok, Err}
use Rattle.std.proofs.Math.Path.{refl, sym, ap}
use Rattle.std.proofs.Common.{◌∙◌, true≢false}
use Rattle.std.proofs.Math.Bool.{true, not}
use Rattle.complex.specs.declared.Complex.{Complex}
use Rattle.model.specs.declared.Chain.{Chain}
use Rattle.model.specs.Chain.{with_center}
use Rattle.model.specs.declared.WeightSide.{WeightSide}
use Rattle.model.specs.declared.WeightSide.TheVariants.{Right}
use Rattle.model.specs.Slots.{State, held, with_site}
use Rattle.model.specs.Svd.{values, raw_value, any_nan}
use Rattle.model.specs.Truncation.{rank, resolvable, share, cut_rank, workspace}
use Rattle.model.specs.Pair.{left_site, right_site}
use Rattle.model.specs.Moves.{Prepared, prepared, prepared_on, established}
use Rattle.model.specs.Cut.{known, can_lose, keeps_centre, prepared_for, pair_of, rank_of, reason_in, Tried, tried, weight_site, cut_stored, cut_with, attempt, adjacent, attempt_reason, adjacent_reason}
use Rattle.model.specs.Statements.Soundness.{Sound}
use Rattle.model.proofs.Laws.MoveLaws.{established_centre}
use Rattle.model.proofs.Laws.CutEnds.{established_prepared, second_not_6}
use Rattle.model.proofs.Laws.Tests.{either_way}
use Rattle.truncation.specs.Shares.{shares_of}
use Rattle.model.specs.declared.Bonds.{Bonds}
use Rattle.cutting.specs.Shape.{shape_of, standing, nan_in, Stands}
use Rattle.cutting.specs.Kept.{KeptOf}
use Rattle.cuts.specs.declared.Cut.{Cut}
use Rattle.cuts.specs.Answered.{Answered, answered, answered_by, ran_of}
use Rattle.moves.specs.Bonds.{pair_bonds}
use Rattle.cuts.specs.Pair.{recorded_cut}

-- ---- one cut

-- what storing a cut asks: its decomposition is of the pair k, k + 1 of c and stands at the front of w, and as many values are kept as the cap allows
pub record Storable (k : ℕ) (c : Chain) (w : List Float) (r : Cut) : Type 0 where
  pub shape : r.pair.shape ≡ shape_of (pair_bonds c k).left (pair_bonds c k).right
  pub stands : Stands r.pair.shape w r.pair.order
  pub least : 1 ≤ r.kept.chi
  pub most : r.kept.chi ≤ c.max_bond_dim

-- r is the cut of the pair k, k + 1 with the gate on it, none of its values a NaN, and w begins with it. That it can be stored is another fact, which no law below asks
pub record CutOf (gate : List (List Complex)) (k : ℕ) (s : State) (w : List Float) (r : Cut) : Type 0 where
  pub whole : standing r.pair.shape w r.pair.order ≡ pair_of gate k s
  pub number : nan_in (pair_of gate k s) ≡ false
  pub kept : KeptOf s.chain.svd_epsilon s.chain.max_bond_dim (values (pair_of gate k s)) r.kept

-- the state after it, with its weight on one side and the centre `at`
abbrev pub stored_by : WeightSide → ℕ → List Float → Cut → Option ℕ → State → State
stored_by side k w r at s =
    held (recorded_cut s.chain k r.kept.chi (shares_of r.kept.share) at)
    (with_site s.chain.max_bond_dim (k + 1) (right_site side r.kept.chi (pair_bonds s.chain k).right (standing r.pair.shape w r.pair.order))
    (with_site s.chain.max_bond_dim k (left_site side (pair_bonds s.chain k).left r.kept.chi (standing r.pair.shape w r.pair.order)) s.store))

-- s, and the same state after the decomposition
module _ (gate : List (List Complex)) (k : ℕ) (s u : State) (same : u ≡ s) where
  cut_nan : (maintained : Bool) (side : WeightSide) → nan_in (pair_of gate k u) ≡ true → cut_with gate k maintained (prepared side s) ≡ tried 7 false u
  unfolding cut_with
  cut_nan maintained side z = rw (← same, z)

  module _ (w : List Float) (r : Cut) (h : CutOf gate k u w r) where
    abbrev chi : ℕ
    chi = rank u.chain.svd_epsilon u.chain.max_bond_dim (values (pair_of gate k u))

    kept_share : shares_of r.kept.share ≡ share (values (pair_of gate k u)) chi
    kept_share = h.kept.share ∙ ap (share (values (pair_of gate k u))) h.kept.rank

    kept_lost : r.kept.resolvable ≡ resolvable (values (pair_of gate k u)) chi
    kept_lost = h.kept.resolvable ∙ ap (resolvable (values (pair_of gate k u))) h.kept.rank

    kept_reason : r.kept.reason ≡ reason_in gate k s
    kept_reason = h.kept.reason ∙ ap (reason_in gate k) same

    cut_again : r.kept.resolvable ≡ true → cut_with gate k false (prepared Right s) ≡ tried 0 true u
    unfolding cut_with
    cut_again t = rw (← same, h.number, sym kept_lost ∙ t)

    cut_stored_lem : (maintained : Bool) (side : WeightSide) → not maintained && r.kept.resolvable ≡ false
        → cut_with gate k maintained (prepared side s) ≡ tried 0 false (stored_by side k w r (cond maintained (Some (weight_site side k)) u.chain.center) u)
    unfolding cut_with
    cut_stored_lem maintained side t =
        let y = ap (λ (x : Bool). not maintained && x) (sym kept_lost) ∙ t in
        rw (← same, h.number, y, kept_share, h.kept.rank, h.whole)

-- ---- the cut of a pair that the centre is on

abbrev pub prepared_by : List (List Complex) → ℕ → Prepared → Answered
prepared_by gate k p = answered_by (reason_in gate k p.state) (ran_of (cut_with gate k true p))

module _ (gate : List (List Complex)) (k : ℕ) (s u : State) (same : u ≡ s) (side : WeightSide) where
  pub prepared_nan : nan_in (pair_of gate k u) ≡ true → answered (Err 7) u ≡ prepared_by gate k (prepared side s)
  prepared_nan z = rw (cut_nan gate k s u same true side z)

  -- v is what the storing leaves, and then the centre is the site `at`
  pub prepared_stored : (w : List Float) (r : Cut) → CutOf gate k u w r → (v : State) → v ≡ stored_by side k w r u.chain.center u → (at : ℕ) → at ≡ weight_site side k
      → answered (Ok r.kept.reason) (held (with_center v.chain (Some at)) v.store) ≡ prepared_by gate k (prepared side s)
  prepared_stored w r h v e at l = rw (e, l, cut_stored_lem gate k s u same w r h true side refl, kept_reason gate k s u same w r h)

-- ---- an attempt by its branches

is_false : (b : Bool) → (b ≡ true → ⊥) → b ≡ false
is_false true h = absurd (h refl)
is_false false h = refl

-- above the workspace, and whether a centre is kept, by the bonds b of the pair
abbrev above : State → Bonds → Bool
above s b = ltb (2 ^ s.chain.workspace_exponent) (workspace b.left b.mid b.right)

abbrev keeps : State → Bonds → Bool
keeps s b = known s.chain.center || can_lose s.chain (cut_rank b.left b.mid b.right)

-- what a cut does that keeps a centre, and one that keeps none
kept_once : (gate : List (List Complex)) (k : ℕ) (p : Prepared) → (cut_with gate k true p).again ≡ false
unfolding cut_with
kept_once gate k p = let d = pair_of gate k p.state in either_way (λ (t : Tried). t.again ≡ false) (any_nan d.wide (raw_value d)) _ _ refl refl

bare_untouched : (gate : List (List Complex)) (k : ℕ) (s : State) → (cut_with gate k false (prepared Right s)).again ≡ true → (cut_with gate k false (prepared Right s)).state ≡ s
unfolding cut_with
bare_untouched gate k s =
    let d = pair_of gate k s in
    cases (any_nan d.wide (raw_value d)) (resolvable (values d) (rank_of s d)) (cut_stored k false Right s d (rank_of s d))
  where
    cases : (a b : Bool) (t : State) → (cond a (tried 7 false s) (cond b (tried 0 true s) (tried 0 false t))).again ≡ true
        → (cond a (tried 7 false s) (cond b (tried 0 true s) (tried 0 false t))).state ≡ s
    cases true b t e = refl
    cases false true t e = refl
    cases false false t e = absurd (true≢false (sym e))

module _ (gate : List (List Complex)) (k : ℕ) (s : State) (within : above s (pair_bonds s.chain k) ≡ false) where
  attempt_kept : keeps_centre k s ≡ true → attempt gate k s ≡ cut_with gate k true (prepared_for k s)
  unfolding attempt
  attempt_kept e = rw (within, e)

  attempt_bare : keeps_centre k s ≡ false → attempt gate k s ≡ cut_with gate k false (prepared Right s)
  unfolding attempt
  attempt_bare e = rw (within, e)

  -- the answer of an attempt that keeps a centre
  kept_answers : keeps_centre k s ≡ true → prepared_by gate k (prepared_for k s) ≡ answered_by (attempt_reason gate k s) (ran_of (attempt gate k s))
  kept_answers e = ap (λ (x : Tried). answered_by (attempt_reason gate k s) (ran_of x)) (sym (attempt_kept e))

-- ---- a cut of a pair of bonds b, made again at most once

abbrev pub adjacent_by : List (List Complex) → ℕ → State → Answered
adjacent_by gate k s = answered_by (adjacent_reason gate k s) (adjacent gate k s)

pub keeps_centre_lem : (k : ℕ) (s : State) (b : Bonds) → b ≡ pair_bonds s.chain k → keeps s b ≡ true → keeps_centre k s ≡ true
keeps_centre_lem k s b eb e = rw eb at e

module _ (gate : List (List Complex)) (k : ℕ) (s : State) (b : Bonds) (eb : b ≡ pair_bonds s.chain k) where
  pub adjacent_above : above s b ≡ true → answered (Err 6) s ≡ adjacent_by gate k s
  unfolding attempt adjacent adjacent_reason
  adjacent_above e = rw (rw eb at e)

  module _ (within : above s b ≡ false) where
    inside_room : above s (pair_bonds s.chain k) ≡ false
    inside_room = rw eb at within

    -- an attempt that is not made again
    once : (attempt gate k s).again ≡ false → answered_by (attempt_reason gate k s) (ran_of (attempt gate k s)) ≡ adjacent_by gate k s
    unfolding adjacent adjacent_reason
    once e = rw e

    -- the only one, where a centre is kept
    pub centered_once : (x : Answered) → keeps s b ≡ true → x ≡ prepared_by gate k (prepared_on k s.chain.center s) → x ≡ adjacent_by gate k s
    centered_once x e f =
        let y : keeps_centre k s ≡ true = rw eb at e in
        let p : prepared_on k s.chain.center s ≡ prepared_for k s = rw y in
        f ∙ ap (prepared_by gate k) p ∙ kept_answers gate k s inside_room y ∙ once (ap (λ (x : Tried). x.again) (attempt_kept gate k s inside_room y) ∙ kept_once gate k (prepared_for k s))

    -- without one
    module _ (e : keeps s b ≡ false) where
      first : attempt gate k s ≡ cut_with gate k false (prepared Right s)
      first = attempt_bare gate k s inside_room (rw eb at e)

      bare_once : (t : Tried) → cut_with gate k false (prepared Right s) ≡ t → t.again ≡ false → answered_by (reason_in gate k s) (ran_of t) ≡ adjacent_by gate k s
      bare_once t l z =
          let n : keeps_centre k s ≡ false = rw eb at e in
          let same : answered_by (reason_in gate k s) (ran_of (cut_with gate k false (prepared Right s))) ≡ answered_by (attempt_reason gate k s) (ran_of (attempt gate k s)) = rw (first, n) in
          ap (λ (x : Tried). answered_by (reason_in gate k s) (ran_of x)) (sym l) ∙ same ∙ once (ap (λ (x : Tried). x.again) (first ∙ l) ∙ z)

      pub bare_nan : (u : State) → u ≡ s → nan_in (pair_of gate k u) ≡ true → answered (Err 7) u ≡ adjacent_by gate k s
      bare_nan u same z = bare_once (tried 7 false u) (cut_nan gate k s u same false Right z) refl

      pub bare_stored : (u : State) → u ≡ s → (w : List Float) (r : Cut) → CutOf gate k u w r → r.kept.resolvable ≡ false → (v : State) → v ≡ stored_by Right k w r u.chain.center u
          → answered (Ok r.kept.reason) v ≡ adjacent_by gate k s
      bare_stored u same w r h z v e = rw (e, kept_reason gate k s u same w r h) (bare_once _ (cut_stored_lem gate k s u same w r h false Right z) refl)

      -- and again, after a centre is established
      module _ (h : Sound s.chain) (inside : k + 1 < s.chain.num_qubits) (z : (cut_with gate k false (prepared Right s)).again ≡ true) where
        abbrev second : State
        second = established k s

        made : (attempt gate k s).again ≡ true
        made = ap (λ (x : Tried). x.again) first ∙ z

        same : (attempt gate k s).state ≡ s
        same = ap (λ (x : Tried). x.state) first ∙ bare_untouched gate k s z

        centre : keeps_centre k second ≡ true
        centre = rw (established_centre k s)

        -- no bond is wider now, so the workspace is not exceeded
        six : above second (pair_bonds second.chain k) ≡ true → (attempt gate k (established k (attempt gate k s).state)).refused ≡ 6
        unfolding attempt
        six y = rw (same, y)

        room : above second (pair_bonds second.chain k) ≡ false
        room = is_false (above second (pair_bonds second.chain k)) (λ y. second_not_6 gate k s h inside made (six y))

        made_again : answered_by (attempt_reason gate k second) (ran_of (attempt gate k second)) ≡ adjacent_by gate k s
        unfolding adjacent adjacent_reason
        made_again = rw (made, same)

        again_answers : prepared_by gate k (prepared Right second) ≡ adjacent_by gate k s
        again_answers = ap (prepared_by gate k) (sym (established_prepared k s)) ∙ kept_answers gate k second room centre ∙ made_again

      pub twice : Sound s.chain → k + 1 < s.chain.num_qubits → (u : State) → u ≡ s → (w : List Float) (r : Cut) → CutOf gate k u w r → r.kept.resolvable ≡ true
          → (v : State) → v ≡ established k u → (x : Answered) → x ≡ prepared_by gate k (prepared Right v) → x ≡ adjacent_by gate k s
      twice h inside u same w r o z v e x f =
          let t : (cut_with gate k false (prepared Right s)).again ≡ true = ap (λ (y : Tried). y.again) (cut_again gate k s u same w r o z) in
          f ∙ ap (λ (y : State). prepared_by gate k (prepared Right y)) (e ∙ ap (established k) same) ∙ again_answers h inside t
