-- How a cut ends: refused by 6, refused by 7, or stored, with what it leaves; and steps, which are cuts with their labels.
use Rattle.std.specs.Prelude.{ℕ, suc, ◌+◌, ◌^◌, ◌<◌, ◌≡◌, refl, ◌≢◌, Bool, true, false, not, ◌&&◌, ◌||◌, cond, List, ◌∷◌, T, ltb, eqb, Option, None, Some}
use Rattle.std.proofs.Common.{mul-le-mul, arith, sym, ap, ◌∙◌, subst, inl, inr, true≢false, eqb-true, le-leb}
use Rattle.std.proofs.lemmas.Bool.{eqb-false}
use Rattle.complex.specs.declared.Complex.{Complex}
use Rattle.model.specs.declared.WeightSide.{WeightSide}
use Rattle.model.specs.declared.WeightSide.TheVariants.{Left, Right}
use Rattle.model.specs.Slots.{State, lefts, rights}
use Rattle.model.specs.Svd.{Svd, values, raw_value, any_nan}
use Rattle.model.specs.Truncation.{rank_reason, resolvable, workspace}
use Rattle.model.specs.Moves.{moved, established, Prepared, prepared, prepared_on}
use Rattle.model.specs.Cut.{known, can_lose, Tried, tried, Ran, ran, concluded, cut_stored, cut_with, attempt, adjacent, keeps_centre, prepared_for, pair_of, rank_of, reason_of, reason_in, attempt_reason, adjacent_reason}
use Rattle.model.specs.Routing.{Step, follow, stepped, run_steps}
use Rattle.model.specs.Statements.Table.{AboveWorkspace, most_values, KeepsCentre, SomeNan, Resolvable, MadeAgain, DecomposedIn, NanIn}
use Rattle.model.specs.Statements.Pinned.{made_again, last_in, LastIn}
use Rattle.model.specs.Statements.Soundness.{Sound}
use Rattle.model.proofs.Laws.MoveLaws.{last_site, Narrowed, narrowed_none, moved_still, established_centre, established_narrowed}
use Rattle.model.proofs.Laws.SoundKept.{relabelled_by, prepared_narrowed}
use Rattle.model.proofs.Laws.Tests.{Decides, decides_below, decides_nans, decides_false, test_true, test_false}
use Rattle.model.proofs.Laws.PinnedProof.{decides_keeps, first_in, decides_resolvable, decides_again, last_in_lem}

-- ---- the pair as it is decomposed

-- where no centre is kept, it is decomposed as it stands
pub unprepared : (k : ℕ) (s : State) → keeps_centre k s ≡ false → prepared_for k s ≡ prepared Right s
unprepared k s e = rw e

-- so it is where a centre was just established, which lies on the pair
pub established_prepared : (k : ℕ) (s : State) → prepared_for k (established k s) ≡ prepared Right (established k s)
established_prepared k s =
    let t = established k s in
    let e = established_centre k s in
    ap (λ (at : Option ℕ). cond (known at || can_lose t.chain (most_values k t)) (prepared_on k at t) (prepared Right t)) e
    ∙ ap (λ (b : Bool). cond b (prepared Right (moved k k t)) (prepared Left (moved k (k + 1) t))) (le-leb k k (omega arith))
    ∙ ap (prepared Right) (moved_still k t e)

-- no centre is kept only where none is recorded, and one that was established is kept
no_centre : (k : ℕ) (s : State) → (KeepsCentre k s → ⊥) → s.chain.center ≡ None
no_centre k s none = cases s.chain.center refl
  where
    cases : (at : Option ℕ) → s.chain.center ≡ at → at ≡ None
    cases None e = refl
    cases (Some j) e = absurd (none (inl (j, e)))

keeps_established : (k : ℕ) (s : State) → keeps_centre k (established k s) ≡ true
keeps_established k s = rw (established_centre k s)

module _ (gate : List (List Complex)) (k : ℕ) (s : State) where
  -- what holds of every state in which a cut decomposes the pair
  pub decomposed_by : (P : State → Type 0) → P (prepared_for k s).state → (s.chain.center ≡ None → P (established k s)) → (t : State) → DecomposedIn gate k s t → P t
  decomposed_by P first second t (inl x) = subst P (sym ((first_in k s t).0 x)) first
  decomposed_by P first second t (inr x) = subst P (sym x.1) (second (no_centre k s x.0.0))

  -- the last is one of them
  pub last_decomposed : DecomposedIn gate k s (last_in gate k s)
  last_decomposed = cases ((last_in_lem gate k s (last_in gate k s)).1 refl)
    where
      cases : LastIn gate k s (last_in gate k s) → DecomposedIn gate k s (last_in gate k s)
      cases (inl x) = inr x
      cases (inr x) = inl x.1

-- ---- an attempt

-- the cut of a pair as it is prepared, stored
abbrev stored_with : List (List Complex) → ℕ → Bool → Prepared → State
stored_with gate k keeps p = let t = p.state in cut_stored k keeps p.side t (pair_of gate k t) (rank_of t (pair_of gate k t))

-- what an attempt leaves
pub data Attempted (gate : List (List Complex)) (k : ℕ) (s : State) (t : Tried) : Type 0 where
  above : AboveWorkspace k s → t ≡ tried 6 false s → Attempted gate k s t
  nan : (AboveWorkspace k s → ⊥) → SomeNan (pair_of gate k (prepared_for k s).state) → t ≡ tried 7 false (prepared_for k s).state → Attempted gate k s t
  again : (AboveWorkspace k s → ⊥) → MadeAgain gate k s → t ≡ tried 0 true s → Attempted gate k s t
  stored : (AboveWorkspace k s → ⊥) → (SomeNan (pair_of gate k (prepared_for k s).state) → ⊥) → (MadeAgain gate k s → ⊥) → t ≡ tried 0 false (stored_with gate k (keeps_centre k s) (prepared_for k s))
      → Attempted gate k s t

pub attempted : (gate : List (List Complex)) (k : ℕ) (s : State) → Attempted gate k s (attempt gate k s)
unfolding attempt cut_with
attempted gate k s = room (ltb (2 ^ s.chain.workspace_exponent) (workspace (lefts s k) (rights s k) (rights s (k + 1)))) (decides_below _ _)
  where
    p : Prepared
    p = prepared_for k s

    d : Svd
    d = pair_of gate k p.state

    cut : State
    cut = stored_with gate k (keeps_centre k s) p

    Drops : State → Type 0
    Drops t = Resolvable (values (pair_of gate k t)) (rank_of t (pair_of gate k t))

    -- with no centre kept, the pair is as it stands
    bare : (lost : Bool) → Decides lost (Drops p.state) → p.state ≡ s → (KeepsCentre k s → ⊥) → (AboveWorkspace k s → ⊥) → (SomeNan d → ⊥)
        → Attempted gate k s (cond lost (tried 0 true p.state) (tried 0 false cut))
    bare true l e c a n = again a (c, subst (λ (t : State). SomeNan (pair_of gate k t) → ⊥) e n, subst Drops e (l.holds tt)) (ap (tried 0 true) e)
    bare false l e c a n = stored a n (λ m. l.fails (subst Drops (sym e) m.2)) refl

    kept : (keeps : Bool) → keeps_centre k s ≡ keeps → (AboveWorkspace k s → ⊥) → (SomeNan d → ⊥)
        → Attempted gate k s (cond (not keeps && resolvable (values d) (rank_of p.state d)) (tried 0 true p.state) (tried 0 false cut))
    kept true e a n = stored a n (λ m. m.0 ((decides_keeps k s).holds (subst T (sym e) tt))) refl
    kept false e a n = bare _ (decides_resolvable (values d) (rank_of p.state d)) (ap (λ (x : Prepared). x.state) (unprepared k s e)) (decides_false (decides_keeps k s) e) a n

    numbered : (b : Bool) → Decides b (SomeNan d) → (AboveWorkspace k s → ⊥)
        → Attempted gate k s (cond b (tried 7 false p.state) (cond (not (keeps_centre k s) && resolvable (values d) (rank_of p.state d)) (tried 0 true p.state) (tried 0 false cut)))
    numbered true n a = nan a (n.holds tt) refl
    numbered false n a = kept (keeps_centre k s) refl a n.fails

    room : (b : Bool) → Decides b (AboveWorkspace k s) → Attempted gate k s (cond b (tried 6 false s) (concluded k (keeps_centre k s) p.side p.state d))
    room true a = above (a.holds tt) refl
    room false a = numbered (any_nan d.wide (raw_value d)) (decides_nans d.wide (raw_value d)) a.fails

-- no bond is wider after a centre is established, so that a cut made again is not above the workspace
pub established_narrow : (k : ℕ) (s : State) → Sound s.chain → k + 1 < s.chain.num_qubits → AboveWorkspace k (established k s) → AboveWorkspace k s
established_narrow k s h inside a =
    let x = established_narrowed k s h (omega arith) in
    let e : 2 ^ (established k s).chain.workspace_exponent ≡ 2 ^ s.chain.workspace_exponent = ap (λ (m : ℕ). 2 ^ m) (λ i. (x.rest.settings i).exponent) in
    omega (arith, mul-le-mul (x.left_most k) (x.right_most (k + 1)), mul-le-mul (x.right_most k) (x.right_most (k + 1)))

-- ---- a cut, made again at most once

-- the cut stored, with the centre kept where one was established
abbrev cut_by : List (List Complex) → ℕ → State → Bool → State
cut_by gate k s made =
    let t = cond made (established k s) (prepared_for k s).state in
    cut_stored k (made || keeps_centre k s) (prepared_for k s).side t (pair_of gate k t) (rank_of t (pair_of gate k t))

abbrev pub cut_at : List (List Complex) → ℕ → State → State
cut_at gate k s = cut_by gate k s (made_again gate k s)

-- what a cut leaves
pub data CutEnds (gate : List (List Complex)) (k : ℕ) (s : State) (r : Ran) : Type 0 where
  above : AboveWorkspace k s → r ≡ ran 6 s → CutEnds gate k s r
  nan : (AboveWorkspace k s → ⊥) → (t : State) → NanIn gate k s t → r ≡ ran 7 t → CutEnds gate k s r
  stored : (AboveWorkspace k s → ⊥) → ((t : State) → NanIn gate k s t → ⊥) → r ≡ ran 0 (cut_at gate k s) → CutEnds gate k s r

module _ (gate : List (List Complex)) (k : ℕ) (s : State) where
  abbrev HasNan : State → Type 0
  HasNan t = SomeNan (pair_of gate k t)

  -- by what its first attempt left
  adjacent_of : (t : Tried) → attempt gate k s ≡ t
      → adjacent gate k s ≡ (let second = attempt gate k (established k t.state) in cond t.again (ran second.refused second.state) (ran t.refused t.state))
  unfolding adjacent
  adjacent_of t e = rw e

  reason_of_lem : (t : Tried) → attempt gate k s ≡ t → adjacent_reason gate k s ≡ cond t.again (attempt_reason gate k (established k t.state)) (attempt_reason gate k s)
  unfolding adjacent_reason
  reason_of_lem t e = rw e

  as_established : (prepared_for k (established k s)).state ≡ established k s
  as_established = ap (λ (p : Prepared). p.state) (established_prepared k s)

  -- a cut that is not made again, and one that is
  cut_once : (MadeAgain gate k s → ⊥) → stored_with gate k (keeps_centre k s) (prepared_for k s) ≡ cut_at gate k s
  cut_once m = ap (cut_by gate k s) (sym (test_false (decides_again gate k s) m))

  cut_again : MadeAgain gate k s → stored_with gate k (keeps_centre k (established k s)) (prepared_for k (established k s)) ≡ cut_at gate k s
  cut_again m =
      let t = established k s in
      let side = ap (λ (p : Prepared). p.side) (unprepared k s (test_false (decides_keeps k s) m.0)) in
      (λ i. stored_with gate k (keeps_established k s i) (established_prepared k s i))
      ∙ ap (λ (w : WeightSide). cut_stored k true w t (pair_of gate k t) (rank_of t (pair_of gate k t))) (sym side)
      ∙ ap (cut_by gate k s) (sym (test_true (decides_again gate k s) m))

  module _ (h : Sound s.chain) (inside : k + 1 < s.chain.num_qubits) where
    pub adjacent_ends : CutEnds gate k s (adjacent gate k s)
    adjacent_ends = first (attempted gate k s)
      where
        ended : Tried → Ran
        ended x = ran x.refused x.state

        -- no decomposition has a NaN: the one of a cut made once, and both of a cut made again
        none_once : (HasNan (prepared_for k s).state → ⊥) → (MadeAgain gate k s → ⊥) → (t : State) → NanIn gate k s t → ⊥
        none_once n m t (inl x, y) = n (subst HasNan ((first_in k s t).0 x) y)
        none_once n m t (inr x, y) = m x.0

        none_twice : MadeAgain gate k s → (HasNan (established k s) → ⊥) → (t : State) → NanIn gate k s t → ⊥
        none_twice m n t (inl (inl x), y) = m.0 x.0
        none_twice m n t (inl (inr x), y) = m.1 (subst HasNan x.1 y)
        none_twice m n t (inr x, y) = n (subst HasNan x.1 y)

        second : (AboveWorkspace k s → ⊥) → MadeAgain gate k s → adjacent gate k s ≡ ended (attempt gate k (established k s)) → Attempted gate k (established k s) (attempt gate k (established k s))
            → CutEnds gate k s (adjacent gate k s)
        second a m e (above a' e') = absurd (a (established_narrow k s h inside a'))
        second a m e (nan a' n' e') = nan a (established k s) (inr (m, refl), subst HasNan as_established n') (e ∙ ap ended e' ∙ ap (ran 7) as_established)
        second a m e (again a' m' e') = absurd (m'.0 (inl (k, established_centre k s)))
        second a m e (stored a' n' m' e') = stored a (none_twice m (λ y. n' (subst HasNan (sym as_established) y))) (e ∙ ap ended e' ∙ ap (ran 0) (cut_again m))

        first : Attempted gate k s (attempt gate k s) → CutEnds gate k s (adjacent gate k s)
        first (above a e) = above a (adjacent_of _ e)
        first (nan a n e) = nan a (prepared_for k s).state (inl ((first_in k s (prepared_for k s).state).1 refl), n) (adjacent_of _ e)
        first (again a m e) = second a m (adjacent_of _ e) (attempted gate k (established k s))
        first (stored a n m e) = stored a (none_once n m) (adjacent_of _ e ∙ ap (ran 0) (cut_once m))

    -- the second attempt is not refused by 6: no bond grows in a move, so that the workspace that the first was within is still enough
    pub second_not_6 : (attempt gate k s).again ≡ true → (attempt gate k (established k (attempt gate k s).state)).refused ≢ 6
    second_not_6 made six = first (attempted gate k s)
      where
        once : {n : ℕ} {t : State} → attempt gate k s ≡ tried n false t → ⊥
        once e = true≢false (sym made ∙ ap (λ (x : Tried). x.again) e)

        second : (AboveWorkspace k s → ⊥) → Attempted gate k (established k s) (attempt gate k (established k s)) → (attempt gate k (established k s)).refused ≡ 6 → ⊥
        second a (above a' e) z = a (established_narrow k s h inside a')
        second a (nan a' n e) z = omega (arith, sym (ap (λ (x : Tried). x.refused) e) ∙ z)
        second a (again a' m e) z = omega (arith, sym (ap (λ (x : Tried). x.refused) e) ∙ z)
        second a (stored a' n m e) z = omega (arith, sym (ap (λ (x : Tried). x.refused) e) ∙ z)

        first : Attempted gate k s (attempt gate k s) → ⊥
        first (above a e) = once e
        first (nan a n e) = once e
        first (again a m e) = second a (attempted gate k (established k s)) (ap (λ (x : Tried). (attempt gate k (established k x.state)).refused) (sym e) ∙ six)
        first (stored a n m e) = once e

    -- a cut refused by 6 is untouched
    pub untouched_by_6 : (adjacent gate k s).refused ≡ 6 → (adjacent gate k s).state ≡ s
    untouched_by_6 six = cases adjacent_ends
      where
        cases : CutEnds gate k s (adjacent gate k s) → (adjacent gate k s).state ≡ s
        cases (above a e) = ap (λ (x : Ran). x.state) e
        cases (nan a t n e) = absurd (omega (arith, sym six ∙ ap (λ (x : Ran). x.refused) e))
        cases (stored a n e) = absurd (omega (arith, sym six ∙ ap (λ (x : Ran). x.refused) e))

    -- ---- of the record, the moves that a cut makes change the bonds and the centre alone

    decomposed_narrowed : (t : State) → DecomposedIn gate k s t → Narrowed 0 (last_site s) s.chain t.chain
    decomposed_narrowed =
        decomposed_by gate k s (λ (t : State). Narrowed 0 (last_site s) s.chain t.chain) (prepared_narrowed k s h inside) (λ e. established_narrowed k s h (omega arith))

    -- the pair as it is last decomposed
    pub last_narrowed : Narrowed 0 (last_site s) s.chain (last_in gate k s).chain
    last_narrowed = decomposed_narrowed (last_in gate k s) (last_decomposed gate k s)

    -- a cut that is stored has its reason from the values that are stored
    pub stored_reason : (adjacent gate k s).refused ≡ 0 → adjacent_reason gate k s ≡ reason_of s (pair_of gate k (last_in gate k s))
    stored_reason z =
        let same = last_narrowed.rest.settings in
        first (attempted gate k s) ∙ (λ i. rank_reason (same i).epsilon (same i).cap (values (pair_of gate k (last_in gate k s))))
      where
        last : Bool → State
        last made = cond made (established k s) (prepared_for k s).state

        refused : {n : ℕ} → (adjacent gate k s).refused ≡ suc n → ⊥
        refused e = omega (arith, sym z ∙ e)

        first : Attempted gate k s (attempt gate k s) → adjacent_reason gate k s ≡ reason_in gate k (last_in gate k s)
        first (above a e) = absurd (refused (ap (λ (x : Ran). x.refused) (adjacent_of _ e)))
        first (nan a n e) = absurd (refused (ap (λ (x : Ran). x.refused) (adjacent_of _ e)))
        first (again a m e) = reason_of_lem _ e ∙ ap (reason_in gate k) (as_established ∙ ap last (sym (test_true (decides_again gate k s) m)))
        first (stored a n m e) = reason_of_lem _ e ∙ ap (λ (made : Bool). reason_in gate k (last made)) (sym (test_false (decides_again gate k s) m))

    -- what a refused cut leaves
    pub refused_narrowed : (r : Ran) → CutEnds gate k s r → r.refused ≢ 0 → Narrowed 0 (last_site s) s.chain r.state.chain
    refused_narrowed r (above a e) z = rw e (narrowed_none 0 (last_site s) s.chain h)
    refused_narrowed r (nan a t n e) z = rw e (decomposed_narrowed t n.0)
    refused_narrowed r (stored a n e) z = absurd (z (ap (λ (x : Ran). x.refused) e))

-- ---- a step, and a run

-- a step answers the number of its cut
pub stepped_number : (x : Step) (s : State) → (stepped x s).refused ≡ (adjacent x.gate x.site s).refused
unfolding stepped
stepped_number x s = either (adjacent x.gate x.site s) (λ t. ran 0 (relabelled_by x t)) (λ t. refl)
  where
    either : (r : Ran) (f : State → Ran) → ((t : State) → (f t).refused ≡ 0) → (follow r f).refused ≡ r.refused
    either r f h = pick (eqb r.refused 0) refl
      where
        pick : (b : Bool) → eqb r.refused 0 ≡ b → (cond b (f r.state) r).refused ≡ r.refused
        pick true e = h r.state ∙ sym (eqb-true r.refused 0 e)
        pick false e = refl

-- a step that is refused is its cut
pub stepped_refused : (x : Step) (s : State) → eqb (stepped x s).refused 0 ≡ false → stepped x s ≡ adjacent x.gate x.site s
unfolding stepped
stepped_refused x s e =
    let e' : eqb (adjacent x.gate x.site s).refused 0 ≡ false = ap (λ (k : ℕ). eqb k 0) (sym (stepped_number x s)) ∙ e in
    ap (λ (b : Bool). cond b (ran 0 (relabelled_by x (adjacent x.gate x.site s).state)) (adjacent x.gate x.site s)) e'

-- a run goes on after a step that is not refused
pub run_on : (x : Step) (xs : List Step) (s : State) → eqb (stepped x s).refused 0 ≡ true → run_steps (x ∷ xs) s ≡ run_steps xs (stepped x s).state
unfolding run_steps
run_on x xs s e = ap (λ (b : Bool). cond b (run_steps xs (stepped x s).state) (stepped x s)) e

-- a run that is not refused has a first step that is not
pub run_done : (x : Step) (xs : List Step) (s : State) → (run_steps (x ∷ xs) s).refused ≡ 0 → eqb (stepped x s).refused 0 ≡ true
unfolding run_steps
run_done x xs s = pick (eqb (stepped x s).refused 0) refl
  where
    pick : (b : Bool) → eqb (stepped x s).refused 0 ≡ b → (cond b (run_steps xs (stepped x s).state) (stepped x s)).refused ≡ 0 → b ≡ true
    pick true e z = refl
    pick false e z = absurd (eqb-false (stepped x s).refused 0 e z)
