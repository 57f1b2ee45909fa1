-- The tests by which the statements compute decide the table's propositions.
use Rattle.std.specs.Prelude.{ℕ, ◌≡◌, refl, ◌⊎◌, ◌↔◌, Bool, true, false, cond, List, negsuc, length, get_or, Float, Option, None, Some}
use Rattle.std.proofs.Common.{arith, sym, inl, inr}
use Rattle.std.specs.Float.{nan, fin, binary64}
use Rattle.std.specs.Float.Ieee.{mul, lt, of_bits}
use Rattle.complex.specs.Complex.{zero_f}
use Rattle.complex.specs.declared.Complex.{Complex}
use Rattle.model.specs.declared.WeightSide.TheVariants.{Right}
use Rattle.model.specs.Slots.{State}
use Rattle.model.specs.Svd.{values, raw_value}
use Rattle.model.specs.Truncation.{resolution, resolvable}
use Rattle.model.specs.Moves.{Prepared, prepared, prepared_on, established}
use Rattle.model.specs.Cut.{known, pair_of, rank_of, keeps_centre, prepared_for}
use Rattle.model.specs.Statements.Table.{KeepsCentre, FirstIn, Resolvable, MadeAgain}
use Rattle.model.specs.Statements.Pinned.{made_again, last_in, LastIn, Pinned}
use Rattle.model.proofs.Laws.Refusals.{decides_late}
use Rattle.model.proofs.Laws.SoundFacts.{sound_facts, facts_sound}
use Rattle.model.proofs.Laws.Tests.{Decides, decides_as, decides_below, decides_least, decides_self, decides_not, decides_both, decides_either, decides_nans}

-- ---- what a test picks

-- of two values, that which a test picks is that which its proposition picks
picked : {A B : Type 0} {b : Bool} {P : Type 0} → Decides b P → (f : B → A) (x y : B) (t : A) → ((P × (t ≡ f x)) ⊎ ((P → ⊥) × (t ≡ f y))) ↔ (t ≡ f (cond b x y))
picked {A = A} {b = true} {P = P} d f x y t = (to, λ e. inl (d.holds tt, e))
  where
    to : (P × (t ≡ f x)) ⊎ ((P → ⊥) × (t ≡ f y)) → t ≡ f x
    to (inl z) = z.1
    to (inr z) = absurd (z.0 (d.holds tt))
picked {A = A} {b = false} {P = P} d f x y t = (to, λ e. inr (d.fails, e))
  where
    to : (P × (t ≡ f x)) ⊎ ((P → ⊥) × (t ≡ f y)) → t ≡ f y
    to (inl z) = absurd (d.fails z.0)
    to (inr z) = z.1

-- ---- a centre is kept

decides_known : (c : Option ℕ) → Decides (known c) ((j : ℕ) × (c ≡ Some j))
decides_known None = record { holds = absurd; fails = λ x. let z : ◌≡◌ {A = ℕ} 0 1 = cc in omega arith }
decides_known (Some k) = record { holds = λ t. (k, refl); fails = λ x. tt }

pub decides_keeps : (k : ℕ) (s : State) → Decides (keeps_centre k s) (KeepsCentre k s)
decides_keeps k s =
    decides_either (decides_known s.chain.center)
    (decides_either (decides_below _ _) (decides_both (decides_self (lt zero_f s.chain.svd_epsilon)) (decides_either (decides_least 128 _) (decides_least 128 _))))

pub first_in : (k : ℕ) (s t : State) → FirstIn k s t ↔ (t ≡ (prepared_for k s).state)
first_in k s t = picked (decides_keeps k s) (λ (p : Prepared). p.state) (prepared_on k s.chain.center s) (prepared Right s) t

-- ---- a cut is made again

same_resolution : resolution ≡ fin false 1 (negsuc 49)
unfolding of_bits
same_resolution = refl

pub decides_resolvable : (xs : List Float) (kept : ℕ) → Decides (resolvable xs kept) (Resolvable xs kept)
unfolding resolvable
decides_resolvable xs kept = rw (sym same_resolution) (decides_both (decides_below kept (length xs)) (decides_self (lt (mul binary64 resolution (get_or xs 0 nan)) (get_or xs kept nan))))

pub decides_again : (gate : List (List Complex)) (k : ℕ) (s : State) → Decides (made_again gate k s) (MadeAgain gate k s)
decides_again gate k s =
    let d = pair_of gate k s in
    decides_as (decides_both (decides_not (decides_keeps k s)) (decides_both (decides_not (decides_nans d.wide (raw_value d))) (decides_resolvable (values d) (rank_of s d))))
    (λ x. (x.0, x.1.0, x.1.1)) (λ x. (x.0, (x.1, x.2)))

pub last_in_lem : (gate : List (List Complex)) (k : ℕ) (s t : State) → LastIn gate k s t ↔ (t ≡ last_in gate k s)
last_in_lem gate k s t =
    let x = picked (decides_again gate k s) (λ (u : State). u) (established k s) (prepared_for k s).state t in (λ z. x.0 (to z), λ e. back (x.1 e))
  where
    to : LastIn gate k s t → (MadeAgain gate k s × (t ≡ established k s)) ⊎ ((MadeAgain gate k s → ⊥) × (t ≡ (prepared_for k s).state))
    to (inl z) = inl z
    to (inr z) = inr (z.0, (first_in k s t).0 z.1)

    back : (MadeAgain gate k s × (t ≡ established k s)) ⊎ ((MadeAgain gate k s → ⊥) × (t ≡ (prepared_for k s).state)) → LastIn gate k s t
    back (inl z) = inl z
    back (inr z) = inr (z.0, (first_in k s t).1 z.1)

pub pinned : Pinned
pinned = record {
  soundness = λ c. (sound_facts c, facts_sound c);
  keeps = λ k s. ((decides_keeps k s).holds, (decides_keeps k s).fails);
  first = first_in;
  again = λ gate k s. ((decides_again gate k s).holds, (decides_again gate k s).fails);
  last = last_in_lem;
  written = λ number. ((decides_late number).holds, (decides_late number).fails);
}
