-- The tests by which statements compute, and the laws that pin them to the propositions of `Soundness`, `Table` and `Demand1`, so that the tests need not be believed.
-- Statements only; `Laws/PinnedProof` proves them.
use Rattle.std.specs.Prelude.{ℕ, ◌≡◌, ◌⊎◌, ◌↔◌, Bool, not, ◌&&◌, ◌||◌, cond, List, T, eqb}
use Rattle.complex.specs.declared.Complex.{Complex}
use Rattle.model.specs.declared.Chain.{Chain}
use Rattle.model.specs.Slots.{State}
use Rattle.model.specs.Svd.{values, raw_value, any_nan}
use Rattle.model.specs.Truncation.{resolvable}
use Rattle.model.specs.Moves.{established}
use Rattle.model.specs.Cut.{keeps_centre, prepared_for, pair_of, rank_of}
use Rattle.model.specs.Sound.{sound}
use Rattle.model.specs.Statements.Soundness.{Sound}
use Rattle.model.specs.Statements.Table.{KeepsCentre, FirstIn, MadeAgain}
use Rattle.model.specs.Statements.Demand1.{Late}

-- ---- a cut between the sites k and k + 1

-- whether it is made again, and the state in which the pair is last decomposed
abbrev pub made_again : List (List Complex) → ℕ → State → Bool
made_again gate k s = let d = pair_of gate k s in not (keeps_centre k s) && (not (any_nan d.wide (raw_value d)) && resolvable (values d) (rank_of s d))

abbrev pub last_in : List (List Complex) → ℕ → State → State
last_in gate k s = cond (made_again gate k s) (established k s) (prepared_for k s).state

-- t is the state in which the pair is last decomposed
abbrev pub LastIn : List (List Complex) → ℕ → State → State → Type 0
LastIn gate k s t = (MadeAgain gate k s × (t ≡ established k s)) ⊎ ((MadeAgain gate k s → ⊥) × FirstIn k s t)

-- ---- a call of this number may have written: it is accepted, or refused by 6 or 7

abbrev pub late : ℕ → Bool
late number = eqb number 0 || eqb number 6 || eqb number 7

-- ---- what they are

pub record Pinned : Type 0 where
  pub soundness : (c : Chain) → T (sound c) ↔ Sound c
  pub keeps : (k : ℕ) (s : State) → T (keeps_centre k s) ↔ KeepsCentre k s
  pub first : (k : ℕ) (s t : State) → FirstIn k s t ↔ (t ≡ (prepared_for k s).state)
  pub again : (gate : List (List Complex)) (k : ℕ) (s : State) → T (made_again gate k s) ↔ MadeAgain gate k s
  pub last : (gate : List (List Complex)) (k : ℕ) (s t : State) → LastIn gate k s t ↔ (t ≡ last_in gate k s)
  pub written : (number : ℕ) → T (late number) ↔ Late number
