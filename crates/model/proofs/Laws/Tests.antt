-- Tests: what holds by a test's answer, tests joined, and tests that decide a proposition.
use Rattle.std.specs.Prelude.{ℕ, zero, suc, ◌≤◌, ◌<◌, ◌≡◌, refl, ◌⊎◌, Bool, true, false, not, ◌&&◌, ◌||◌, cond, Float}
use Rattle.std.proofs.Common.{arith, eq-or-lt_of_le, le_of_suc-le-suc, sym, ap₂, subst, inl, inr, ⊎_elim, true≢false, leb-true, leb-false}
use Rattle.std.proofs.Math.Decide.{dec_lt}
use lib.Dec.{T, leb, ltb, eqb}
use Rattle.std.specs.Float.{nan, inf, fin}
use Rattle.std.specs.Float.Ieee.{is_nan}
use Rattle.complex.specs.Loops.{each, every}
use Rattle.model.specs.Svd.{any_nan}

-- ---- by a test's answer

-- what holds of both branches of a test, and what holds by what the test says
pub either_way : {A : Type 0} (P : A → Type 0) (b : Bool) (x y : A) → P x → P y → P (cond b x y)
either_way P true x y p q = p
either_way P false x y p q = q

pub by_test : {A : Type 0} (P : A → Type 0) (b : Bool) (x y : A) → (b ≡ true → P x) → (b ≡ false → P y) → P (cond b x y)
by_test P true x y p q = p refl
by_test P false x y p q = q refl

-- ---- numbers

-- an index lies below n or not
pub below_or_past : (i n : ℕ) → (i < n) ⊎ (n ≤ i)
below_or_past i n = choose (dec_lt i n)
  where
    choose : Dec (i < n) → (i < n) ⊎ (n ≤ i)
    choose (yes l) = inl l
    choose (no l) = inr (omega arith)

pub trichotomy : (a b : ℕ) → (a < b) ⊎ ((a ≡ b) ⊎ (b < a))
trichotomy a b = either (leb a b) refl
  where
    either : (c : Bool) → leb a b ≡ c → (a < b) ⊎ ((a ≡ b) ⊎ (b < a))
    either true e = ⊎_elim (λ (h : a ≡ b). inr (inl h)) (λ (h : a < b). inl h) (eq-or-lt_of_le (leb-true a b e))
    either false e = inr (inr (leb-false a b e))

-- ---- tests joined

pub or_test : (a b : Bool) → T (a || b) → (T a → ⊥) → T b
or_test true b h no_a = absurd (no_a tt)
or_test false b h no_a = h

pub or_first : (a b : Bool) → T a → T (a || b)
or_first true b h = tt
or_first false b h = absurd h

pub or_second : (a b : Bool) → T b → T (a || b)
or_second true b h = tt
or_second false b h = h

pub not_and : (a b : Bool) → not (a && b) ≡ (not a || not b)
not_and true b = refl
not_and false b = refl

pub neither : (a b : Bool) → a || b ≡ false → (a ≡ false) × (b ≡ false)
neither true b e = absurd (true≢false e)
neither false b e = (refl, e)

-- ---- a test that decides a ground

pub record Decides (b : Bool) (P : Type 0) : Type 0 where
  pub holds : T b → P
  pub fails : P → T b

pub decides_below : (a b : ℕ) → Decides (ltb a b) (a < b)
decides_below a b = record { holds = lib.Dec.ltb→lt a b; fails = lib.Dec.lt→ltb a b }

pub decides_least : (a b : ℕ) → Decides (leb a b) (a ≤ b)
decides_least a b = record { holds = lib.Dec.leb→le a b; fails = lib.Dec.le→leb a b }

pub decides_equal : (a b : ℕ) → Decides (eqb a b) (a ≡ b)
decides_equal a b = record { holds = lib.Dec.eqb→eq a b; fails = λ e. rw e (lib.Dec.eqb_refl b) }

pub decides_either : {a b : Bool} {P Q : Type 0} → Decides a P → Decides b Q → Decides (a || b) (P ⊎ Q)
decides_either {a = true} p q = record { holds = λ t. inl (p.holds tt); fails = λ x. tt }
decides_either {a = false} p q = record { holds = λ t. inr (q.holds t); fails = ⊎_elim (λ x. absurd (p.fails x)) q.fails }

pub decides_not : {b : Bool} {P : Type 0} → Decides b P → Decides (not b) (P → ⊥)
decides_not {b = true} p = record { holds = absurd; fails = λ f. f (p.holds tt) }
decides_not {b = false} p = record { holds = λ t x. p.fails x; fails = λ f. tt }

pub decides_not_not : {b : Bool} {P : Type 0} → Decides b P → Decides (not (not b)) P
decides_not_not {b = true} d = d
decides_not_not {b = false} d = d

pub decides_both : {a b : Bool} {P Q : Type 0} → Decides a P → Decides b Q → Decides (a && b) (P × Q)
decides_both {a = true} p q = record { holds = λ t. (p.holds tt, q.holds t); fails = λ x. q.fails x.1 }
decides_both {a = false} p q = record { holds = absurd; fails = λ x. p.fails x.0 }

-- the same ground in other words
pub decides_as : {b : Bool} {P Q : Type 0} → Decides b P → (P → Q) → (Q → P) → Decides b Q
decides_as p to back = record { holds = λ t. to (p.holds t); fails = λ x. p.fails (back x) }

pub decides_self : (b : Bool) → Decides b (T b)
decides_self b = record { holds = λ t. t; fails = λ t. t }

-- a test that is false denies its ground
pub decides_false : {b : Bool} {P : Type 0} → Decides b P → b ≡ false → P → ⊥
decides_false d e p = subst T e (d.fails p)

-- the test's value from what it decides
pub test_true : {b : Bool} {P : Type 0} → Decides b P → P → b ≡ true
test_true {b = true} d p = refl
test_true {b = false} d p = absurd (d.fails p)

pub test_false : {b : Bool} {P : Type 0} → Decides b P → (P → ⊥) → b ≡ false
test_false {b = true} d n = absurd (n (d.holds tt))
test_false {b = false} d n = refl

-- two tests of one ground
pub decides_alike : {a b : Bool} {P : Type 0} → Decides a P → Decides b P → a ≡ b
decides_alike {a = true} d e = sym (test_true e (d.holds tt))
decides_alike {a = false} d e = sym (test_false e d.fails)

-- ---- a test of every number below n, and of some

pub every_same : (n : ℕ) (p q : ℕ → Bool) → ((k : ℕ) → k < n → p k ≡ q k) → every n p ≡ every n q
unfolding every
every_same zero p q h = refl
every_same (suc n) p q h = ap₂ ◌&&◌ (every_same n p q (λ k l. h k (omega arith))) (h n (omega arith))

-- the numbers below n + 1 are those below n, and n
one_more : (P : ℕ → Type 0) (n : ℕ) (a b : Bool) → Decides a ((k : ℕ) × (k < n) × P k) → Decides b (P n) → Decides (a || b) ((k : ℕ) × (k < suc n) × P k)
one_more P n a b d l = decides_as (decides_either d l)
    (⊎_elim (λ x. (x.0, omega (arith, x.1), x.2)) (λ y. (n, omega arith, y)))
    (λ x. ⊎_elim (λ (e : x.0 ≡ n). inr (subst P e x.2)) (λ (m : x.0 < n). inl (x.0, m, x.2)) (eq-or-lt_of_le (le_of_suc-le-suc x.1)))

pub decides_some : (n : ℕ) (p : ℕ → Bool) (P : ℕ → Type 0) → ((k : ℕ) → Decides (not (p k)) (P k)) → Decides (not (every n p)) ((k : ℕ) × (k < n) × P k)
unfolding every
decides_some zero p P h = record { holds = absurd; fails = λ x. absurd (omega (arith, x.1)) }
decides_some (suc n) p P h = rw (not_and (every n p) (p n)) (one_more P n (not (every n p)) (not (p n)) (decides_some n p P h) (h n))

decides_nan : (x : Float) → Decides (is_nan x) (x ≡ nan)
unfolding is_nan
decides_nan nan = record { holds = λ t. refl; fails = λ e. tt }
decides_nan (inf s) = record { holds = absurd; fails = λ e. let z : ◌≡◌ {A = ℕ} 0 1 = cc in omega arith }
decides_nan (fin s m k) = record { holds = absurd; fails = λ e. let z : ◌≡◌ {A = ℕ} 0 1 = cc in omega arith }

pub decides_nans : (n : ℕ) (s : ℕ → Float) → Decides (any_nan n s) ((j : ℕ) × (j < n) × (s j ≡ nan))
unfolding any_nan each
decides_nans zero s = record { holds = absurd; fails = λ x. omega (arith, x.1) }
decides_nans (suc n) s = one_more (λ j. s j ≡ nan) n (any_nan n s) (is_nan (s n)) (decides_nans n s) (decides_nan (s n))

-- no NaN among n values
pub any_nan_none : (n : ℕ) (s : ℕ → Float) → any_nan n s ≡ false → (k : ℕ) → k < n → is_nan (s k) ≡ false
any_nan_none n s e k h = either (is_nan (s k)) (decides_nan (s k))
  where
    either : (b : Bool) → Decides b (s k ≡ nan) → b ≡ false
    either true d = absurd (decides_false (decides_nans n s) e (k, h, d.holds tt))
    either false d = refl
