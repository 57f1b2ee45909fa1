-- Laws of Columns.antt: which numbers a run's step writes, what it leaves there, and that the list keeps its length.
use Rattle.std.specs.Prelude.{◌≡◌, refl, ◌≢◌, List, length, Float}
use Rattle.std.proofs.Math.Path.{ap}
use Rattle.std.proofs.Common.{◌∙◌, le_refl, eq-or-lt_of_le, le_of_suc-le-suc}
use Rattle.std.proofs.Math.Logic.{⊎_elim}
use Prim.Native.Nat.{ℕ, zero, suc, ◌+◌, ◌≤◌, ◌<◌}
use native.Mathlib.Omega.{arith}
use Rattle.complex.specs.Complex.{norm_sqr, scale_c, zero_c, zero_f}
use Rattle.complex.specs.Loops.{each, each_more, sum_f}
use Rattle.complex.specs.Numbers.{count, at, store, length_store, at_store_same, at_store_other, each_length, each_apart, each_at}
use Rattle.root.specs.Root.{root_of}
use Rattle.model.specs.Columns.{squares, l2_norm, scaled_to, zeroed}

-- ---- loops of any state: what the steps from k on leave alone is as step k found it; so what step k alone writes is as step k left it

module _ {A B : Type 0} (see : A → B) (g : ℕ → A → A) (z : A) where
  pub each_since : (k n : ℕ) → k ≤ n → ((i : ℕ) → k ≤ i → i < n → see (g i (each i g z)) ≡ see (each i g z)) → see (each n g z) ≡ see (each k g z)
  unfolding each
  each_since k zero h apart = let e : k ≡ 0 = omega arith in rw e
  each_since k (suc n) h apart =
      ⊎_elim
      (λ (e : k ≡ suc n). rw e)
      (λ (l : k < suc n). apart n (le_of_suc-le-suc l) (le_refl (suc n)) ∙ each_since k n (le_of_suc-le-suc l) (λ i a b. apart i a (omega arith)))
      (eq-or-lt_of_le h)

  pub each_once : (k n : ℕ) → k < n → ((i : ℕ) → k < i → i < n → see (g i (each i g z)) ≡ see (each i g z)) → see (each n g z) ≡ see (g k (each k g z))
  each_once k n h apart = each_since (k + 1) n (omega arith) (λ i a b. apart i (omega arith) b) ∙ ap see (each_more k g z)

-- a state that no step changes
pub each_fixed : {A : Type 0} (n : ℕ) (g : ℕ → A → A) (z : A) → ((k : ℕ) → k < n → g k z ≡ z) → each n g z ≡ z
unfolding each
each_fixed zero g z h = refl
each_fixed (suc n) g z h = ap (g n) (each_fixed n g z (λ k l. h k (omega arith))) ∙ h n (le_refl (suc n))

-- sums of equal terms are equal
pub sum_f_same : (n : ℕ) (f g : ℕ → Float) (z : Float) → ((k : ℕ) → k < n → f k ≡ g k) → sum_f n f z ≡ sum_f n g z
unfolding each
sum_f_same zero f g z h = refl
sum_f_same (suc n) f g z h = let a = h n (le_refl (suc n)) in let b = sum_f_same n f g z (λ k l. h k (omega arith)) in rw (a, b)

-- the squares and the norm of a run are those of its numbers
module _ (v w : List Float) (base n : ℕ) (same : (k : ℕ) → k < n → at v (base + k) ≡ at w (base + k)) where
  pub squares_same : squares v base n ≡ squares w base n
  squares_same = sum_f_same n _ _ zero_f (λ k l. ap norm_sqr (same k l))

  pub l2_norm_same : l2_norm v base n ≡ l2_norm w base n
  unfolding l2_norm
  l2_norm_same = ap root_of squares_same

-- ---- a run written from another, or from itself

pub length_scaled_to : (from to n : ℕ) (by : Float) (w : List Float) → length (scaled_to from to n by w) ≡ length w
unfolding scaled_to
length_scaled_to from to n by w = each_length n _ w (λ k ys h. length_store ys (to + k) (scale_c (at ys (from + k)) by))

-- number to + k is number from + k, scaled; the two runs are one, or the run that is written lies before the other
pub at_scaled_to : (from to n : ℕ) (by : Float) (w : List Float) (k : ℕ) → k < n → to ≤ from → to + n ≤ count w → at (scaled_to from to n by w) (to + k) ≡ scale_c (at w (from + k)) by
unfolding scaled_to
at_scaled_to from to n by w k h le room =
    each_once (λ ys. at ys (to + k)) step w k n h (λ i a b. at_store_other (each i step w) (to + i) (to + k) _ (omega arith))
    ∙ at_store_same (each k step w) (to + k) _ (omega (arith, long))
    ∙ ap (λ x. scale_c x by) (each_apart k step w (from + k) (λ i ys a. at_store_other ys (to + i) (from + k) _ (omega arith)))
  where
    step : ℕ → List Float → List Float
    step i ys = store ys (to + i) (scale_c (at ys (from + i)) by)

    long : length (each k step w) ≡ length w
    long = each_length k step w (λ i ys a. length_store ys (to + i) _)

pub at_scaled_to_other : (from to n : ℕ) (by : Float) (w : List Float) (j : ℕ) → ((k : ℕ) → k < n → j ≢ to + k) → at (scaled_to from to n by w) j ≡ at w j
unfolding scaled_to
at_scaled_to_other from to n by w j apart = each_apart n _ w j (λ k ys h. at_store_other ys (to + k) j _ (apart k h))

-- ---- a run made zero

pub length_zeroed : (base n : ℕ) (w : List Float) → length (zeroed base n w) ≡ length w
unfolding zeroed
length_zeroed base n w = each_length n _ w (λ k ys h. length_store ys (base + k) zero_c)

pub at_zeroed : (base n : ℕ) (w : List Float) (k : ℕ) → k < n → base + n ≤ count w → at (zeroed base n w) (base + k) ≡ zero_c
unfolding zeroed
at_zeroed base n w k h room =
    each_at n (λ i ys. store ys (base + i) zero_c) w (base + k) k zero_c (λ i ys a. length_store ys (base + i) zero_c) h
    (λ ys e. at_store_same ys (base + k) zero_c (omega arith)) (λ i ys a b. at_store_other ys (base + i) (base + k) zero_c (omega arith))

pub at_zeroed_other : (base n : ℕ) (w : List Float) (j : ℕ) → ((k : ℕ) → k < n → j ≢ base + k) → at (zeroed base n w) j ≡ at w j
unfolding zeroed
at_zeroed_other base n w j apart = each_apart n _ w j (λ k ys h. at_store_other ys (base + k) j zero_c (apart k h))
