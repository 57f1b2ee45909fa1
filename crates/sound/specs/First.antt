-- Tests of every number below m that look at the numbers below n in one way, and at the others in another or not at all.
use Rattle.std.specs.Prelude.{◌≡◌, refl, Bool, true, false, ◌&&◌, ◌||◌, leb, ltb, List, length, take, drop, get_or}
use Rattle.std.proofs.lemmas.List.{length-drop, length-take-le, get_or-drop, get_or-take}
use Rattle.std.proofs.Common.{sym, ◌∙◌, add-zero, add-suc, le_refl, eq-or-lt_of_le, le_of_suc-le-suc, le-leb}
use Rattle.std.proofs.Math.Path.{ap}
use Rattle.std.proofs.Math.Seq.{take_all}
use Rattle.std.proofs.Math.Bool.{and-true, and_assoc}
use Rattle.std.proofs.Math.Logic.{⊎_elim}
use Prim.Native.Nat.{ℕ, zero, suc, ◌+◌, ◌-◌, ◌≤◌, ◌<◌}
use native.Mathlib.Omega.{arith}
use Rattle.std.proofs.lemmas.Bool.{lt-leb}
use Rattle.complex.specs.Loops.{every}

every_agree : (n : ℕ) (p q : ℕ → Bool) → ((i : ℕ) → i < n → p i ≡ q i) → every n p ≡ every n q
unfolding every
every_agree zero p q h = refl
every_agree (suc n) p q h = rw (every_agree n p q (λ i l. h i (omega arith)), h n (le_refl (suc n)))

every_both : (n : ℕ) (p q : ℕ → Bool) → every n (λ i. p i && q i) ≡ (every n p && every n q)
unfolding every
every_both zero p q = refl
every_both (suc n) p q = rw (every_both n p q) (exchange (every n p) (every n q) (p n) (q n))
  where
    exchange : (a b c d : Bool) → ((a && b) && (c && d)) ≡ ((a && c) && (b && d))
    exchange true true c d = refl
    exchange true false true d = refl
    exchange true false false d = refl
    exchange false b c d = refl

-- a test that passes from n on, whatever p says there, is one of the numbers below n
module _ (skip p : ℕ → Bool) (n : ℕ) (looks : (i : ℕ) → i < n → skip i ≡ false) where
  pub every_first : (m : ℕ) → n ≤ m → ((i : ℕ) → n ≤ i → i < m → skip i ≡ true) → every m (λ i. skip i || p i) ≡ every n p
  unfolding every
  every_first zero h s = let e : n ≡ 0 = omega arith in rw e
  every_first (suc m) h s =
      ⊎_elim
      (λ (e : n ≡ suc m). every_agree (suc m) (λ i. skip i || p i) p (λ i l. rw (looks i (omega arith))) ∙ ap (λ (k : ℕ). every k p) (sym e))
      (λ (l : n < suc m). rw (s m (le_of_suc-le-suc l) (le_refl (suc m)), and-true) (every_first m (le_of_suc-le-suc l) (λ i a b. s i a (omega arith))))
      (eq-or-lt_of_le h)

-- ---- the first entries of a list, and the last, by themselves

every_append : (a b : ℕ) (p : ℕ → Bool) → every (a + b) p ≡ (every a p && every b (λ k. p (a + k)))
unfolding every
every_append a zero p = rw (add-zero, and-true)
every_append a (suc b) p = rw (add-suc, every_append a b p, and_assoc)

every_true : (n : ℕ) (p : ℕ → Bool) → ((i : ℕ) → i < n → p i ≡ true) → every n p ≡ true
unfolding every
every_true zero p h = refl
every_true (suc n) p h = rw (every_true n p (λ i l. h i (omega arith)), h n (le_refl (suc n)))

-- a list of m entries, of which n come first
module _ {A : Type 0} (m : ℕ) (xs : List A) (long : length xs ≡ m) (d : A) (n : ℕ) (fits : n ≤ m) where
  pub every_taken : (p : ℕ → A → Bool) → every (length (take n xs)) (λ k. p k (get_or (take n xs) k d)) ≡ every n (λ k. p k (get_or xs k d))
  every_taken p =
      let e : length (take n xs) ≡ n = length-take-le n xs (omega arith) in
      rw e (every_agree n (λ k. p k (get_or (take n xs) k d)) (λ k. p k (get_or xs k d)) (λ k l. ap (p k) (get_or-take n xs k d l)))

  pub every_dropped : (skip : ℕ → Bool) → ((i : ℕ) → i < n → skip i ≡ true) → ((i : ℕ) → n ≤ i → skip i ≡ false) → (p : A → Bool)
      → every (length (take (m - n) (drop n xs))) (λ k. p (get_or (take (m - n) (drop n xs)) k d)) ≡ every m (λ i. skip i || p (get_or xs i d))
  every_dropped skip passes looks p =
      let b : length (drop n xs) ≡ m - n = rw length-drop (omega arith) in
      let whole : take (m - n) (drop n xs) ≡ drop n xs = take_all (m - n) (drop n xs) (omega arith) in
      let e : m ≡ n + (m - n) = omega arith in
      rw (whole, b)
      (every_agree (m - n) (λ k. p (get_or (drop n xs) k d)) (λ k. skip (n + k) || p (get_or xs (n + k) d)) (λ k l. rw (get_or-drop, looks (n + k) (omega arith)))
      ∙ sym (ap (λ (k : ℕ). every k (λ i. skip i || p (get_or xs i d))) e ∙ every_append n (m - n) (λ i. skip i || p (get_or xs i d))
      ∙ rw (every_true n (λ i. skip i || p (get_or xs i d)) (λ i l. rw (passes i l)))))

-- where p is asked below n and q from n on, the two can be asked one after the other
pub every_parted : (n m : ℕ) (p q : ℕ → Bool) → n ≤ m → every m (λ i. (leb n i || p i) && (ltb i n || q i)) ≡ (every n p && every m (λ i. ltb i n || q i))
every_parted n m p q h = every_both m (λ i. leb n i || p i) (λ i. ltb i n || q i) ∙ rw (every_first (leb n) p n (λ i l. lt-leb n i l) m h (λ i l k. le-leb n i l))
