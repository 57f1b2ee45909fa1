-- Complex numbers in a list of floats: number k stands at 2 k, its real part, and 2 k + 1.
use Rattle.std.specs.Prelude.{◌≡◌, refl, ◌≢◌, List, [], ◌∷◌, ◌++◌, ℕ, zero, suc, ◌+◌, ◌-◌, ◌*◌, ◌/◌, ◌%◌, ◌≤◌, ◌<◌, length, get_or, set, take, drop, Float}
use Rattle.std.proofs.Common.{sym, ap, ◌∙◌, ⊎_elim, le_refl, eq-or-lt_of_le, not-suc-le-zero, le_of_suc-le-suc, arith, length-set, length-append, ext_get_or, get_or-set_same, get_or-set_other, get_or-append-add, get_or-take, get_or-drop, length-take-le}
use Rattle.std.proofs.Math.ListN.{get_or-append}
use Rattle.std.proofs.lemmas.List.{take-set-le}
use Rattle.std.specs.Float.{nan}
use Rattle.complex.specs.Loops.{each, each_keeps, each_same}
use Rattle.complex.specs.Parts.{part}
use Rattle.complex.specs.declared.Complex.{Complex}

-- how many complex numbers a list holds
abbrev pub count : List Float → ℕ
count xs = length xs / 2

-- number k. Past the list's end it is `nan`, as a slice reads there to a proof
unfoldable pub at : List Float → ℕ → Complex
at xs k = record { re = get_or xs (2 * k) nan; im = get_or xs (2 * k + 1) nan }

-- the list with z in the place of number k
unfoldable pub store : List Float → ℕ → Complex → List Float
store xs k z = set (set xs (2 * k) z.re) (2 * k + 1) z.im

-- the list with f k in the place of number p k, for k = 0, 1, .. n - 1
abbrev pub stores : ℕ → (ℕ → ℕ) → (ℕ → Complex) → List Float → List Float
stores n p f xs = each n (λ k ys. store ys (p k) (f k)) xs

-- the complex numbers f 0, f 1, .. f (n - 1), one after the other
unfoldable pub numbers : ℕ → (ℕ → Complex) → List Float
numbers zero f = []
numbers (suc n) f = let z = f n in numbers n f ++ (z.re ∷ z.im ∷ [])

-- ---- laws of a store

pub length_store : (xs : List Float) (k : ℕ) (z : Complex) → length (store xs k z) ≡ length xs
unfolding store
length_store xs k z = simp length-set

pub at_store_same : (xs : List Float) (k : ℕ) (z : Complex) → k < count xs → at (store xs k z) k ≡ z
unfolding store at
at_store_same xs k z h i = record {
  re = (get_or-set_other (set xs (2 * k) z.re) (2 * k + 1) (2 * k) z.im nan (omega arith) ∙ get_or-set_same xs (2 * k) z.re nan (omega arith)) i;
  im = get_or-set_same (set xs (2 * k) z.re) (2 * k + 1) z.im nan (simp length-set (omega arith)) i;
}

pub at_store_other : (xs : List Float) (j k : ℕ) (z : Complex) → k ≢ j → at (store xs j z) k ≡ at xs k
unfolding store at
at_store_other xs j k z h i = record {
  re = (get_or-set_other (set xs (2 * j) z.re) (2 * j + 1) (2 * k) z.im nan (omega arith) ∙ get_or-set_other xs (2 * j) (2 * k) z.re nan (omega arith)) i;
  im = (get_or-set_other (set xs (2 * j) z.re) (2 * j + 1) (2 * k + 1) z.im nan (omega arith) ∙ get_or-set_other xs (2 * j) (2 * k + 1) z.re nan (omega arith)) i;
}

-- the front of the list is as it was
pub take_store : (e k : ℕ) (z : Complex) (xs : List Float) → e ≤ 2 * k → take e (store xs k z) ≡ take e xs
unfolding store
take_store e k z xs h = take-set-le e _ (2 * k + 1) z.im (omega arith) ∙ take-set-le e xs (2 * k) z.re h

-- ---- loops that store

-- as many numbers as before
pub each_length : (n : ℕ) (g : ℕ → List Float → List Float) (xs : List Float) → ((k : ℕ) (ys : List Float) → k < n → length (g k ys) ≡ length ys) → length (each n g xs) ≡ length xs
each_length n g xs h = each_keeps (λ (ys : List Float). length ys ≡ length xs) n g (λ k ys l e. h k ys l ∙ e) xs refl

-- number j is as it was
pub each_apart : (n : ℕ) (g : ℕ → List Float → List Float) (xs : List Float) (j : ℕ) → ((k : ℕ) (ys : List Float) → k < n → at (g k ys) j ≡ at ys j) → at (each n g xs) j ≡ at xs j
each_apart n g xs j h = each_keeps (λ (ys : List Float). at ys j ≡ at xs j) n g (λ k ys l e. h k ys l ∙ e) xs refl

-- number j is what step k leaves there, where the steps after k leave it alone
pub each_at : (n : ℕ) (g : ℕ → List Float → List Float) (xs : List Float) (j k : ℕ) (v : Complex)
    → ((i : ℕ) (ys : List Float) → i < n → length (g i ys) ≡ length ys)
    → k < n → ((ys : List Float) → length ys ≡ length xs → at (g k ys) j ≡ v)
    → ((i : ℕ) (ys : List Float) → k < i → i < n → at (g i ys) j ≡ at ys j)
    → at (each n g xs) j ≡ v
unfolding each
each_at zero g xs j k v len l here later = absurd (not-suc-le-zero l)
each_at (suc n) g xs j k v len l here later =
    ⊎_elim
    (λ (e : k ≡ n). ap (λ (i : ℕ). at (g i (each n g xs)) j) (sym e) ∙ here (each n g xs) (each_length n g xs (λ i ys m. len i ys (omega arith))))
    (λ (m : k < n). later n (each n g xs) m (le_refl (suc n)) ∙ each_at n g xs j k v (λ i ys b. len i ys (omega arith)) m here (λ i ys a b. later i ys a (omega arith)))
    (eq-or-lt_of_le (le_of_suc-le-suc l))

-- stores at places that differ: each number is there, and every other place is as it was
module _ (n : ℕ) (p : ℕ → ℕ) (f : ℕ → Complex) (xs : List Float) where
  pub length_stores : length (stores n p f xs) ≡ length xs
  length_stores = each_length n _ xs (λ k ys h. length_store ys (p k) (f k))

  pub at_stores : (k : ℕ) → k < n → p k < count xs → ((i : ℕ) → k < i → i < n → p k ≢ p i) → at (stores n p f xs) (p k) ≡ f k
  at_stores k h room apart =
      each_at n (λ i ys. store ys (p i) (f i)) xs (p k) k (f k) (λ i ys l. length_store ys (p i) (f i)) h
      (λ ys e. at_store_same ys (p k) (f k) (omega arith)) (λ i ys a b. at_store_other ys (p i) (p k) (f i) (apart i a b))

  pub at_stores_other : (j : ℕ) → ((i : ℕ) → i < n → j ≢ p i) → at (stores n p f xs) j ≡ at xs j
  at_stores_other j apart = each_apart n _ xs j (λ i ys l. at_store_other ys (p i) j (f i) (apart i l))

-- ---- two lists of n numbers that agree at each number are equal

pub ext_at : (n : ℕ) (xs ys : List Float) → length xs ≡ 2 * n → length ys ≡ 2 * n → ((k : ℕ) → k < n → at xs k ≡ at ys k) → xs ≡ ys
unfolding at
ext_at n xs ys hx hy h = ext_get_or nan xs ys (hx ∙ sym hy) (λ i l. halves i (i / 2) (i % 2) (omega arith) (omega arith) (omega arith))
  where
    halves : (i k b : ℕ) → i ≡ 2 * k + b → b < 2 → k < n → get_or xs i nan ≡ get_or ys i nan
    halves i k zero e hb hk = let e' : i ≡ 2 * k = omega arith in rw e' (ap (λ z. z.re) (h k hk))
    halves i k (suc zero) e hb hk = let e' : i ≡ 2 * k + 1 = omega arith in rw e' (ap (λ z. z.im) (h k hk))
    halves i k (suc (suc b)) e hb hk = absurd (omega arith)

-- ---- number k of two lists joined

pub at_left : (xs ys : List Float) (k : ℕ) → 2 * k + 1 < length xs → at (xs ++ ys) k ≡ at xs k
unfolding at
at_left xs ys k h i = record { re = get_or-append xs ys nan (2 * k) (omega arith) i; im = get_or-append xs ys nan (2 * k + 1) h i }

pub at_right : (xs ys : List Float) (n r : ℕ) → length xs ≡ 2 * n → at (xs ++ ys) (n + r) ≡ at ys r
unfolding at
at_right xs ys n r e =
    let a : 2 * (n + r) ≡ length xs + 2 * r = omega arith in
    let b : 2 * (n + r) + 1 ≡ length xs + (2 * r + 1) = omega arith in
    λ i. record {
      re = (ap (λ (k : ℕ). get_or (xs ++ ys) k nan) a ∙ get_or-append-add xs ys (2 * r) nan) i;
      im = (ap (λ (k : ℕ). get_or (xs ++ ys) k nan) b ∙ get_or-append-add xs ys (2 * r + 1) nan) i;
    }

-- ---- number k of a list's front, and of what lies behind number x

pub at_take : (n k : ℕ) (xs : List Float) → 2 * k + 1 < n → at (take n xs) k ≡ at xs k
unfolding at
at_take n k xs h i = record { re = get_or-take n xs (2 * k) nan (omega arith) i; im = get_or-take n xs (2 * k + 1) nan h i }

pub at_drop : (s x k : ℕ) (xs : List Float) → s ≡ 2 * x → at (drop s xs) k ≡ at xs (x + k)
unfolding at
at_drop s x k xs h =
    let p : s + 2 * k ≡ 2 * (x + k) = omega arith in
    let q : s + (2 * k + 1) ≡ 2 * (x + k) + 1 = omega arith in
    λ i. record {
      re = (get_or-drop s xs (2 * k) nan ∙ ap (λ (j : ℕ). get_or xs j nan) p) i;
      im = (get_or-drop s xs (2 * k + 1) nan ∙ ap (λ (j : ℕ). get_or xs j nan) q) i;
    }

pub at_part : (s e x k : ℕ) (xs : List Float) → s ≡ 2 * x → 2 * k + 1 < e - s → at (part s e xs) k ≡ at xs (x + k)
at_part s e x k xs h l = at_take (e - s) k (drop s xs) l ∙ at_drop s x k xs h

-- ---- laws of `numbers`

pub length_numbers : (n : ℕ) (f : ℕ → Complex) → length (numbers n f) ≡ 2 * n
unfolding numbers
length_numbers zero f = refl
length_numbers (suc n) f = length-append (numbers n f) ((f n).re ∷ (f n).im ∷ []) ∙ omega (arith, length_numbers n f)

pub at_numbers : (n : ℕ) (f : ℕ → Complex) (k : ℕ) → k < n → at (numbers n f) k ≡ f k
unfolding numbers at
at_numbers zero f k h = absurd (not-suc-le-zero h)
at_numbers (suc n) f k h =
    ⊎_elim
    (λ (e : k ≡ n). rw e (last n f))
    (λ (l : k < n). at_left (numbers n f) ((f n).re ∷ (f n).im ∷ []) k (omega (arith, length_numbers n f)) ∙ at_numbers n f k l)
    (eq-or-lt_of_le (le_of_suc-le-suc h))
  where
    last : (n : ℕ) (f : ℕ → Complex) → at (numbers n f ++ ((f n).re ∷ (f n).im ∷ [])) n ≡ f n
    last n f = let e : n ≡ n + 0 = omega arith in ap (at (numbers n f ++ ((f n).re ∷ (f n).im ∷ []))) e ∙ at_right (numbers n f) ((f n).re ∷ (f n).im ∷ []) n 0 (length_numbers n f)

-- stores at 0, 1, .. n - 1 over a list of n numbers
pub stores_numbers : (n : ℕ) (f : ℕ → Complex) (xs : List Float) → length xs ≡ 2 * n → stores n (λ k. k) f xs ≡ numbers n f
stores_numbers n f xs e =
    ext_at n _ (numbers n f) (length_stores n (λ k. k) f xs ∙ e) (length_numbers n f)
    (λ k h. at_stores n (λ k. k) f xs k h (omega arith) (λ i a b. omega arith) ∙ sym (at_numbers n f k h))

-- and over the first n numbers of a longer list
pub take_stores : (n : ℕ) (f : ℕ → Complex) (xs : List Float) → n ≤ count xs → take (2 * n) (stores n (λ k. k) f xs) ≡ numbers n f
take_stores n f xs h =
    let e : length (stores n (λ k. k) f xs) ≡ length xs = length_stores n (λ k. k) f xs in
    ext_at n _ (numbers n f) (length-take-le (2 * n) _ (omega arith)) (length_numbers n f)
    (λ k l. at_take (2 * n) k _ (omega arith) ∙ at_stores n (λ k. k) f xs k l (omega arith) (λ i a b. omega arith) ∙ sym (at_numbers n f k l))

-- number `to` + k, where n numbers were stored from `to` on
pub at_area : (n to : ℕ) (f : ℕ → Complex) (xs : List Float) (k : ℕ) → to + n ≤ count xs → k < n → at (stores n (λ k. to + k) f xs) (to + k) ≡ f k
at_area n to f xs k room h = at_stores n (λ k. to + k) f xs k h (omega arith) (λ i a b. omega arith)

-- numbers that agree below n
pub numbers_same : (n : ℕ) (f g : ℕ → Complex) → ((k : ℕ) → k < n → f k ≡ g k) → numbers n f ≡ numbers n g
numbers_same n f g h =
    ext_at n (numbers n f) (numbers n g) (length_numbers n f) (length_numbers n g) (λ k l. at_numbers n f k l ∙ h k l ∙ sym (at_numbers n g k l))

-- Stores from `to` on whose values read only what lies before `to` are stores of what they read at first.
pub stores_apart : (n to : ℕ) (f : List Float → ℕ → Complex) (w : List Float)
    → ((ys : List Float) (k : ℕ) → ((j : ℕ) → j < to → at ys j ≡ at w j) → k < n → f ys k ≡ f w k)
    → each n (λ k ys. store ys (to + k) (f ys k)) w ≡ stores n (λ k. to + k) (f w) w
stores_apart n to f w reads =
    each_same n (λ k ys. store ys (to + k) (f ys k)) (λ k ys. store ys (to + k) (f w k)) w
    (λ k l. let ys = stores k (λ i. to + i) (f w) w in ap (store ys (to + k)) (reads ys k (λ j m. at_stores_other k (λ i. to + i) (f w) w j (λ i _. omega arith)) l))
