-- Counted loops: n steps from a state, and sums from the left. A loop's invariant says that its state is `each k step start`.
use Rattle.std.specs.Prelude.{◌≡◌, refl, Bool, true, ◌&&◌, List, [], ◌∷◌, ◌++◌, ℕ, zero, suc, ◌+◌, ◌-◌, ◌*◌, ◌≤◌, ◌<◌, T, length, get_or, take, set, Float}
use Rattle.std.proofs.Common.{sym, ap, ◌∙◌, ⊎_elim, le_refl, eq-or-lt_of_le, le_of_suc-le-suc, not-suc-le-zero, add-zero, add-suc, zero-mul, suc-mul, add-one, arith, length-append}
use Rattle.std.proofs.Math.ListN.{get_or-append}
use Rattle.std.proofs.Math.Seq.{take-suc-set}
use Rattle.std.proofs.lemmas.List.{get_or_at}
use Rattle.std.specs.Float.{binary64}
use Rattle.std.specs.Float.Ieee.{add}
use Rattle.std.specs.Float.Ieee.Fits.{and_l, and_r, and_i}
use Rattle.complex.specs.Complex.{add_c}
use Rattle.complex.specs.declared.Complex.{Complex}

-- step 0, then step 1, .. then step n - 1, from z
unfoldable pub each : {A : Type 0} → ℕ → (ℕ → A → A) → A → A
each zero g z = z
each (suc n) g z = g n (each n g z)

-- step lo, then step lo + 1, .. then step hi - 1, from z
unfoldable pub between : {A : Type 0} → ℕ → ℕ → (ℕ → A → A) → A → A
between lo hi g z = each (hi - lo) (λ k. g (lo + k)) z

-- ((z + f 0) + f 1) + .. + f (n - 1), each sum rounded
abbrev pub sum_c : ℕ → (ℕ → Complex) → Complex → Complex
sum_c n f z = each n (λ k a. add_c a (f k)) z

abbrev pub sum_f : ℕ → (ℕ → Float) → Float → Float
sum_f n f z = each n (λ k a. add binary64 a (f k)) z

-- the list f 0, f 1, .. f (n - 1)
unfoldable pub tabulate : {A : Type 0} → ℕ → (ℕ → A) → List A
tabulate zero f = []
tabulate (suc n) f = tabulate n f ++ (f n ∷ [])

-- p holds of 0, 1, .. n - 1
unfoldable pub every : ℕ → (ℕ → Bool) → Bool
every zero p = true
every (suc n) p = every n p && p n

-- ---- laws: no step, and one step more

pub each_none : {A : Type 0} (g : ℕ → A → A) (z : A) → each 0 g z ≡ z
unfolding each
each_none g z = refl

pub each_more : {A : Type 0} (n : ℕ) (g : ℕ → A → A) (z : A) → each (n + 1) g z ≡ g n (each n g z)
unfolding each
each_more n g z = rw add-one

pub between_none : {A : Type 0} (lo : ℕ) (g : ℕ → A → A) (z : A) → between lo lo g z ≡ z
unfolding each between
between_none lo g z = let e : lo - lo ≡ 0 = omega arith in rw e

pub between_more : {A : Type 0} (lo i : ℕ) (g : ℕ → A → A) (z : A) → lo ≤ i → between lo (i + 1) g z ≡ g i (between lo i g z)
unfolding between
between_more lo i g z h =
    let e : i + 1 - lo ≡ i - lo + 1 = omega arith in
    let k : lo + (i - lo) ≡ i = omega arith in
    rw (e, each_more, k)

-- ---- what every step keeps, the loop keeps; loops whose steps agree on what they pass through are equal

pub each_keeps : {A : Type 0} (P : A → Type 0) (n : ℕ) (g : ℕ → A → A) → ((k : ℕ) (a : A) → k < n → P a → P (g k a)) → (z : A) → P z → P (each n g z)
unfolding each
each_keeps P zero g h z p = p
each_keeps P (suc n) g h z p = h n (each n g z) (le_refl (suc n)) (each_keeps P n g (λ k a l. h k a (omega arith)) z p)

pub each_same : {A : Type 0} (n : ℕ) (f g : ℕ → A → A) (z : A) → ((k : ℕ) → k < n → f k (each k g z) ≡ g k (each k g z)) → each n f z ≡ each n g z
unfolding each
each_same zero f g z h = refl
each_same (suc n) f g z h = ap (f n) (each_same n f g z (λ k l. h k (omega arith))) ∙ h n (le_refl (suc n))

pub each_agree : {A : Type 0} (n : ℕ) (f g : ℕ → A → A) (z : A) → ((k : ℕ) (a : A) → k < n → f k a ≡ g k a) → each n f z ≡ each n g z
each_agree n f g z h = each_same n f g z (λ k l. h k (each k g z) l)

-- ---- a loop after a loop, and a loop in a loop, are one

pub each_append : {A : Type 0} (n m : ℕ) (h : ℕ → A → A) (z : A) → each (n + m) h z ≡ each m (λ k. h (n + k)) (each n h z)
unfolding each
each_append n zero h z = ap (λ (k : ℕ). each k h z) (add-zero n)
each_append n (suc m) h z = ap (λ (k : ℕ). each k h z) (add-suc n m) ∙ ap (h (n + m)) (each_append n m h z)

pub each_each : {A : Type 0} (n m : ℕ) (h : ℕ → A → A) (z : A) → each n (λ i y. each m (λ j. h (i * m + j)) y) z ≡ each (n * m) h z
unfolding each
each_each zero m h z = ap (λ (k : ℕ). each k h z) (sym (zero-mul m))
each_each (suc n) m h z =
    ap (each m (λ j. h (n * m + j))) (each_each n m h z) ∙ sym (each_append (n * m) m h z) ∙ ap (λ (k : ℕ). each k h z) (sym (suc-mul n m))

-- ---- a test of every number below n

pub every_none : (p : ℕ → Bool) → every 0 p ≡ true
unfolding every
every_none p = refl

pub every_more : (n : ℕ) (p : ℕ → Bool) → every (n + 1) p ≡ (every n p && p n)
unfolding every
every_more n p = rw add-one

pub every_at : (n : ℕ) (p : ℕ → Bool) (k : ℕ) → k < n → T (every n p) → T (p k)
unfolding every
every_at zero p k h t = absurd (not-suc-le-zero h)
every_at (suc n) p k h t =
    ⊎_elim
    (λ (e : k ≡ n). rw e (and_r (every n p) (p n) t))
    (λ (l : k < n). every_at n p k l (and_l (every n p) (p n) t))
    (eq-or-lt_of_le (le_of_suc-le-suc h))

pub every_of : (n : ℕ) (p : ℕ → Bool) → ((k : ℕ) → k < n → T (p k)) → T (every n p)
unfolding every
every_of zero p h = tt
every_of (suc n) p h = and_i (every n p) (p n) (every_of n p (λ k l. h k (omega arith))) (h n (le_refl (suc n)))

-- ---- a list by its elements, and one that is written from its front on

pub tabulate_none : {A : Type 0} (f : ℕ → A) → tabulate 0 f ≡ []
unfolding tabulate
tabulate_none f = refl

pub tabulate_more : {A : Type 0} (n : ℕ) (f : ℕ → A) → tabulate (n + 1) f ≡ tabulate n f ++ (f n ∷ [])
unfolding tabulate
tabulate_more n f = rw add-one

pub take_set : {A : Type 0} (n : ℕ) (xs : List A) (x : A) → n < length xs → take (n + 1) (set xs n x) ≡ take n xs ++ (x ∷ [])
take_set n xs x h = rw (add-one, take-suc-set)

pub length_tabulate : {A : Type 0} (n : ℕ) (f : ℕ → A) → length (tabulate n f) ≡ n
unfolding tabulate
length_tabulate zero f = refl
length_tabulate (suc n) f = length-append (tabulate n f) (f n ∷ []) ∙ omega (arith, length_tabulate n f)

pub get_d_tabulate : {A : Type 0} (n : ℕ) (f : ℕ → A) (d : A) (k : ℕ) → k < n → get_or (tabulate n f) k d ≡ f k
unfolding tabulate
get_d_tabulate zero f d k h = absurd (not-suc-le-zero h)
get_d_tabulate (suc n) f d k h =
    ⊎_elim
    (λ (e : k ≡ n). get_or_at (tabulate n f) (f n) [] d k (length_tabulate n f ∙ sym e) ∙ ap f (sym e))
    (λ (l : k < n). get_or-append (tabulate n f) (f n ∷ []) d k (omega (arith, length_tabulate n f)) ∙ get_d_tabulate n f d k l)
    (eq-or-lt_of_le (le_of_suc-le-suc h))
