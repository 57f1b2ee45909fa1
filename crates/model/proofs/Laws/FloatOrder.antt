-- The order of binary64 numbers that are no NaNs: `le` is reflexive, transitive and total, and `lt` is the negation of `le` with its arguments exchanged.
use Rattle.std.specs.Prelude.{◌≡◌, refl, ◌⊎◌, Bool, true, false, not, ◌&&◌, ◌||◌, ℕ, ◌+◌, ◌*◌, ◌≤◌, ◌<◌, T, ltb, leb, eqb, ℤ, Float}
use Rattle.std.proofs.Common.{sym, ap, ◌∙◌, inl, inr, ⊎_elim, true≢false, eq-zero-or-pos, mul-le-mul_right, le_of_mul-le-mul_right, zero-mul, add-zero, zero-add, arith, leb→le, le→leb, T_not, lt-ltb, le-ltb, le-leb, eq-eqb, ne_eqb}
use Rattle.std.proofs.Math.Bool.{and-false}
use Rattle.std.specs.Float.{nan, inf, fin}
use Rattle.std.specs.Float.Ieee.{up, down, below, level, lt, eq, le, is_nan}
use Rattle.std.specs.Float.Ieee.Fits.{down_pos}
use Rattle.std.proofs.lemmas.Bool.{lt-leb}
use Rattle.model.proofs.Laws.Tests.{or_first, trichotomy}

-- ---- comparing ±a with ±b: the positive parts on one side against the negative parts on the other

abbrev plus : Bool → ℕ → ℕ
plus false a = a
plus true a = 0

abbrev minus : Bool → ℕ → ℕ
minus false a = 0
minus true a = a

less_or_level : (a b : ℕ) → (ltb a b || (eqb a b && true)) ≡ leb a b
less_or_level a b =
    ⊎_elim
    (λ (h : a < b). rw (lt-ltb a b h, le-leb a b (omega arith)))
    (⊎_elim
    (λ (h : a ≡ b). rw (le-ltb a b (omega arith), eq-eqb a b h, le-leb a b (omega arith)))
    (λ (h : b < a). rw (le-ltb a b (omega arith), ne_eqb a b (omega arith), lt-leb a b h)))
    (trichotomy a b)

below_plus : (s t : Bool) (a b : ℕ) → below s a t b ≡ ltb (plus s a + minus t b) (plus t b + minus s a)
below_plus false false a b = rw (add-zero a, add-zero b)
below_plus false true a b = sym (le-ltb (a + b) 0 (omega arith))
below_plus true false a b = let e : b + a ≡ a + b = omega arith in rw e
below_plus true true a b = rw (zero-add a, zero-add b)

below_or_level : (s t : Bool) (a b : ℕ) → (below s a t b || level s a t b) ≡ leb (plus s a + minus t b) (plus t b + minus s a)
below_or_level false false a b = rw (add-zero a, add-zero b) (less_or_level a b)
below_or_level false true a b =
    ⊎_elim
    (λ (h : a + b ≡ 0). rw (eq-eqb a b (omega arith), eq-eqb a 0 (omega arith), le-leb (a + b) 0 (omega arith)))
    (λ (h : 0 < a + b). rw (lt-leb (a + b) 0 h) (apart h))
    (eq-zero-or-pos (a + b))
  where
    apart : 0 < a + b → (eqb a b && eqb a 0) ≡ false
    apart h = ⊎_elim (λ (z : a ≡ 0). rw (ne_eqb a b (omega arith))) (λ (z : 0 < a). rw (ne_eqb a 0 (omega arith)) (and-false (eqb a b))) (eq-zero-or-pos a)
below_or_level true false a b =
    ⊎_elim
    (λ (h : a + b ≡ 0). rw (le-ltb 0 (a + b) (omega arith), eq-eqb a b (omega arith), eq-eqb a 0 (omega arith), le-leb 0 (b + a) (omega arith)))
    (λ (h : 0 < a + b). rw (lt-ltb 0 (a + b) h, le-leb 0 (b + a) (omega arith)))
    (eq-zero-or-pos (a + b))
below_or_level true true a b =
    rw (zero-add a, zero-add b)
    (⊎_elim
    (λ (h : b < a). rw (lt-ltb b a h, le-leb b a (omega arith)))
    (⊎_elim
    (λ (h : b ≡ a). rw (le-ltb b a (omega arith), eq-eqb a b (sym h), le-leb b a (omega arith)))
    (λ (h : a < b). rw (le-ltb b a (omega arith), ne_eqb a b (omega arith), lt-leb b a h)))
    (trichotomy b a))

-- ---- finite numbers: ±a / x and ±b / y, by their products with the denominators

times_plus : (s : Bool) (a y : ℕ) → plus s (a * y) ≡ plus s a * y
times_plus false a y = refl
times_plus true a y = sym (zero-mul y)

times_minus : (s : Bool) (a y : ℕ) → minus s (a * y) ≡ minus s a * y
times_minus true a y = refl
times_minus false a y = sym (zero-mul y)

-- what stands on the left, and on the right, of the order of ±a / x and ±b / y
abbrev side : Bool → ℕ → ℕ → Bool → ℕ → ℕ → ℕ
side s a x t b y = plus s a * y + minus t b * x

module _ (s : Bool) (m : ℕ) (e : ℤ) (t : Bool) (n : ℕ) (d : ℤ) where
  abbrev left : ℕ
  left = side s (m * up e) (down e) t (n * up d) (down d)

  abbrev right : ℕ
  right = plus t (n * up d) * down e + minus s (m * up e) * down d

  finite_le : le (fin s m e) (fin t n d) ≡ leb left right
  unfolding le
  finite_le =
      below_or_level s t (m * up e * down d) (n * up d * down e)
      ∙ rw (times_plus s (m * up e) (down d), times_plus t (n * up d) (down e), times_minus s (m * up e) (down d), times_minus t (n * up d) (down e))

  finite_lt : lt (fin s m e) (fin t n d) ≡ ltb left right
  unfolding lt
  finite_lt =
      below_plus s t (m * up e * down d) (n * up d * down e)
      ∙ rw (times_plus s (m * up e) (down d), times_plus t (n * up d) (down e), times_minus s (m * up e) (down d), times_minus t (n * up d) (down e))

cross : (p q r p' q' r' x y z : ℕ) → 0 < y → p * y + q' * x ≤ q * x + p' * y → q * z + r' * y ≤ r * y + q' * z → p * z + r' * x ≤ r * x + p' * z
cross p q r p' q' r' x y z pos h k = le_of_mul-le-mul_right {k = y} (omega (arith, mul-le-mul_right z h, mul-le-mul_right x k)) pos

finite_transitive : (s : Bool) (m : ℕ) (e : ℤ) (t : Bool) (n : ℕ) (d : ℤ) (u : Bool) (l : ℕ) (c : ℤ)
    → T (le (fin s m e) (fin t n d)) → T (le (fin t n d) (fin u l c)) → T (le (fin s m e) (fin u l c))
finite_transitive s m e t n d u l c h k =
    let a = finite_le s m e t n d in
    let b = finite_le t n d u l c in
    let g = finite_le s m e u l c in
    rw g (le→leb (left s m e u l c) (right s m e u l c)
    (cross (plus s (m * up e)) (plus t (n * up d)) (plus u (l * up c)) (minus s (m * up e)) (minus t (n * up d)) (minus u (l * up c)) (down e) (down d) (down c) (down_pos d)
    (leb→le (left s m e t n d) (right s m e t n d) (rw a at h)) (leb→le (left t n d u l c) (right t n d u l c) (rw b at k))))

finite_lt_not_le : (s : Bool) (m : ℕ) (e : ℤ) (t : Bool) (n : ℕ) (d : ℤ) → lt (fin s m e) (fin t n d) ≡ not (le (fin t n d) (fin s m e))
finite_lt_not_le s m e t n d = finite_lt s m e t n d ∙ negated (left s m e t n d) (right s m e t n d) ∙ ap not (sym (finite_le t n d s m e))
  where
    negated : (a b : ℕ) → ltb a b ≡ not (leb b a)
    negated a b =
        ⊎_elim
        (λ (h : a < b). rw (lt-ltb a b h, lt-leb b a h))
        (⊎_elim (λ (h : a ≡ b). rw (le-ltb a b (omega arith), le-leb b a (omega arith))) (λ (h : b < a). rw (le-ltb a b (omega arith), le-leb b a (omega arith))))
        (trichotomy a b)

finite_reflexive : (s : Bool) (m : ℕ) (e : ℤ) → T (le (fin s m e) (fin s m e))
finite_reflexive s m e = let g = finite_le s m e s m e in rw g (le→leb (left s m e s m e) (right s m e s m e) (omega arith))

-- ---- the laws

pub le_transitive : (x y z : Float) → T (le x y) → T (le y z) → T (le x z)
unfolding le lt eq
le_transitive nan y z h k = absurd h
le_transitive (inf s) nan z h k = absurd h
le_transitive (inf s) (inf t) nan h k = absurd k
le_transitive (inf false) (inf false) (inf false) h k = tt
le_transitive (inf false) (inf false) (inf true) h k = absurd k
le_transitive (inf false) (inf true) (inf u) h k = absurd h
le_transitive (inf true) (inf t) (inf false) h k = tt
le_transitive (inf true) (inf t) (inf true) h k = tt
le_transitive (inf false) (inf false) (fin u n d) h k = absurd k
le_transitive (inf false) (inf true) (fin u n d) h k = absurd h
le_transitive (inf true) (inf t) (fin u n d) h k = tt
le_transitive (inf s) (fin t n d) nan h k = absurd k
le_transitive (inf false) (fin t n d) (inf u) h k = absurd h
le_transitive (inf true) (fin t n d) (inf false) h k = tt
le_transitive (inf true) (fin t n d) (inf true) h k = tt
le_transitive (inf s) (fin t n d) (fin u l c) h k = h
le_transitive (fin s m e) nan z h k = absurd h
le_transitive (fin s m e) (inf t) nan h k = absurd k
le_transitive (fin s m e) (inf true) (inf u) h k = absurd h
le_transitive (fin s m e) (inf false) (inf false) h k = tt
le_transitive (fin s m e) (inf false) (inf true) h k = absurd k
le_transitive (fin s m e) (inf true) (fin u l c) h k = absurd h
le_transitive (fin s m e) (inf false) (fin u l c) h k = absurd k
le_transitive (fin s m e) (fin t n d) nan h k = absurd k
le_transitive (fin s m e) (fin t n d) (inf u) h k = k
le_transitive (fin s m e) (fin t n d) (fin u l c) h k = finite_transitive s m e t n d u l c h k

-- of two numbers that are no NaNs, x is less than y exactly if y is not at most x
pub lt_not_le : (x y : Float) → is_nan x ≡ false → is_nan y ≡ false → lt x y ≡ not (le y x)
unfolding le lt eq is_nan
lt_not_le nan y p q = absurd (true≢false p)
lt_not_le (inf s) nan p q = absurd (true≢false q)
lt_not_le (inf false) (inf false) p q = refl
lt_not_le (inf false) (inf true) p q = refl
lt_not_le (inf true) (inf false) p q = refl
lt_not_le (inf true) (inf true) p q = refl
lt_not_le (inf false) (fin t n d) p q = refl
lt_not_le (inf true) (fin t n d) p q = refl
lt_not_le (fin s m e) nan p q = absurd (true≢false q)
lt_not_le (fin s m e) (inf false) p q = refl
lt_not_le (fin s m e) (inf true) p q = refl
lt_not_le (fin s m e) (fin t n d) p q = finite_lt_not_le s m e t n d

pub lt_le : (x y : Float) → T (lt x y) → T (le x y)
unfolding le
lt_le x y h = or_first (lt x y) (eq x y) h

pub le_reflexive : (x : Float) → is_nan x ≡ false → T (le x x)
unfolding le lt eq is_nan
le_reflexive nan p = absurd (true≢false p)
le_reflexive (inf false) p = tt
le_reflexive (inf true) p = tt
le_reflexive (fin s m e) p = finite_reflexive s m e

pub le_total : (x y : Float) → is_nan x ≡ false → is_nan y ≡ false → T (le x y) ⊎ T (lt y x)
le_total x y p q = let e = lt_not_le y x q p in rw e (either (le x y))
  where
    either : (b : Bool) → T b ⊎ T (not b)
    either true = inl tt
    either false = inr tt

pub le_lt_false : (x y : Float) → is_nan x ≡ false → is_nan y ≡ false → T (le x y) → T (lt y x) → ⊥
le_lt_false x y p q h l = let e = lt_not_le y x q p in T_not (le x y) (rw e at l) h

-- mixed chains
pub le_lt_trans : (x y z : Float) → is_nan x ≡ false → is_nan y ≡ false → is_nan z ≡ false → T (le x y) → T (lt y z) → T (lt x z)
le_lt_trans x y z p q r h l = ⊎_elim (λ (k : T (le z x)). absurd (le_lt_false z y r q (le_transitive z x y k h) l)) (λ (k : T (lt x z)). k) (le_total z x r p)

pub lt_le_trans : (x y z : Float) → is_nan x ≡ false → is_nan y ≡ false → is_nan z ≡ false → T (lt x y) → T (le y z) → T (lt x z)
lt_le_trans x y z p q r l h = ⊎_elim (λ (k : T (le z x)). absurd (le_lt_false y x q p (le_transitive y z x h k) l)) (λ (k : T (lt x z)). k) (le_total z x r p)
