-- Floats that are exact: times 1 is the same number, for every value of binary64; the tests of a fraction against 0 and 1; what equals 0, 1 or -1 is that number; and two
-- values of binary64 that are equal are one number, or two zeros.
use Rattle.std.specs.Prelude.{◌≡◌, refl, Bool, true, false, not, ◌&&◌, ◌||◌, cond, ℕ, zero, suc, ◌+◌, ◌-◌, ◌*◌, ◌%◌, ◌^◌, ◌≤◌, ◌<◌, ℤ, pos, negsuc, T, eqb, ltb, leb, Float}
use Rattle.std.proofs.Common.{sym, ap, ◌∙◌, subst, subst₂, zero-lt-suc, mul-pos, zero-mul, lt_irrefl, lt_of_not-le, le_of_suc-le-suc, lt_of_lt_of_le, mul-lt-mul_of_pos_right, pow-suc, arith, eqb→eq, ltb→lt, leb→le, lit<, lit≤, pow-add, pow_pos, pow_mono, shl_lt}
use Rattle.std.specs.Bool.{beq}
use Rattle.std.proofs.Math.Dec.{leb-suc-zero, not_T}
use Rattle.std.proofs.Math.Pow.{pow-lt}
use Rattle.std.specs.Float.{nan, inf, fin, binary64}
use Rattle.std.specs.Float.Ieee.{up, down, round, mul, fits, unlike, lt, le, eq, of_bits}
use Rattle.std.specs.Float.Ieee.Bits.{is_true, is_false}
use Rattle.std.specs.Float.Ieee.Fits.{and_l, and_r, up_pos, down_pos, round-fits}
use Rattle.std.specs.Float.Ieee.Exact.{HasValue, round_exact}
use Rattle.std.specs.Float.Ieee.Digits.{back}
use Rattle.complex.specs.Complex.{zero_f, one_f}
use Rattle.model.proofs.Laws.Units.{zero_of, one_of, Fraction, beq_eq}

-- what `fits` says of a finite number that is not 0
record Proper (m : ℕ) (e : ℤ) : Type 0 where
  odd : suc m % 2 ≡ 1
  few : suc m < 2 ^ 53
  fine : down e ≤ 2 ^ 1074
  small : suc m * up e < 2 ^ 1024 * down e

proper : (s : Bool) (m : ℕ) (e : ℤ) → T (fits binary64 (fin s (suc m) e)) → Proper m e
unfolding fits
proper s m e h =
    let a = eqb (suc m % 2) 1 in
    let b = ltb (suc m) (2 ^ 53) in
    let c = leb (down e) (2 ^ 1074) in
    let d = ltb (suc m * up e) (2 ^ 1024 * down e) in
    record {
      odd = eqb→eq (suc m % 2) 1 (and_l a b (and_l (a && b) c (and_l (a && b && c) d h)));
      few = ltb→lt (suc m) (2 ^ 53) (and_r a b (and_l (a && b) c (and_l (a && b && c) d h)));
      fine = leb→le (down e) (2 ^ 1074) (and_r (a && b) c (and_l (a && b && c) d h));
      small = ltb→lt (suc m * up e) (2 ^ 1024 * down e) (and_r (a && b && c) d h);
    }

-- ---- a number is written in one way

odd_pow : (m n a b : ℕ) → m % 2 ≡ 1 → n % 2 ≡ 1 → m * 2 ^ a ≡ n * 2 ^ b → (m ≡ n) × (a ≡ b)
odd_pow m n zero zero o p h = (omega arith, refl)
odd_pow m n zero (suc b) o p h = let k : m * 1 ≡ n * (2 ^ b * 2) = rw pow-suc at h in absurd (omega arith)
odd_pow m n (suc a) zero o p h = let k : m * (2 ^ a * 2) ≡ n * 1 = rw pow-suc at h in absurd (omega arith)
odd_pow m n (suc a) (suc b) o p h =
    let k : m * (2 ^ a * 2) ≡ n * (2 ^ b * 2) = simp pow-suc at h in
    let r = odd_pow m n a b o p (omega arith) in
    (r.0, ap suc r.1)

-- m * 2 ^ e equals n * 2 ^ g
one_way : (m n : ℕ) (e g : ℤ) → m % 2 ≡ 1 → n % 2 ≡ 1 → m * up e * down g ≡ n * up g * down e → (m ≡ n) × (e ≡ g)
one_way m n (pos a) (pos b) o p h = let r = odd_pow m n a b o p (omega arith) in (r.0, ap pos r.1)
one_way m n (pos a) (negsuc b) o p h = let k : m * 2 ^ a * (2 ^ b * 2) ≡ n * 1 * 1 = rw (pow-suc 2 b) at h in absurd (omega arith)
one_way m n (negsuc a) (pos b) o p h = let k : m * 1 * 1 ≡ n * 2 ^ b * (2 ^ a * 2) = rw (pow-suc 2 a) at h in absurd (omega arith)
one_way m n (negsuc a) (negsuc b) o p h = let r = odd_pow m n (suc b) (suc a) o p (omega arith) in (r.0, ap negsuc (omega (arith, r.1)))

-- ---- times 1

wide_lt : (q k l t : ℕ) → q * 2 ^ k < 2 ^ t * 1 → q * 2 ^ (k + l) < 2 ^ (l + t)
wide_lt q k l t h = rw (pow-add 2 k l, pow-add 2 l t) (omega (arith, mul-lt-mul_of_pos_right h (pow_pos l)))

wide_eq : (q k l : ℕ) → q * 2 ^ k * 1 * 2 ^ l ≡ q * 2 ^ (k + l) * 1
wide_eq q k l = rw pow-add (omega arith)

narrow_lt : (q j r l t : ℕ) → q < 2 ^ r → r + j ≤ l + t → q * 2 ^ j < 2 ^ (l + t)
narrow_lt q j r l t h b = lt_of_lt_of_le (shl_lt r j h) (pow_mono b)

narrow_eq : (q k l : ℕ) → k ≤ l → q * 1 * 1 * 2 ^ l ≡ q * 2 ^ (l - k) * (2 ^ k * 1)
narrow_eq q k l h = let e : 2 ^ l ≡ 2 ^ (l - k) * 2 ^ k = ap (λ (x : ℕ). 2 ^ x) (sym (back l k h)) ∙ pow-add 2 (l - k) k in rw e (omega arith)

pow_le : (k l : ℕ) → 2 ^ k ≤ 2 ^ l → k ≤ l
pow_le k l h = le_of_suc-le-suc (lt_of_not-le (λ (g : l < k). lt_irrefl (2 ^ l) (lt_of_lt_of_le (pow-lt g) h)))

sum_le : (k : ℕ) → 53 + (1074 - k) ≤ 1074 + 1024
sum_le k = omega arith

exact : (s : Bool) (m : ℕ) (e : ℤ) → Proper m e → HasValue (round binary64 s (suc m * up e * 1) (down e * 1)) s (suc m * up e * 1) (down e * 1)
exact s m (pos k) p = round_exact binary64 s (suc m * 2 ^ k * 1) 1 (suc m) (k + 1074) (zero-lt-suc 0) p.few (wide_lt (suc m) k 1074 1024 p.small) (wide_eq (suc m) k 1074)
exact s m (negsuc k) p =
    let b : suc k ≤ 1074 = pow_le (suc k) 1074 p.fine in
    round_exact binary64 s (suc m * 1 * 1) (2 ^ suc k * 1) (suc m) (1074 - suc k) (mul-pos (pow_pos (suc k)) (zero-lt-suc 0)) p.few
    (narrow_lt (suc m) (1074 - suc k) 53 1074 1024 p.few (sum_le (suc k))) (narrow_eq (suc m) (suc k) 1074 b)

-- a number that fits, with the sign and the size of another that fits, is that number
same : (y : Float) (s : Bool) (m : ℕ) (e : ℤ) → T (fits binary64 y) → Proper m e → HasValue y s (suc m * up e * 1) (down e * 1) → y ≡ fin s (suc m) e
same nan s m e q p v = elim v [ ]
same (inf _) s m e q p v = elim v [ ]
same (fin t zero g) s m e q p v = absurd (omega (arith, v.1, mul-pos (mul-pos (zero-lt-suc m) (up_pos e)) (down_pos g)))
same (fin t (suc n) g) s m e q p v =
    let r = one_way (suc n) (suc m) g e (proper t n g q).odd p.odd (omega (arith, v.1)) in
    λ i. fin (v.0 i) (r.0 i) (r.1 i)

flat : (e : ℤ) → up e * down e ≡ 1 → e ≡ pos 0
flat (pos zero) h = refl
flat (pos (suc k)) h = absurd (omega (arith, pow-suc 2 k))
flat (negsuc k) h = absurd (omega (arith, pow-suc 2 k))

zero_exp : (s : Bool) (e : ℤ) → T (fits binary64 (fin s zero e)) → e ≡ pos 0
unfolding fits
zero_exp s e t = flat e (eqb→eq (up e * down e) 1 t)

zero_times : (s : Bool) → mul binary64 (fin s 0 (pos 0)) (fin false 1 (pos 0)) ≡ fin s 0 (pos 0)
unfolding mul
zero_times false = refl
zero_times true = refl

unlike_false : (s : Bool) → unlike s false ≡ s
unlike_false false = refl
unlike_false true = refl

fin_times : (s : Bool) (m : ℕ) (e : ℤ) → mul binary64 (fin s (suc m) e) (fin false 1 (pos 0)) ≡ round binary64 s (suc m * up e * 1) (down e * 1)
unfolding mul
fin_times s m e = ap (λ (t : Bool). round binary64 t (suc m * up e * 1) (down e * 1)) (unlike_false s)

inf_times : (s : Bool) → mul binary64 (inf s) (fin false 1 (pos 0)) ≡ inf s
unfolding mul
inf_times s = ap inf (unlike_false s)

nan_times : mul binary64 nan (fin false 1 (pos 0)) ≡ nan
unfolding mul
nan_times = refl

pub times_one : (x : Float) → T (fits binary64 x) → mul binary64 x one_f ≡ x
unfolding of_bits
times_one nan h = nan_times
times_one (inf s) h = inf_times s
times_one (fin s zero e) h = subst (λ (g : ℤ). mul binary64 (fin s 0 g) (fin false 1 (pos 0)) ≡ fin s 0 g) (sym (zero_exp s e h)) (zero_times s)
times_one (fin s (suc m) e) h =
    fin_times s m e ∙ same (round binary64 s (suc m * up e * 1) (down e * 1)) s m e (round-fits binary64 s (suc m * up e * 1) (down e * 1)) (proper s m e h) (exact s m e (proper s m e h))

-- ---- a number at least 0 is not below 0

ltb_zero : (x y : ℕ) → y ≡ 0 → ltb x y ≡ false
ltb_zero x y e = ap (ltb x) e ∙ leb-suc-zero x

zero_when : (x d : ℕ) → T (eqb (0 * d) x && eqb (0 * d) 0) → ltb 0 (x + 0 * d) ≡ false
zero_when x d h = let e = eqb→eq (0 * d) x (and_l (eqb (0 * d) x) (eqb (0 * d) 0) h) in ltb_zero 0 (x + 0 * d) (omega arith)

pub not_below_zero : (x : Float) → T (le zero_f x) → lt x zero_f ≡ false
unfolding lt le eq of_bits
not_below_zero nan h = elim h [ ]
not_below_zero (inf true) h = elim h [ ]
not_below_zero (inf false) h = refl
not_below_zero (fin false m e) h = ltb_zero (m * up e * 1) (0 * down e) (zero-mul (down e))
not_below_zero (fin true m e) h = zero_when (m * up e * 1) (down e) h

-- ---- 1 is not at most a number below 1

not_both : (x y : ℕ) → T (ltb x y) → T (ltb y x || eqb y x && (true || eqb y 0)) → ⊥
not_both x y h k = go (ltb y x) (eqb y x) (ltb→lt y x) (eqb→eq y x) k
  where
    less : x < y
    less = ltb→lt x y h

    go : (a b : Bool) → (T a → y < x) → (T b → y ≡ x) → T (a || b && true) → ⊥
    go true b f g t = let l = f tt in omega (arith, less)
    go false false f g t = elim t [ ]
    go false true f g t = let l = g tt in omega (arith, less)

not_zero : (y x : ℕ) → 0 < y → T (false || eqb y x && (false || eqb y 0)) → ⊥
not_zero y x h k = let e = eqb→eq y 0 (and_r (eqb y x) (eqb y 0) k) in omega arith

pub not_above_one : (x : Float) → T (lt x one_f) → le one_f x ≡ false
unfolding lt le eq of_bits
not_above_one nan h = refl
not_above_one (inf false) h = elim h [ ]
not_above_one (inf true) h = refl
not_above_one (fin false m e) h = is_false _ (not_T (le (one_of false) (fin false m e)) (λ (k : T (le (one_of false) (fin false m e))). not_both (m * up e * 1) (1 * down e) h k))
not_above_one (fin true m e) h =
    is_false _ (not_T (le (one_of false) (fin true m e)) (λ (k : T (le (one_of false) (fin true m e))). not_zero (1 * down e) (m * up e * 1) (mul-pos (zero-lt-suc 0) (down_pos e)) k))

-- ---- the tests of a fraction

module _ {x : Float} (F : Fraction x) where
  -- below 1 and not below 0
  pub fraction_below : (b : Bool) → lt x (cond b one_f zero_f) ≡ b
  fraction_below false = not_below_zero x F.least
  fraction_below true = is_true (lt x one_f) F.below

  -- 0 is at most it, and 1 is not
  pub fraction_clamps : (b : Bool) → le (cond b one_f zero_f) x ≡ not b
  fraction_clamps false = is_true (le zero_f x) F.least
  fraction_clamps true = not_above_one x F.below

  pub fraction_times : mul binary64 x one_f ≡ x
  fraction_times = times_one x F.fit

-- ---- a value of binary64 that equals 0, 1 or -1 is that number

proper_one : Proper 0 (pos 0)
proper_one = record { odd = refl; few = lit< tt; fine = lit≤ tt; small = lit< tt }

pub equal_zero : (x : Float) → T (fits binary64 x) → T (eq x (zero_of false)) → (s : Bool) × (x ≡ zero_of s)
unfolding eq
equal_zero nan f h = elim h [ ]
equal_zero (inf _) f h = elim h [ ]
equal_zero (fin s zero e) f h = (s, λ i. fin s 0 (zero_exp s e f i))
equal_zero (fin s (suc m) e) f h =
    let a = eqb→eq (suc m * up e * 1) (0 * down e) (and_l (eqb (suc m * up e * 1) (0 * down e)) (beq s false || eqb (suc m * up e * 1) 0) h) in
    absurd (omega (arith, a, mul-pos (zero-lt-suc m) (up_pos e)))

sign_of : (s t : Bool) (n : ℕ) → 0 < n → T (beq s t || eqb n 0) → s ≡ t
sign_of false false n p h = refl
sign_of false true n p h = let e = eqb→eq n 0 h in absurd (omega arith)
sign_of true false n p h = let e = eqb→eq n 0 h in absurd (omega arith)
sign_of true true n p h = refl

pub equal_one : (t : Bool) (x : Float) → T (fits binary64 x) → T (eq x (one_of t)) → x ≡ one_of t
unfolding eq
equal_one t nan f h = elim h [ ]
equal_one t (inf _) f h = elim h [ ]
equal_one t (fin s zero e) f h =
    let a = eqb→eq (0 * up e * 1) (1 * down e) (and_l (eqb (0 * up e * 1) (1 * down e)) (beq s t || eqb (0 * up e * 1) 0) h) in
    absurd (omega (arith, a, down_pos e))
equal_one t (fin s (suc m) e) f h =
    let a = eqb→eq (suc m * up e * 1) (1 * down e) (and_l (eqb (suc m * up e * 1) (1 * down e)) (beq s t || eqb (suc m * up e * 1) 0) h) in
    let g = sign_of s t (suc m * up e * 1) (mul-pos (mul-pos (zero-lt-suc m) (up_pos e)) (zero-lt-suc 0)) (and_r (eqb (suc m * up e * 1) (1 * down e)) (beq s t || eqb (suc m * up e * 1) 0) h) in
    same (fin s (suc m) e) t 0 (pos 0) f proper_one (g, a)

-- ---- two values of binary64 that are equal are one number, or two zeros

pub data Level : Float → Float → Type 0 where
  itself : (x : Float) → Level x x
  zeros : (s t : Bool) → Level (zero_of s) (zero_of t)

pub equal_level : (x y : Float) → T (fits binary64 x) → T (fits binary64 y) → T (eq x y) → Level x y
unfolding eq
equal_level nan y f g h = elim h [ ]
equal_level (inf s) nan f g h = elim h [ ]
equal_level (inf s) (fin t n d) f g h = elim h [ ]
equal_level (fin s m e) nan f g h = elim h [ ]
equal_level (fin s m e) (inf t) f g h = elim h [ ]
equal_level (inf s) (inf t) f g h = subst (λ (u : Bool). Level (inf s) (inf u)) (beq_eq s t h) (itself (inf s))
equal_level (fin s m e) (fin t n d) f g h =
    let a = m * up e * down d in
    let b = n * up d * down e in
    finite_level m n f g (eqb→eq a b (and_l (eqb a b) (beq s t || eqb a 0) h)) (and_r (eqb a b) (beq s t || eqb a 0) h)
  where
    finite_level : (m n : ℕ) → T (fits binary64 (fin s m e)) → T (fits binary64 (fin t n d)) → m * up e * down d ≡ n * up d * down e → T (beq s t || eqb (m * up e * down d) 0) → Level (fin s m e) (fin t n d)
    finite_level zero zero f g l k = subst₂ (λ (a b : ℤ). Level (fin s 0 a) (fin t 0 b)) (sym (zero_exp s e f)) (sym (zero_exp t d g)) (zeros s t)
    finite_level zero (suc n) f g l k = absurd (omega (arith, mul-pos (mul-pos (zero-lt-suc n) (up_pos d)) (down_pos e)))
    finite_level (suc m) zero f g l k = absurd (omega (arith, mul-pos (mul-pos (zero-lt-suc m) (up_pos e)) (down_pos d)))
    finite_level (suc m) (suc n) f g l k =
        let r = one_way (suc m) (suc n) e d (proper s m e f).odd (proper t n d g).odd l in
        let o = sign_of s t (suc m * up e * down d) (mul-pos (mul-pos (zero-lt-suc m) (up_pos e)) (down_pos d)) k in
        subst (Level (fin s (suc m) e)) (λ i. fin (o i) (r.0 i) (r.1 i)) (itself (fin s (suc m) e))
