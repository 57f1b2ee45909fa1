-- Laws of `specs/Units.antt`.
use Rattle.std.specs.Prelude.{◌≡◌, ℕ, zero, suc, ◌+◌, ◌-◌, ◌*◌, ◌/◌, ◌%◌, ◌^◌, ◌<◌, ◌≤◌, Bool, true, false, not, ◌&&◌, T, ℤ, pos, negsuc, nat_eq, nat_le, nat_lt, refl, Float}
use Rattle.std.proofs.Common.{sym, ap, ◌∙◌, subst, true≢false, inl, inr, le_refl, mul-le-mul_right, zero-lt-suc, le_trans, le_of_eq, le_of_lt, le_of_suc-le-suc, lt_of_le_of_lt, lt_of_lt_of_le, lt_of_not-le, not-le_of_lt, lt_irrefl, eq-or-lt_of_le, mul-lt-mul_of_pos_right, lt_of_mul-lt-mul_right, le-div_iff_mul-le, mul_comm, mul_assoc, mul_right_comm, mul-one, zero-mul, mul-div_cancel, zero-add, arith, leb→le, ltb→lt, lit<, pow_pos, pow-add, pow_mono, shl_lt}
use Rattle.std.proofs.Math.Nat.{two-pow-succ}
use Rattle.std.proofs.Math.Arith.{lt_of_le-ne, le→nltb}
use Rattle.std.proofs.Math.Pow.{pow-lt, shr_mono}
use Rattle.std.specs.Float.{nan, inf, fin, binary64}
use Rattle.std.specs.Float.Ieee.{up, down, size, fits, to_bits, of_bits, is_nan, nan_bits, lt}
use Rattle.std.specs.Float.Ieee.Digits.{back, size-lt, size-le, size_reaches}
use Rattle.std.specs.Float.Ieee.Fits.{and_l, and_r, down_pos, kept-lt, inf-fits}
use Rattle.std.specs.Float.Ieee.Bits.{of_bits-to_bits, of_bits-fits, to_bits-of_bits, nan_bits_is, nan_bits_above}
use Rattle.std.specs.Float.Ieee.Exact.{HasValue}
use Rattle.std.specs.Float.Ieee.Positive.{positive}
use Rattle.complex.specs.Complex.{zero_f}
use Rattle.root.specs.Units.{in_units, sign_clear, Held, Significand, Short, AtPattern}

-- the format holds a value of either sign
pub unsigned_fits : (s : Bool) (m : ℕ) (e : ℤ) → T (fits binary64 (fin s m e)) → T (fits binary64 (fin false m e))
unfolding fits
unsigned_fits s zero e h = h
unsigned_fits s (suc m) e h = h

pow_le_back : (a l : ℕ) → 2 ^ a ≤ 2 ^ l → a ≤ l
pow_le_back a l h = le_of_suc-le-suc (lt_of_not-le (λ (g : l < a). not-le_of_lt (pow-lt g) h))

place : (m : ℕ) (e : ℤ) → down e ≤ 2 ^ 1074 → (j : ℕ) × (m * up e * 2 ^ 1074 ≡ m * 2 ^ j * down e)
place m (pos k) h = (k + 1074, mul_assoc m (2 ^ k) (2 ^ 1074) ∙ ap (λ (x : ℕ). m * x) (sym (pow-add 2 k 1074)) ∙ sym (mul-one (m * 2 ^ (k + 1074))))
place m (negsuc k) h = (
  1074 - suc k,
  ap (λ (x : ℕ). x * 2 ^ 1074) (mul-one m)
      ∙ ap (λ (x : ℕ). m * 2 ^ x) (sym (back 1074 (suc k) (pow_le_back (suc k) 1074 h)))
      ∙ ap (λ (x : ℕ). m * x) (pow-add 2 (1074 - suc k) (suc k))
      ∙ sym (mul_assoc m (2 ^ (1074 - suc k)) (2 ^ suc k)),
)

held : (s : Bool) (m : ℕ) (e : ℤ) → T (fits binary64 (fin s m e)) → Held m e
unfolding fits
held s zero e h = record { j = 0; few = pow_pos 53; is = ap (λ (x : ℕ). x * 2 ^ 1074) (zero-mul (up e)) ∙ zero-mul (2 ^ 1074) ∙ sym (zero-mul (down e)) }
held s (suc m) e h =
    let A = nat_eq (suc m % 2) 1 in
    let B = nat_lt (suc m) (2 ^ 53) in
    let C = nat_le (down e) (2 ^ 1074) in
    let D = nat_lt (suc m * up e) (2 ^ 1024 * down e) in
    let p = place (suc m) e (leb→le (down e) (2 ^ 1074) (and_r (A && B) C (and_l (A && B && C) D h))) in
    record { j = p.0; few = ltb→lt (suc m) (2 ^ 53) (and_r A B (and_l (A && B) C (and_l (A && B && C) D h))); is = p.1 }

units_held : (s : Bool) (m : ℕ) (e : ℤ) (H : Held m e) → in_units (fin s m e) ≡ m * 2 ^ H.j
unfolding in_units
units_held s m e H = ap (λ (x : ℕ). x / down e) H.is ∙ mul-div_cancel (m * 2 ^ H.j) (down_pos e)

pub units_exact : (x : Float) → T (fits binary64 x) → T (positive x) → HasValue x false (in_units x) (2 ^ 1074)
units_exact nan h p = absurd p
units_exact (inf s) h p = absurd p
units_exact (fin true m e) h p = absurd p
units_exact (fin false m e) h p = let H = held false m e h in (refl, H.is ∙ ap (λ (x : ℕ). x * down e) (sym (units_held false m e H)))

-- the units of a value that equals so many units
pub units_of_value : (v : Float) (n : ℕ) → HasValue v false n (2 ^ 1074) → in_units v ≡ n
unfolding in_units
units_of_value nan n h = absurd h
units_of_value (inf s) n h = absurd h
units_of_value (fin s m e) n h = ap (λ (x : ℕ). x / down e) h.1 ∙ mul-div_cancel n (down_pos e)

-- ---- The bit pattern of a value with the sign clear, by its units: the first 53 digits are kept and k are dropped. Infinity's pattern is the one that 2 ^ 2098 units have.

pattern : ℕ → ℕ
pattern n = (size n - 53) * 2 ^ 52 + n / 2 ^ (size n - 53)

bits_pattern : (v : Float) → T (sign_clear v) → to_bits binary64 v ≡ pattern (in_units v)
unfolding to_bits in_units pattern
bits_pattern nan p = absurd p
bits_pattern (inf true) p = absurd p
bits_pattern (inf false) p = refl
bits_pattern (fin true m e) p = absurd p
bits_pattern (fin false m e) p = simp zero-add

-- where digits are dropped, 53 are kept
kept_ge : (n : ℕ) → 0 < size n - 53 → 2 ^ 52 ≤ n / 2 ^ (size n - 53)
kept_ge n h =
    let k = size n - 53 in
    (le-div_iff_mul-le (pow_pos k)).1 (le_trans (le_of_eq (sym (pow-add 2 52 k))) (size_reaches n (52 + k) (omega arith)))

pattern_mono : (a b : ℕ) → a ≤ b → pattern a ≤ pattern b
unfolding pattern
pattern_mono a b h = elim (eq-or-lt_of_le (fewer (size a) (size b) (size-le a (size b) (lt_of_le_of_lt h (size-lt b))))) [
  | inl e ↦ subst (λ (j : ℕ). j * 2 ^ 52 + a / 2 ^ j ≤ (size b - 53) * 2 ^ 52 + b / 2 ^ (size b - 53)) (sym e) (omega (arith, shr_mono (size b - 53) h))
  | inr l ↦ carried (size a - 53) (size b - 53) (a / 2 ^ (size a - 53)) (b / 2 ^ (size b - 53)) l (kept-lt 53 a) (kept_ge b (lt_of_le_of_lt Prim.Native.Nat.zero-le l))
]
  where
    fewer : (x y : ℕ) → x ≤ y → x - 53 ≤ y - 53
    fewer x y h = omega arith

    carried : (j k x y : ℕ) → j < k → x < 2 ^ 53 → 2 ^ 52 ≤ y → j * 2 ^ 52 + x ≤ k * 2 ^ 52 + y
    carried j k x y h l g = omega arith

pattern_kept : (m j : ℕ) → m < 2 ^ 53 → (0 < j → 2 ^ 52 ≤ m) → pattern (m * 2 ^ j) ≡ j * 2 ^ 52 + m
unfolding pattern
pattern_kept m j h k = ap (λ (x : ℕ). x * 2 ^ 52 + m * 2 ^ j / 2 ^ x) (dropped j k) ∙ ap (λ (x : ℕ). j * 2 ^ 52 + x) (mul-div_cancel m (pow_pos j))
  where
    dropped : (i : ℕ) → (0 < i → 2 ^ 52 ≤ m) → size (m * 2 ^ i) - 53 ≡ i
    dropped zero k = let l : size (m * 2 ^ 0) ≤ 53 + 0 = size-le (m * 2 ^ 0) (53 + 0) (shl_lt 53 0 h) in omega (arith, l)
    dropped (suc i) k =
        let u : size (m * 2 ^ suc i) ≤ 53 + suc i = size-le (m * 2 ^ suc i) (53 + suc i) (shl_lt 53 (suc i) h) in
        let w : 2 ^ (52 + suc i) ≤ m * 2 ^ suc i = le_trans (le_of_eq (pow-add 2 52 (suc i))) (mul-le-mul_right (2 ^ suc i) (k (zero-lt-suc i))) in
        let l : 52 + suc i < size (m * 2 ^ suc i) = lt_of_not-le (λ (g : size (m * 2 ^ suc i) ≤ 52 + suc i). not-le_of_lt (lt_of_lt_of_le (size-lt (m * 2 ^ suc i)) (pow_mono g)) w) in
        omega (arith, u, l)

pattern_at : (h g : ℕ) → Significand h g → pattern (h * 2 ^ g) ≡ g * 2 ^ 52 + h
pattern_at h g s = elim (eq-or-lt_of_le s.0) [
  | inl e ↦ rw e (ap pattern (carry g) ∙ pattern_kept (2 ^ 52) (suc g) (lit< tt) (λ _. le_refl (2 ^ 52)) ∙ omega arith)
  | inr l ↦ pattern_kept h g l s.1
]
  where
    carry : (g : ℕ) → 2 ^ 53 * 2 ^ g ≡ 2 ^ 52 * 2 ^ suc g
    carry g = omega (arith, two-pow-succ g)

pub bits_at : (v : Float) (h g : ℕ) → T (sign_clear v) → Significand h g → in_units v ≡ h * 2 ^ g → to_bits binary64 v ≡ g * 2 ^ 52 + h
bits_at v h g p s e = bits_pattern v p ∙ ap pattern e ∙ pattern_at h g s

pub top_at : (h g : ℕ) → Significand h g → 2 ^ 2098 ≤ h * 2 ^ g → 0x7FF0_0000_0000_0000 ≤ g * 2 ^ 52 + h
unfolding to_bits in_units
top_at h g s o = le_trans (le_of_eq (bits_pattern (inf false) tt)) (le_trans (pattern_mono (2 ^ 2098) (h * 2 ^ g) o) (le_of_eq (pattern_at h g s)))

-- ---- which values have the sign clear

pub positive_sign : (x : Float) → T (positive x) → T (sign_clear x)
positive_sign nan p = absurd p
positive_sign (inf s) p = absurd p
positive_sign (fin true m e) p = absurd p
positive_sign (fin false m e) p = tt

pub value_sign : (v : Float) (a c : ℕ) → HasValue v false a c → T (sign_clear v)
value_sign nan a c h = absurd h
value_sign (inf s) a c h = absurd h
value_sign (fin true m e) a c h = absurd (true≢false h.0)
value_sign (fin false m e) a c h = tt

-- they are not below zero
pub clear_not_negative : (v : Float) → T (sign_clear v) → T (not (lt v zero_f))
unfolding lt of_bits
clear_not_negative nan p = tt
clear_not_negative (inf true) p = absurd p
clear_not_negative (inf false) p = tt
clear_not_negative (fin true m e) p = absurd p
clear_not_negative (fin false m e) p = le→nltb (m * up e * 1) (0 * down e) (least (m * up e * 1) (down e))
  where
    least : (a d : ℕ) → 0 * d ≤ a
    least a d = omega arith

pub units_short : (v : Float) → T (fits binary64 v) → T (sign_clear v) → Short (in_units v)
unfolding in_units
units_short nan h p = absurd p
units_short (inf true) h p = absurd p
units_short (inf false) h p = record { m = 1; j = 2098; few = lit< tt; is = refl }
units_short (fin true m e) h p = absurd p
units_short (fin false m e) h p = let H = held false m e h in record { m = m; j = H.j; few = H.few; is = units_held false m e H }

-- ---- a finite value is below 2 ^ 2098 units

pub units_below : (s : Bool) (m : ℕ) (e : ℤ) → T (fits binary64 (fin s m e)) → in_units (fin s m e) < 2 ^ 2098
unfolding fits
units_below s zero e h = let H = held s 0 e h in subst (λ (n : ℕ). n < 2 ^ 2098) (sym (units_held s 0 e H ∙ zero-mul (2 ^ H.j))) (pow_pos 2098)
units_below s (suc m) e h =
    let A = nat_eq (suc m % 2) 1 in
    let B = nat_lt (suc m) (2 ^ 53) in
    let C = nat_le (down e) (2 ^ 1074) in
    let D = nat_lt (suc m * up e) (2 ^ 1024 * down e) in
    let k : suc m * up e < 2 ^ 1024 * down e = ltb→lt (suc m * up e) (2 ^ 1024 * down e) (and_r (A && B && C) D h) in
    let H = held s (suc m) e h in
    subst (λ (n : ℕ). n < 2 ^ 2098) (sym (units_held s (suc m) e H))
    (lt_of_mul-lt-mul_right (down e)
    (lt_of_le_of_lt (le_of_eq (sym H.is))
    (lt_of_lt_of_le (mul-lt-mul_of_pos_right k (pow_pos 1074)) (le_of_eq (mul_right_comm (2 ^ 1024) (down e) (2 ^ 1074))))))

pub positive_below : (x : Float) → T (fits binary64 x) → T (positive x) → in_units x < 2 ^ 2098
positive_below nan h p = absurd p
positive_below (inf s) h p = absurd p
positive_below (fin s m e) h p = units_below s m e h

-- four times m * 2 ^ j units, in squares of a unit
pub four_units : (m j : ℕ) → 4 * (m * 2 ^ j * 2 ^ 1074) ≡ m * 2 ^ (j + 1076)
four_units m j = mul_comm 4 (m * 2 ^ j * 2 ^ 1074) ∙ mul_assoc (m * 2 ^ j) (2 ^ 1074) 4 ∙ mul_assoc m (2 ^ j) (2 ^ 1076) ∙ ap (λ (x : ℕ). m * x) (sym (pow-add 2 j 1076))

-- ---- two values with the sign clear that are as many units are one, and of two that are not, the one of more units has the larger pattern

pub same_bits : (x y : Float) → T (fits binary64 x) → T (fits binary64 y) → to_bits binary64 x ≡ to_bits binary64 y → x ≡ y
same_bits x y fx fy e = sym (of_bits-to_bits binary64 x fx) ∙ ap (of_bits binary64) e ∙ of_bits-to_bits binary64 y fy

module _ (x y : Float) (fx : T (fits binary64 x)) (fy : T (fits binary64 y)) (px : T (sign_clear x)) (py : T (sign_clear y)) where
  pub same_units : in_units x ≡ in_units y → x ≡ y
  same_units e = same_bits x y fx fy (bits_pattern x px ∙ ap pattern e ∙ sym (bits_pattern y py))

  bits_le : in_units x ≤ in_units y → to_bits binary64 x ≤ to_bits binary64 y
  bits_le h = le_trans (le_of_eq (bits_pattern x px)) (le_trans (pattern_mono (in_units x) (in_units y) h) (le_of_eq (sym (bits_pattern y py))))

  pub bits_lt : in_units x < in_units y → to_bits binary64 x < to_bits binary64 y
  bits_lt h = lt_of_le-ne (bits_le (le_of_lt h)) (λ e. lt_irrefl (in_units y) (subst (λ (v : Float). in_units v < in_units y) (same_bits x y fx fy e) h))

pub units_lt : (x y : Float) → T (fits binary64 x) → T (fits binary64 y) → T (sign_clear x) → T (sign_clear y) → to_bits binary64 x < to_bits binary64 y → in_units x < in_units y
units_lt x y fx fy px py h = lt_of_not-le (λ (g : in_units y ≤ in_units x). not-le_of_lt h (bits_le y x fy fx py px g))

-- ---- the patterns up to the infinity's are those of the values with the sign clear

pub units_top : (v : Float) → T (fits binary64 v) → T (sign_clear v) → to_bits binary64 v ≤ 0x7FF0_0000_0000_0000
unfolding to_bits in_units
units_top v h p = bits_le v (inf false) h (inf-fits binary64 false) p tt (top v h p)
  where
    top : (v : Float) → T (fits binary64 v) → T (sign_clear v) → in_units v ≤ 2 ^ 2098
    top nan h p = absurd p
    top (inf s) h p = le_refl (2 ^ 2098)
    top (fin s m e) h p = le_of_lt (units_below s m e h)

-- a pattern below the sign's weight has the sign clear
bits_sign : (v : Float) → T (not (is_nan v)) → to_bits binary64 v < 2 ^ 63 → T (sign_clear v)
unfolding to_bits is_nan
bits_sign nan n l = absurd n
bits_sign (inf true) n l = absurd (omega arith)
bits_sign (inf false) n l = tt
bits_sign (fin true m e) n l = absurd (omega arith)
bits_sign (fin false m e) n l = tt

pub pattern_real : (b : ℕ) → b ≤ 0x7FF0_0000_0000_0000 → T (not (nan_bits binary64 b))
pattern_real b h = subst (λ (x : Bool). T (not x)) (sym (nan_bits_above binary64 b)) (le→nltb 0x7FF0_0000_0000_0000 (b % 2 ^ 63) (omega arith))

pub at_pattern : (b : ℕ) → b ≤ 0x7FF0_0000_0000_0000 → AtPattern b
at_pattern b h =
    let real = subst (λ (x : Bool). T (not x)) (nan_bits_is binary64 b) (pattern_real b h) in
    let bits = to_bits-of_bits binary64 b (omega arith) real in
    record { held = of_bits-fits binary64 b; sign = bits_sign (of_bits binary64 b) real (lt_of_le_of_lt (le_of_eq bits) (omega arith)); bits = bits }
