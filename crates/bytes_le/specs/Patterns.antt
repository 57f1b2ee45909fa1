-- Which bit patterns are a NaN's: with the sign's bit taken off, those above the infinity's.
use Rattle.std.specs.Prelude.{◌≡◌, refl, Bool, true, false, not, ℕ, ◌%◌, ◌^◌, ◌≤◌, ◌<◌, T, Float}
use Rattle.std.proofs.Common.{sym, ap, ◌∙◌, subst, true≢false, lt-ltb, le-ltb}
use Rattle.std.specs.Float.{nan, inf, fin, binary64}
use Rattle.std.specs.Float.Ieee.{of_bits, to_bits, div, ne, is_nan, nan_bits}
use Rattle.std.specs.Float.Ieee.Bits.{nan_bits_is, nan_bits_above}
use Rattle.std.specs.Float.Ieee.Compare.{differs_from_itself, nan_differs}

is_nan_lem : (x : Float) → is_nan x ≡ true → x ≡ nan
unfolding is_nan
is_nan_lem nan h = refl
is_nan_lem (inf s) h = absurd (true≢false (sym h))
is_nan_lem (fin s m e) h = absurd (true≢false (sym h))

quotient : div binary64 (of_bits binary64 0) (of_bits binary64 0) ≡ nan
unfolding div of_bits
quotient = refl

-- 0.0 / 0.0, as a program writes it, is what a NaN's pattern stands for
pub above_is_nan : (b : ℕ) → 0x7FF0_0000_0000_0000 < b % 2 ^ 63 → div binary64 (of_bits binary64 0) (of_bits binary64 0) ≡ of_bits binary64 b
above_is_nan b h = quotient ∙ sym (is_nan_lem (of_bits binary64 b) (sym (nan_bits_is binary64 b) ∙ nan_bits_above binary64 b ∙ lt-ltb 0x7FF0_0000_0000_0000 (b % 2 ^ 63) h))

pub below_is_number : (b : ℕ) → b % 2 ^ 63 ≤ 0x7FF0_0000_0000_0000 → T (not (nan_bits binary64 b))
below_is_number b h = subst (λ (x : Bool). T (not x)) (sym (nan_bits_above binary64 b ∙ le-ltb 0x7FF0_0000_0000_0000 (b % 2 ^ 63) h)) tt

-- the pattern that is written for a NaN
pub nan_pattern : (x : Float) → ne x x ≡ true → 0x7FF8_0000_0000_0000 ≡ to_bits binary64 x
unfolding to_bits
nan_pattern x h = sym (ap (to_bits binary64) (differs_from_itself x (subst T (sym h) tt)))

pub same_is_number : (x : Float) → ne x x ≡ false → T (not (is_nan x))
unfolding is_nan
same_is_number nan h = absurd (true≢false (sym nan_differs ∙ h))
same_is_number (inf s) h = tt
same_is_number (fin s m e) h = tt
