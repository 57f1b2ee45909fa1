-- Laws of `specs/Patterns.antt`.
use Rattle.std.specs.Prelude.{◌≡◌, ℕ, zero, suc, ◌+◌, ◌%◌, ◌^◌, ◌<◌, ◌≤◌, Bool, true, false, cond, T, ℤ, Float}
use Rattle.std.proofs.Math.Path.{refl}
use Rattle.std.proofs.Common.{sym, ap, ◌∙◌, subst, true≢false, lt_irrefl, lt_trans, not-le_of_lt, zero-mul, mod-eq_of_lt, arith, lit<}
use Rattle.std.proofs.Math.Nat.{zero-div}
use Rattle.std.specs.Float.{nan, inf, fin, binary64}
use Rattle.std.specs.Float.Ieee.{up, down, fits, is_nan, of_bits, to_bits}
use Rattle.std.specs.Float.Ieee.Bits.{of_bits-to_bits}
use Rattle.std.specs.Float.Ieee.Fits.{inf-fits}
use Rattle.root.specs.Units.{in_units}
use Rattle.root.proofs.Laws.Units.{unsigned_fits, units_below, bits_lt}
use Rattle.root.specs.Root.{root_of}
use Rattle.root.proofs.Laws.Root.{root_nan, root_one_f}
use Rattle.root.specs.Patterns.{top}

finite_below : (m : ℕ) (e : ℤ) → T (fits binary64 (fin false m e)) → to_bits binary64 (fin false m e) < top
unfolding to_bits in_units
finite_below m e h = bits_lt (fin false m e) (inf false) h (inf-fits binary64 false) tt tt (units_below false m e h)

pub without_sign : (s : Bool) (m : ℕ) (e : ℤ) → T (fits binary64 (fin false m e)) → to_bits binary64 (fin s m e) % 2 ^ 63 ≡ to_bits binary64 (fin false m e)
unfolding to_bits
without_sign s m e h = ap (λ (x : ℕ). x % 2 ^ 63) (signed s m e) ∙ cut s (to_bits binary64 (fin false m e)) (finite_below m e h)
  where
    signed : (s : Bool) (m : ℕ) (e : ℤ) → to_bits binary64 (fin s m e) ≡ cond s (2 ^ 63) 0 + to_bits binary64 (fin false m e)
    signed s m e = grouped (cond s (2 ^ 63) 0) _ _
      where
        grouped : (S A B : ℕ) → S + A + B ≡ S + (0 + A + B)
        grouped S A B = omega arith

    cut : (s : Bool) (b : ℕ) → b < top → (cond s (2 ^ 63) 0 + b) % 2 ^ 63 ≡ b
    cut true b h = omega arith
    cut false b h = omega arith

pub finite_magnitude : (s : Bool) (m : ℕ) (e : ℤ) → T (fits binary64 (fin s m e)) → to_bits binary64 (fin s m e) % 2 ^ 63 < top
finite_magnitude s m e h = let u = unsigned_fits s m e h in subst (λ (b : ℕ). b < top) (sym (without_sign s m e u)) (finite_below m e u)

pub nan_above : top < to_bits binary64 nan % 2 ^ 63
unfolding to_bits
nan_above = lit< tt

pub infinite_magnitude : (s : Bool) → to_bits binary64 (inf s) % 2 ^ 63 ≡ top
unfolding to_bits
infinite_magnitude true = refl
infinite_magnitude false = refl

minus_zero : (e : ℤ) → to_bits binary64 (fin true zero e) ≡ 2 ^ 63
unfolding to_bits
minus_zero e = rw (zero-mul (up e), zero-div (down e)) refl

-- ---- the root of x by its pattern

pub nan_root : (x : Float) → is_nan x ≡ true → x ≡ root_of x
unfolding is_nan
nan_root nan h = sym root_nan
nan_root (inf s) h = absurd (true≢false (sym h))
nan_root (fin s m e) h = absurd (true≢false (sym h))

module _ (x : Float) (held : T (fits binary64 x)) where
  pub by_pattern : of_bits binary64 (to_bits binary64 x) ≡ x
  by_pattern = of_bits-to_bits binary64 x held

  itself : (b : ℕ) → root_of (of_bits binary64 b) ≡ of_bits binary64 b → to_bits binary64 x ≡ b → x ≡ root_of x
  itself b r e = let v : x ≡ of_bits binary64 b = sym by_pattern ∙ ap (of_bits binary64) e in v ∙ sym r ∙ ap root_of (sym v)

  pub zero_root : to_bits binary64 x ≡ 0 → x ≡ root_of x
  unfolding root_of of_bits
  zero_root = itself 0 refl

  pub minus_zero_root : to_bits binary64 x ≡ 2 ^ 63 → x ≡ root_of x
  unfolding root_of of_bits
  minus_zero_root = itself (2 ^ 63) refl

  pub one_root : to_bits binary64 x ≡ 0x3FF0_0000_0000_0000 → x ≡ root_of x
  one_root = itself 0x3FF0_0000_0000_0000 root_one_f

pub below_root : (x : Float) → T (fits binary64 x) → 2 ^ 63 < to_bits binary64 x → nan ≡ root_of x
unfolding root_of to_bits
below_root nan h l = refl
below_root (inf true) h l = refl
below_root (inf false) h l = absurd (omega arith)
below_root (fin true zero e) h l = absurd (lt_irrefl (2 ^ 63) (subst (λ (b : ℕ). 2 ^ 63 < b) (minus_zero e) l))
below_root (fin true (suc m) e) h l = refl
below_root (fin false m e) h l = absurd (lt_irrefl (2 ^ 63) (lt_trans l (lt_trans (finite_below m e h) (lit< tt))))

pub top_root : (x : Float) → T (fits binary64 x) → top ≤ to_bits binary64 x → to_bits binary64 x < 2 ^ 63 → x ≡ root_of x
unfolding root_of to_bits
top_root nan h l k = refl
top_root (inf true) h l k = absurd (omega arith)
top_root (inf false) h l k = refl
top_root (fin s m e) h l k = absurd (not-le_of_lt (finite_magnitude s m e h) (subst (λ (b : ℕ). top ≤ b) (sym (mod-eq_of_lt k)) l))

-- f64::NAN, which the program returns where there is no root and no size
pub nan_value : of_bits binary64 0x7FF8_0000_0000_0000 ≡ nan
unfolding of_bits
nan_value = refl
