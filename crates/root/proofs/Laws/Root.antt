-- Laws of `specs/Root.antt`.
use Rattle.std.specs.Prelude.{◌≡◌, ℕ, zero, suc, ◌+◌, ◌*◌, ◌^◌, ◌<◌, Bool, true, false, T, pos, refl, Float}
use Rattle.std.proofs.Common.{arith, ltb→lt}
use Rattle.std.specs.Float.{nan, inf, fin}
use Rattle.std.specs.Float.Ieee.{up, down, lt, of_bits}
use Rattle.std.specs.Float.Ieee.Positive.{positive}
use Rattle.complex.specs.Complex.{zero_f, one_f}
use Rattle.root.specs.Units.{in_units}
use Rattle.root.specs.NearestRoot.{nearest_root}
use Rattle.root.specs.Root.{root_of}

-- ---- special values

pub root_zero : (s : Bool) → root_of (fin s 0 (pos 0)) ≡ fin s 0 (pos 0)
unfolding root_of
root_zero s = refl

pub root_inf : root_of (inf false) ≡ inf false
unfolding root_of
root_inf = refl

pub root_nan : root_of nan ≡ nan
unfolding root_of
root_nan = refl

-- below zero, the infinity included and -0 not
pub root_negative : (x : Float) → T (lt x zero_f) → root_of x ≡ nan
unfolding root_of lt of_bits
root_negative nan h = refl
root_negative (inf true) h = refl
root_negative (inf false) h = absurd h
root_negative (fin true zero e) h = absurd (none (up e) (down e) (ltb→lt 0 (0 * up e * 1 + 0 * down e) h))
  where
    none : (u d : ℕ) → 0 < 0 * u * 1 + 0 * d → ⊥
    none u d l = omega arith
root_negative (fin false m e) h = absurd (none (m * up e * 1) (down e) (ltb→lt (m * up e * 1) (0 * down e) h))
  where
    none : (a d : ℕ) → a < 0 * d → ⊥
    none a d l = omega arith
root_negative (fin true (suc m) e) h = refl

-- 1, by its value and as a program writes 1.0
pub root_one : root_of (fin false 1 (pos 0)) ≡ fin false 1 (pos 0)
unfolding root_of
root_one = refl

pub root_one_f : root_of one_f ≡ one_f
unfolding root_of of_bits
root_one_f = refl

-- ---- a finite value above zero

pub root_instance : (x : Float) → T (positive x) → root_of x ≡ nearest_root (in_units x * 2 ^ 1074)
unfolding root_of
root_instance nan p = absurd p
root_instance (inf s) p = absurd p
root_instance (fin true m e) p = absurd p
root_instance (fin false zero e) p = absurd p
root_instance (fin false (suc m) e) p = refl
