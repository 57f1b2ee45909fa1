-- What is proved of the size. `norm_nearest` and `only_nearest` together say which value it is where both parts are finite: the one nearest to the root of the exact sum of squares, ties to even (`Nearest.antt`).
-- `Norm.antt` has the other cases. Assumes nothing.
use Rattle.std.specs.Prelude.{◌≡◌, ℕ, ◌-◌, ◌*◌, ◌^◌, ◌<◌, ◌≤◌, Bool, false, T, ◌↔◌, ℤ, pos, from_bits, refl, Float}
use Rattle.std.proofs.Common.{sym, ap, ◌∙◌, subst, add-zero, add_comm, lt_of_le_of_lt, arith}
use Rattle.std.specs.Float.{inf, fin, binary64}
use Rattle.std.specs.Float.Ieee.{fits, is_nan}
use Rattle.std.specs.Float.Ieee.Positive.{positive}
use Rattle.std.specs.Float.Ieee.Scale.{finite}
use Rattle.complex.specs.declared.Complex.{Complex}
use Rattle.root.specs.Units.{in_units}
use Rattle.root.proofs.Laws.Units.{unsigned_fits}
use Rattle.root.specs.Root.{root_of}
use Rattle.root.proofs.Laws.Root.{root_instance}
use Rattle.root.specs.Nearest.{Candidate, Nearest}
use Rattle.root.proofs.Laws.NearestLaws.{exact_nearest, overflow, overflow_only}
use Rattle.root.specs.NearestRoot.{nearest_root}
use Rattle.root.proofs.Laws.NearestRootLaws.{nearest_root_lem}
use Rattle.root.specs.Norm.{sum_of_squares, norm_of}
use Rattle.root.proofs.Laws.Norm.{norm_finite}
use Rattle.root.proofs.Laws.Theorems.{only_nearest}
use Rattle.root.specs.FromUnits.{Decodes}
use Rattle.root.proofs.Laws.FromUnits.{decoded_real}
use Rattle.root.proofs.Laws.NormMethod.{far}

module _ (a : Complex) (re : T (finite a.re)) (im : T (finite a.im)) where
  abbrev square : ℕ
  square = sum_of_squares a.re a.im

  pub norm_nearest : Nearest (norm_of a) square
  norm_nearest = subst (λ (v : Float). Nearest v square) (sym (norm_finite a re im)) (nearest_root_lem square)

  -- a value whose square is the sum is the size
  pub norm_exact : (y : Float) → Candidate y → square ≡ in_units y * in_units y → norm_of a ≡ y
  norm_exact y C e = only_nearest (norm_of a) y square norm_nearest (exact_nearest y square C e)

  -- where the sum is an f64, the size is its root
  pub norm_root : (x : Float) → T (fits binary64 x) → T (positive x) → square ≡ in_units x * 2 ^ 1074 → norm_of a ≡ root_of x
  norm_root x h p e = norm_finite a re im ∙ ap nearest_root e ∙ sym (root_instance x p)

  -- past the largest value it is the infinity, from 2 ^ 1023 * (2 - 2 ^ -53) on, which is 2 ^ 2098 - 2 ^ 2044 units, and nowhere else
  pub norm_overflow : ((2 ^ 2098 - 2 ^ 2044) * (2 ^ 2098 - 2 ^ 2044) ≤ square) ↔ (norm_of a ≡ inf false)
  norm_overflow = (λ h. only_nearest (norm_of a) (inf false) square norm_nearest (overflow square h), λ e. overflow_only square (subst (λ (v : Float). Nearest v square) e norm_nearest))

-- two zeros, of any signs
pub norm_zero : (s t : Bool) → norm_of (record { re = fin s 0 (pos 0); im = fin t 0 (pos 0) }) ≡ fin false 0 (pos 0)
unfolding norm_of is_nan in_units nearest_root
norm_zero s t = refl

-- a number on the real axis has the size of its real part
pub norm_of_real : (s t : Bool) (m : ℕ) (e : ℤ) → T (fits binary64 (fin s m e)) → norm_of (record { re = fin s m e; im = fin t 0 (pos 0) }) ≡ fin false m e
unfolding in_units
norm_of_real s t m e h = norm_exact (record { re = fin s m e; im = fin t 0 (pos 0) }) tt tt (fin false m e) (record { held = unsigned_fits s m e h; sign = tt }) (add-zero (in_units (fin false m e) * in_units (fin false m e)))

-- from 27 exponents apart on the larger part is the size, whichever it is; x and y are patterns of parts that are not negative
pub norm_far : (x y m e n f : ℕ) → Decodes x m e → Decodes y n f → x < 0x7FF0_0000_0000_0000 → 27 ≤ e - f → (norm_of (record { re = from_bits binary64 x; im = from_bits binary64 y }) ≡ from_bits binary64 x) × (norm_of (record { re = from_bits binary64 y; im = from_bits binary64 x }) ≡ from_bits binary64 x)
norm_far x y m e n f X Y below h =
    let ordered : y ≤ x = omega (arith, X.value, Y.value, Y.few, h) in
    let p = decoded_real x m e X below in
    let q = decoded_real y n f Y (lt_of_le_of_lt ordered below) in
    let larger = sym (far x y m e n f X Y ordered below h) in
    (norm_finite (record { re = from_bits binary64 x; im = from_bits binary64 y }) p q ∙ larger, norm_finite (record { re = from_bits binary64 y; im = from_bits binary64 x }) q p ∙ ap nearest_root (add_comm _ _) ∙ larger)
