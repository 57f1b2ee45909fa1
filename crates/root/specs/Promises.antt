-- What is promised of the root and of the size, one field each; `promised` of proofs/Laws proves them. docs/PROMISES.md names these fields.
use Rattle.std.specs.Prelude.{◌≡◌, ℕ, ◌-◌, ◌*◌, ◌^◌, ◌<◌, ◌≤◌, Bool, true, false, not, ◌||◌, T, ◌↔◌, ℤ, pos, from_bits, is_nan, Float}
use Rattle.std.specs.Float.{nan, inf, fin, binary64}
use Rattle.std.specs.Float.Ieee.{fits, lt}
use Rattle.std.specs.Float.Ieee.Positive.{positive}
use Rattle.std.specs.Float.Ieee.Scale.{finite}
use Rattle.complex.specs.Complex.{zero_f, one_f}
use Rattle.complex.specs.declared.Complex.{Complex}
use Rattle.root.specs.Units.{in_units}
use Rattle.root.specs.Root.{root_of}
use Rattle.root.specs.Nearest.{Candidate, Nearest, square_of_sum}
use Rattle.root.specs.NearestRoot.{nearest_root}
use Rattle.root.specs.Norm.{sum_of_squares, norm_of, infinite}
use Rattle.root.specs.FromUnits.{Decodes}
use Rattle.root.specs.Marked.{table, all_hold}

pub record Promised : Type 0 where
  -- the nearest f64, the only one, and never at a tie
  pub root_nearest : (x : Float) → T (fits binary64 x) → T (positive x) → Nearest (root_of x) (in_units x * 2 ^ 1074)
  pub only_nearest : (r s : Float) (q : ℕ) → Nearest r q → Nearest s q → r ≡ s
  pub root_no_tie : (x y : Float) → T (fits binary64 x) → T (positive x) → Candidate y → 4 * (in_units x * 2 ^ 1074) ≡ square_of_sum (root_of x) y → y ≡ root_of x
  -- zeros of either sign, infinity, NaN, below zero; and 1, exactly
  pub root_zero : (s : Bool) → root_of (fin s 0 (pos 0)) ≡ fin s 0 (pos 0)
  pub root_inf : root_of (inf false) ≡ inf false
  pub root_nan : root_of nan ≡ nan
  pub root_negative : (x : Float) → T (lt x zero_f) → root_of x ≡ nan
  pub root_one_f : root_of one_f ≡ one_f
  -- the size of two finite parts: the nearest f64 to the root of the exact sum of squares, of which the root is a case; past the largest f64, and there alone, the infinity; from 27 exponents apart on the larger part
  pub norm_nearest : (a : Complex) → T (finite a.re) → T (finite a.im) → Nearest (norm_of a) (sum_of_squares a.re a.im)
  pub norm_overflow : (a : Complex) → T (finite a.re) → T (finite a.im) → ((2 ^ 2098 - 2 ^ 2044) * (2 ^ 2098 - 2 ^ 2044) ≤ sum_of_squares a.re a.im) ↔ (norm_of a ≡ inf false)
  pub norm_root : (a : Complex) → T (finite a.re) → T (finite a.im) → (x : Float) → T (fits binary64 x) → T (positive x) → sum_of_squares a.re a.im ≡ in_units x * 2 ^ 1074 → norm_of a ≡ root_of x
  pub root_instance : (x : Float) → T (positive x) → root_of x ≡ nearest_root (in_units x * 2 ^ 1074)
  pub norm_far : (x y m e n f : ℕ) → Decodes x m e → Decodes y n f → x < 0x7FF0_0000_0000_0000 → 27 ≤ e - f → (norm_of (record { re = from_bits binary64 x; im = from_bits binary64 y }) ≡ from_bits binary64 x) × (norm_of (record { re = from_bits binary64 y; im = from_bits binary64 x }) ≡ from_bits binary64 x)
  -- an infinite part, else a NaN part; two zeros; a number on the real axis
  pub norm_infinite : (a : Complex) → T (infinite a.re || infinite a.im) → norm_of a ≡ inf false
  pub norm_nan : (a : Complex) → T (not (infinite a.re || infinite a.im)) → T (is_nan a.re || is_nan a.im) → norm_of a ≡ nan
  pub norm_zero : (s t : Bool) → norm_of (record { re = fin s 0 (pos 0); im = fin t 0 (pos 0) }) ≡ fin false 0 (pos 0)
  pub norm_of_real : (s t : Bool) (m : ℕ) (e : ℤ) → T (fits binary64 (fin s m e)) → norm_of (record { re = fin s m e; im = fin t 0 (pos 0) }) ≡ fin false m e
  -- a table of sizes by their bits
  pub marked : all_hold table ≡ true
