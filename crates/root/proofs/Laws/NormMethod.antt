-- Laws of `specs/NormMethod.antt`.
use Rattle.std.specs.Prelude.{◌≡◌, ℕ, zero, suc, ◌+◌, ◌-◌, ◌*◌, ◌/◌, ◌%◌, ◌^◌, ◌<◌, ◌≤◌, Bool, false, ◌||◌, from_bits, nat_lt, refl, Float}
use Rattle.std.proofs.Common.{sym, ap, ap₂, ◌∙◌, subst, inl, inr, eq-zero-or-pos, zero-le, le_trans, le_of_eq, lt_of_le_of_lt, lt_of_lt_of_le, mul-pos, mul-le-mul, mul-le-mul_left, le-add_right, div-lt_iff_lt-mul, div-le_self, le_of_suc-le-suc, lt_of_not-le, arith, lit<, pow_pos, pow-add, pow_mono}
use Rattle.std.proofs.Math.Nat.{mul-mul-mul_comm}
use Rattle.std.specs.Float.{binary64}
use Rattle.std.specs.Float.Ieee.{units}
use Rattle.std.specs.Float.Ieee.Digits.{back}
use Rattle.root.specs.Whole.{RootRest}
use Rattle.root.proofs.Laws.Whole.{square_lt}
use Rattle.root.proofs.Laws.NearestHalf.{half_even}
use Rattle.root.specs.Nearest.{Nearest}
use Rattle.root.specs.NearestRoot.{nearest_root}
use Rattle.root.specs.Norm.{sum_of_squares}
use Rattle.root.proofs.Laws.PowersOfFour.{four_pow, four_square, four_pos}
use Rattle.root.specs.FromUnits.{Decodes}
use Rattle.root.proofs.Laws.FromUnits.{decoded_value, decoded_units}
use Rattle.root.specs.Cut.{Cut}
use Rattle.root.proofs.Laws.Cut.{cut_whole, cut_again, cut_plus, cut_scaled}
use Rattle.root.specs.HalfRoot.{half_root}
use Rattle.root.proofs.Laws.HalfRoot.{half_nearest, cut_nearest}
use Rattle.root.proofs.Laws.NearestRootLaws.{nearest_root_lem}
use Rattle.root.proofs.Laws.Theorems.{only_nearest}
use Rattle.root.specs.Wide.{whole}
use Rattle.root.specs.declared.wide.Wide.{Wide}
use Rattle.root.specs.NormMethod.{square, scaled_sum, cut_off}

pub square_below : (m : ℕ) → m < 2 ^ 53 → square m < 2 ^ 108
square_below m h = square_lt (2 * m) (2 ^ 54) (omega arith)

-- the sum has 106 digits at least, unless the larger part is subnormal
pub sum_low : (a b k : ℕ) → 2 ^ 52 ≤ a → 2 ^ 106 ≤ scaled_sum a b k
sum_low a b k h = let A : 2 ^ 53 ≤ 2 * a = omega arith in le_trans (mul-le-mul A A) (le-add_right (square a) (square b / 4 ^ k))

-- without the digit that it has more than 108, it has 106 to 108
pub longer : (n : Wide) → whole n < 2 ^ 109 → let j = n.hi / 2 ^ 54 in (whole n / 4 ^ j < 2 ^ 108) × (2 ^ 106 ≤ whole n → 2 ^ 106 ≤ whole n / 4 ^ j)
longer n h = at (n.hi / 2 ^ 54) refl
  where
    at : (j : ℕ) → n.hi / 2 ^ 54 ≡ j → (whole n / 4 ^ j < 2 ^ 108) × (2 ^ 106 ≤ whole n → 2 ^ 106 ≤ whole n / 4 ^ j)
    at zero q = (omega (arith, n.low), λ l. omega arith)
    at (suc zero) q = (omega arith, λ l. omega arith)
    at (suc (suc j)) q = absurd (omega arith)

-- ---- x and y are the patterns of a * 2 ^ e and b * 2 ^ f units

module _ (x y a e b f : ℕ) (X : Decodes x a e) (Y : Decodes y b f) (ordered : y ≤ x) (below : x < 0x7FF0_0000_0000_0000) where
  pub exponents_ordered : f ≤ e
  exponents_ordered = le_of_suc-le-suc (lt_of_not-le (λ (l : e < f). over X.value Y.value X.few l (Y.full (lt_of_le_of_lt zero-le l))))
    where
      over : x ≡ e * 2 ^ 52 + a → y ≡ f * 2 ^ 52 + b → a < 2 ^ 53 → e < f → 2 ^ 52 ≤ b → ⊥
      over p q A l B = omega (arith, ordered)

  abbrev pub distance : ℕ
  distance = e - f

  abbrev pub exact : ℕ
  exact = sum_of_squares (from_bits binary64 x) (from_bits binary64 y)

  abbrev total : ℕ
  total = scaled_sum a b distance

  abbrev cut : Bool
  cut = cut_off b distance

  pub sum_cut : Cut (4 * exact) (2 ^ e * 2 ^ e) total cut
  sum_cut =
      let k = distance in
      let K = four_pos k in
      let one : 0 < 1 * 4 ^ k = mul-pos (lit< tt) K in
      let C = cut_scaled (cut_plus (cut_again (cut_whole (square b)) (lit< tt) (4 ^ k) K) one (square a)) one (2 ^ f * 2 ^ f) (mul-pos (pow_pos f) (pow_pos f)) in
      subst (λ (n : ℕ). Cut n (2 ^ e * 2 ^ e) total cut) (sym four_times) (subst (λ (d : ℕ). Cut ((square a * (1 * 4 ^ k) + square b) * (2 ^ f * 2 ^ f)) d total cut) (sym units_squared) C)
    where
      larger : 2 ^ e ≡ 2 ^ distance * 2 ^ f
      larger = ap (λ (z : ℕ). 2 ^ z) (sym (back e f exponents_ordered)) ∙ pow-add 2 distance f

      units_squared : 2 ^ e * 2 ^ e ≡ 1 * 4 ^ distance * (2 ^ f * 2 ^ f)
      units_squared = rw (larger, four_square distance) (regroup (2 ^ distance) (2 ^ f))
        where
          regroup : (K F : ℕ) → K * F * (K * F) ≡ 1 * (K * K) * (F * F)
          regroup K F = omega arith

      parts : exact ≡ a * 2 ^ e * (a * 2 ^ e) + b * 2 ^ f * (b * 2 ^ f)
      parts = ap₂ (λ (u v : ℕ). u * u + v * v) (decoded_units x a e X below) (decoded_units y b f Y (lt_of_le_of_lt ordered below))

      four_times : 4 * exact ≡ (square a * (1 * 4 ^ distance) + square b) * (2 ^ f * 2 ^ f)
      four_times = ap (λ (n : ℕ). 4 * n) parts ∙ rw (larger, four_square distance) (regroup (2 ^ distance) (2 ^ f))
        where
          regroup : (K F : ℕ) → 4 * (a * (K * F) * (a * (K * F)) + b * F * (b * F)) ≡ (2 * a * (2 * a) * (1 * (K * K)) + 2 * b * (2 * b)) * (F * F)
          regroup K F = omega arith

  found : (v : Float) → Nearest v exact → v ≡ nearest_root exact
  found v N = only_nearest v (nearest_root exact) exact N (nearest_root_lem exact)

  -- ---- from 27 exponents apart on, the smaller square is below half of the larger part's last digit

  pub far : 27 ≤ distance → from_bits binary64 x ≡ nearest_root exact
  far h = found (from_bits binary64 x) (subst (λ (v : Float). Nearest v exact) (ap (λ (m : ℕ). units binary64 false m e) (half_even a more) ∙ sym (decoded_value x a e X below)) (half_nearest exact e (2 * a) small R (λ _. omega (arith, full)) (omega (arith, X.few))))
    where
      small : ℕ
      small = square b / 4 ^ distance

      full : 2 ^ 52 ≤ a
      full = X.full (omega (arith, h))

      apart : 54 ≤ 2 * distance
      apart = omega (arith, h)

      small_lt : small < 2 ^ 54
      small_lt = (div-lt_iff_lt-mul (four_pos distance)).1 (lt_of_lt_of_le (square_below b Y.few) (le_trans (le_of_eq (pow-add 2 54 54)) (mul-le-mul_left (2 ^ 54) (le_trans (pow_mono apart) (le_of_eq (sym (four_pow distance)))))))

      R : RootRest (4 * exact / (2 ^ e * 2 ^ e)) (2 * a) small
      R = record { value = sum_cut.value; rest = omega (arith, small_lt, full) }

      more : Bool
      more = nat_lt 0 (4 * exact % (2 ^ e * 2 ^ e)) || nat_lt 0 small

  pub sum_high : total < 2 ^ 109
  sum_high = below_both (square a) (square b) (square b / 4 ^ distance) (square_below a X.few) (square_below b Y.few) (div-le_self (square b) (4 ^ distance))
    where
      below_both : (A B C : ℕ) → A < 2 ^ 108 → B < 2 ^ 108 → C ≤ B → A + C < 2 ^ 109
      below_both A B C h k l = omega arith

  -- ---- nearer, N / 4 ^ j has 108 digits at most, where j is the digit that the sum N has more than those

  pub near : (j : ℕ) → total / 4 ^ j < 2 ^ 108 → (0 < e + j → 2 ^ 106 ≤ total / 4 ^ j) → half_root (total / 4 ^ j) (cut || nat_lt 0 (total % 4 ^ j)) (e + j) ≡ nearest_root exact
  near j high low = found _ (cut_nearest exact (e + j) (total / 4 ^ j) (cut || nat_lt 0 (total % 4 ^ j)) again high low)
    where
      again : Cut (4 * exact) (2 ^ (e + j) * 2 ^ (e + j)) (total / 4 ^ j) (cut || nat_lt 0 (total % 4 ^ j))
      again = subst (λ (d : ℕ). Cut (4 * exact) d (total / 4 ^ j) (cut || nat_lt 0 (total % 4 ^ j))) larger (cut_again sum_cut (mul-pos (pow_pos e) (pow_pos e)) (4 ^ j) (four_pos j))
        where
          larger : 2 ^ e * 2 ^ e * 4 ^ j ≡ 2 ^ (e + j) * 2 ^ (e + j)
          larger = rw (pow-add 2 e j, four_square j) (mul-mul-mul_comm (2 ^ e) (2 ^ e) (2 ^ j) (2 ^ j))

  module _ (hi lo : ℕ) (words : hi * 2 ^ 54 + lo ≡ total) (L : lo < 2 ^ 54) where
    abbrev j : ℕ
    j = hi / 2 ^ 54

    pub longer_le : j ≤ 1
    longer_le = omega (arith, words, sum_high)

    pub longer_range : (total / 4 ^ j < 2 ^ 108) × (0 < e + j → 2 ^ 106 ≤ total / 4 ^ j)
    longer_range = let r = subst (λ (n : ℕ). (n / 4 ^ j < 2 ^ 108) × (2 ^ 106 ≤ n → 2 ^ 106 ≤ n / 4 ^ j)) words (longer (record { hi = hi; lo = lo; cut = cut; low = L }) (omega (arith, words, sum_high))) in (r.0, λ p. r.1 (elim (eq-zero-or-pos e) [ inl z ↦ omega (arith, words, z, p) | inr l ↦ sum_low a b distance (X.full l) ]))
