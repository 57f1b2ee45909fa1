-- Laws of `specs/HalfRoot.antt`.
use Rattle.std.proofs.Common.{ltb-true, sym, ◌∙◌, subst, inl, inr, zero-add, le_refl, le_trans, le_of_eq, lt_trans, lt_of_le_of_lt, lt_of_lt_of_le, lt_of_not-le, eq-or-lt_of_le, mul-le-mul, add-le-add, lt→ltb, lit<}
use Rattle.std.specs.Prelude.{◌≡◌, ℕ, suc, ◌+◌, ◌-◌, ◌*◌, ◌/◌, ◌%◌, ◌^◌, ◌<◌, ◌≤◌, Bool, true, false, ◌&&◌, ◌||◌, nat_lt, refl, Float}
use Rattle.std.proofs.Math.Path.{ap}
use Rattle.std.proofs.Math.Bool.{or-true, and-eq-true_iff}
use Rattle.std.proofs.Math.Nat.{le_of_suc-le-suc, le_of_mul-le-mul_left}
use Rattle.std.proofs.Math.Decide.{dec_le}
use native.Mathlib.Omega.{arith}
use Rattle.std.specs.Float.Ieee.Bits.{is_true}
use Rattle.std.specs.Float.Ieee.{binary64, units}
use Rattle.root.specs.Units.{Significand, in_units}
use Rattle.root.proofs.Laws.Units.{units_short}
use Rattle.root.specs.Whole.{IsRoot, RootRest, whole_root}
use Rattle.root.proofs.Laws.Whole.{whole_root_lem, root_of_rest, rest_of_root, only_root, side_lt}
use Rattle.root.specs.NearestHalf.{nearest_half}
use Rattle.root.proofs.Laws.NearestHalf.{half_more, half_even, half_few, half_least, nearest_above, nearest_below}
use Rattle.root.specs.Nearest.{Even, Nearest}
use Rattle.root.proofs.Laws.NearestLaws.{overflow}
use Rattle.root.proofs.Laws.FromUnits.{units_count, units_candidate, units_bits, units_infinite}
use Rattle.root.specs.Cut.{Cut}
use Rattle.root.specs.Wide.{whole}
use Rattle.root.specs.declared.wide.Wide.{Wide}
use Rattle.root.specs.HalfRoot.{half_root, Halvable}

-- ---- w is the whole root of 4 * q in units of G * G, which is twice q's, and h its half

module _ (q g w r : ℕ) (R : RootRest (4 * q / (2 ^ g * 2 ^ g)) w r) (long : 0 < g → 2 ^ 53 ≤ w) (short : w < 2 ^ 54) where
  abbrev G : ℕ
  G = 2 ^ g

  abbrev h : ℕ
  h = nearest_half w (nat_lt 0 (4 * q % (G * G)) || nat_lt 0 r)

  digits : Significand h g
  digits = (half_few w (nat_lt 0 (4 * q % (G * G)) || nat_lt 0 r) short, λ p. half_least w (nat_lt 0 (4 * q % (G * G)) || nat_lt 0 r) (long p))

  -- where h is even, so is the last digit of the pattern
  even_value : h * G < 2 ^ 2098 → h % 2 ≡ 0 → Even (units binary64 false h g)
  even_value f e = ap (λ (b : ℕ). b % 2) (units_bits h g f digits) ∙ last g h e
    where
      last : (g h : ℕ) → h % 2 ≡ 0 → (g * 2 ^ 52 + h) % 2 ≡ 0
      last g h e = omega arith

  -- the midpoint of the largest value and the infinity is not above the root, where h * G is no value any more
  past : 2 ^ 2098 ≤ h * G → (2 ^ 2098 - 2 ^ 2044) * (2 ^ 2098 - 2 ^ 2044) ≤ q
  past o =
      let b = (nearest_below (4 * q) w r g R long (2 ^ 53 - 1) 2045 (lit< tt) (lt_of_lt_of_le (lit< tt) o)).0 in
      let s : 2 * (2 ^ 2098 - 2 ^ 2044) ≤ (2 ^ 53 - 1) * 2 ^ 2045 + h * G = le_trans (le_of_eq middle) (add-le-add (le_refl ((2 ^ 53 - 1) * 2 ^ 2045)) o) in
      le_of_mul-le-mul_left {k = 4} (le_trans (le_of_eq (four (2 ^ 2098 - 2 ^ 2044))) (le_trans (mul-le-mul s s) b)) (lit< tt)
    where
      middle : 2 * (2 ^ 2098 - 2 ^ 2044) ≡ (2 ^ 53 - 1) * 2 ^ 2045 + 2 ^ 2098
      middle = refl

      four : (t : ℕ) → 4 * (t * t) ≡ 2 * t * (2 * t)
      four t = omega arith

  pub half_nearest : Nearest (units binary64 false h g) q
  half_nearest = elim (dec_le (2 ^ 2098) (h * G)) [
    | yes o ↦ subst (λ (v : Float). Nearest v q) (sym (units_infinite h g o)) (overflow q (past o))
    | no n ↦
        let f = lt_of_not-le n in
        let c = units_count h g f in
        record {
          value = units_candidate h g f digits.0;
          above = λ y C l.
              let k = units_short y C.held C.sign in
              let b = nearest_above (4 * q) w r g R long k.m k.j k.few (subst (λ (x : ℕ). h * G < x) k.is (subst (λ (x : ℕ). x < in_units y) c l)) in
              rw (c, k.is) (b.0, λ e. even_value f (b.1 e));
          below = λ y C l.
              let k = units_short y C.held C.sign in
              let b = nearest_below (4 * q) w r g R long k.m k.j k.few (subst (λ (x : ℕ). x < h * G) k.is (subst (λ (x : ℕ). in_units y < x) c l)) in
              rw (c, k.is) (b.0, λ e. even_value f (b.1 e));
        }
  ]

-- ---- as the program finds it: N is 4 * q in units of G * G, cut to a whole number of at most 108 digits

module _ (q g N : ℕ) (cut : Bool) (C : Cut (4 * q) (2 ^ g * 2 ^ g) N cut) (high : N < 2 ^ 108) (low : 0 < g → 2 ^ 106 ≤ N) where
  abbrev w : ℕ
  w = whole_root 54 N

  is_root : IsRoot N w
  is_root = whole_root_lem 54 N high

  pub cut_nearest : Nearest (half_root N cut g) q
  unfolding half_root
  cut_nearest = rw C.left (half_nearest q g w (N - w * w) (subst (λ (x : ℕ). RootRest x w (N - w * w)) C.value (rest_of_root N w is_root)) (λ p. le_of_suc-le-suc (side_lt (2 ^ 53) (suc w) (lt_of_le_of_lt (low p) is_root.high))) (side_lt w (2 ^ 54) (lt_of_le_of_lt is_root.low high)))

-- n is strictly between the squares of 2 * h - 1 and 2 * h + 1; then half of its root is rounded to h, whatever is cut off
module _ (n : Wide) (g h : ℕ) (A : Halvable n g) (some : 0 < h) (t : (nat_lt ((2 * h - 1) * (2 * h - 1)) (whole n) && nat_lt (whole n) ((2 * h + 1) * (2 * h + 1))) ≡ true) where
  both : (nat_lt ((2 * h - 1) * (2 * h - 1)) (whole n) ≡ true) × (nat_lt (whole n) ((2 * h + 1) * (2 * h + 1)) ≡ true)
  both = (and-eq-true_iff (nat_lt ((2 * h - 1) * (2 * h - 1)) (whole n)) (nat_lt (whole n) ((2 * h + 1) * (2 * h + 1)))).0 t

  above : (2 * h - 1) * (2 * h - 1) < whole n
  above = ltb-true _ _ both.0

  below : whole n < (2 * h + 1) * (2 * h + 1)
  below = ltb-true _ _ both.1

  abbrev v : ℕ
  v = whole_root 54 (whole n)

  root_v : IsRoot (whole n) v
  root_v = whole_root_lem 54 (whole n) (omega (arith, A.upper, n.low))

  abbrev more : Bool
  more = n.cut || nat_lt 0 (whole n - v * v)

  is_half : nearest_half v more ≡ h
  is_half = elim (eq-or-lt_of_le (le_of_suc-le-suc (side_lt (2 * h - 1) (suc v) (lt_trans above root_v.high)))) [
    | inl e ↦ ap (nearest_half v) (some_more (omega (arith, subst (λ (x : ℕ). x * x < whole n) e above))) ∙ half_more v ∙ odd v e
    | inr l ↦ ap (λ (x : ℕ). nearest_half x more) (even v l (side_lt v (2 * h + 1) (lt_of_le_of_lt root_v.low below))) ∙ half_even h more
  ]
    where
      some_more : 0 < whole n - v * v → more ≡ true
      some_more p = ap (λ (b : Bool). n.cut || b) (is_true (nat_lt 0 (whole n - v * v)) (lt→ltb 0 (whole n - v * v) p)) ∙ or-true n.cut

      odd : (v : ℕ) → 2 * h - 1 ≡ v → (v + 1) / 2 ≡ h
      odd v e = omega (arith, some)

      even : (v : ℕ) → 2 * h - 1 < v → v < 2 * h + 1 → v ≡ 2 * h
      even v l k = omega (arith, some)

  pub tested_digits : Significand h g
  tested_digits = subst (λ (x : ℕ). Significand x g) is_half (half_few v more (side_lt v (2 ^ 54) (lt_of_le_of_lt root_v.low (omega (arith, A.upper, n.low)))), λ p. half_least v more (le_of_suc-le-suc (side_lt (2 ^ 53) (suc v) (lt_of_le_of_lt (omega (arith, A.full p)) root_v.high))))

  pub tested : units binary64 false h g ≡ half_root (whole n) n.cut g
  unfolding half_root
  tested = ap (λ (x : ℕ). units binary64 false x g) (sym is_half)

-- the whole root w of n is found, with what n is above its square
module _ (w r : ℕ) (rest : r ≤ 2 * w) where
  pub half_long : (cut : Bool) → 2 ^ 106 ≤ w * w + r → 2 ^ 52 ≤ nearest_half w (cut || nat_lt 0 r)
  half_long cut l = half_least w (cut || nat_lt 0 r) (le_of_suc-le-suc (side_lt (2 ^ 53) (suc w) (omega (arith, rest))))

  pub half_found : (n : Wide) (g : ℕ) → n.hi < 2 ^ 54 → w * w + r ≡ whole n → units binary64 false (nearest_half w (n.cut || nat_lt 0 r)) g ≡ half_root (whole n) n.cut g
  unfolding half_root
  half_found n g h e =
      let N = whole n in
      let f : w ≡ whole_root 54 N = only_root N w (whole_root 54 N) (root_of_rest N w r (record { value = e; rest = rest })) (whole_root_lem 54 N (omega (arith, h, n.low))) in
      let d : r ≡ N - w * w = omega (arith, e) in
      ap (λ (x : ℕ). units binary64 false (nearest_half w (n.cut || nat_lt 0 x)) g) d ∙ ap (λ (x : ℕ). units binary64 false (nearest_half x (n.cut || nat_lt 0 (N - x * x))) g) f

-- the digits of hi, and then those of lo, are found in two runs
module _ (hi lo : ℕ) (H : hi < 2 ^ 54) (L : lo < 2 ^ 54) (p s : ℕ) (P : RootRest ((0 * 0 + 0) * 2 ^ 54 + hi) p s) where
  first : RootRest hi p s
  first = subst (λ (x : ℕ). RootRest x p s) (zero-add hi) P

  pub first_few : p < 2 ^ 27
  first_few = side_lt p (2 ^ 27) (lt_of_le_of_lt (root_of_rest hi p s first).low H)

  module _ (w r : ℕ) (W : RootRest ((p * p + s) * 2 ^ 54 + lo) w r) (g : ℕ) (full : 0 < g → 2 ^ 52 ≤ hi) (short : w < 2 ^ 54) where
    pub half_digits : (cut : Bool) → Significand (nearest_half w (cut || nat_lt 0 r)) g
    half_digits cut = (half_few w (cut || nat_lt 0 r) short, λ l. half_long w r W.rest cut (omega (arith, full l, first.value, W.value)))
