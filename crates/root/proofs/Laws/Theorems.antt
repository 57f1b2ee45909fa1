-- What is proved of the root. `root_nearest` and `only_nearest` together say which value `root_of x` is: the one that IEEE 754-2019 asks for (`Nearest.antt`). `NormTheorems.antt` has the same of the size. Assumes nothing.
use Rattle.std.specs.Prelude.{◌≡◌, ℕ, zero, suc, ◌+◌, ◌*◌, ◌/◌, ◌%◌, ◌^◌, ◌<◌, ◌≤◌, true, false, not, T, Float}
use Rattle.std.proofs.Common.{sym, ap, ◌∙◌, subst, zero-lt-suc, le_of_eq, le_of_lt, lt_trans, lt_of_le_of_lt, lt_of_lt_of_le, mul-add, mul_assoc, mul-le-mul_right, mul-lt-mul_of_pos_right, arith, lt→ltb, lit<, pow_pos, pow-add, pow_mono, shl_lt}
use Rattle.std.proofs.Math.Nat.{two-pow-succ}
use Rattle.std.proofs.Math.Arith.{le→nltb}
use Rattle.std.specs.Float.{nan, inf, fin, binary64}
use Rattle.std.specs.Float.Ieee.{up, down, fits, lt, units, of_bits}
use Rattle.std.specs.Float.Ieee.Fits.{nan-fits, inf-fits}
use Rattle.std.specs.Float.Ieee.Positive.{positive}
use Rattle.complex.specs.Complex.{zero_f}
use Rattle.root.specs.Units.{in_units}
use Rattle.root.proofs.Laws.Units.{units_short, four_units, positive_sign, positive_below, same_units, clear_not_negative}
use Rattle.root.proofs.Laws.PowersOfFour.{four_pow}
use Rattle.root.proofs.Laws.Whole.{side_lt}
use Rattle.root.specs.Root.{root_of}
use Rattle.root.proofs.Laws.Root.{root_instance}
use Rattle.root.specs.Nearest.{Candidate, Nearest, square_of_sum}
use Rattle.root.proofs.Laws.NearestLaws.{neither, not_both, exact_nearest, nearest_grows}
use Rattle.root.proofs.Laws.NearestRootLaws.{nearest_root_lem}
use Rattle.root.proofs.Laws.FromUnits.{units_count, units_candidate}
use Rattle.root.proofs.Laws.NoTie.{short_root}

-- `Nearest` holds of one value, whatever the square q, ties and overflow included
pub only_nearest : (r s : Float) (q : ℕ) → Nearest r q → Nearest s q → r ≡ s
only_nearest r s q R S = neither r s R.value S.value (not_both r s q R S) (not_both s r q S R)

-- the root of a finite x above zero, subnormal ones included: the square q is x, which is in_units x * 2 ^ 1074 times 2 ^ -2148
pub root_nearest : (x : Float) → T (fits binary64 x) → T (positive x) → Nearest (root_of x) (in_units x * 2 ^ 1074)
root_nearest x h p = subst (λ (v : Float). Nearest v (in_units x * 2 ^ 1074)) (sym (root_instance x p)) (nearest_root_lem (in_units x * 2 ^ 1074))

-- the root of y * y is y, where y * y is exact
pub root_of_square : (x y : Float) → T (fits binary64 x) → T (positive x) → Candidate y → in_units x * 2 ^ 1074 ≡ in_units y * in_units y → root_of x ≡ y
root_of_square x y h p C e = only_nearest (root_of x) y (in_units x * 2 ^ 1074) (root_nearest x h p) (exact_nearest y (in_units x * 2 ^ 1074) C e)

-- The root lies at no midpoint but where it is exact, so the rule for ties is never asked: half of the sum of two values, where its square is a value x, is a value z as well, and so the root.
pub root_no_tie : (x y : Float) → T (fits binary64 x) → T (positive x) → Candidate y → 4 * (in_units x * 2 ^ 1074) ≡ square_of_sum (root_of x) y → y ≡ root_of x
root_no_tie x y h p C e =
    let S = units_short x h (positive_sign x p) in
    let k = S.j / 2 + 537 in
    let sum = in_units (root_of x) + in_units y in
    let t = short_root (suc k) sum (S.m * 2 ^ (S.j % 2)) (lt_of_lt_of_le (shl_lt 53 (S.j % 2) S.few) (pow_mono (long S.j))) (sym e ∙ ap (λ (n : ℕ). 4 * (n * 2 ^ 1074)) S.is ∙ fours S.m S.j) in
    let u = t.0 * 2 ^ k in
    let twice : sum ≡ u + u = t.2 ∙ ap (λ (n : ℕ). t.0 * n) (two-pow-succ k) ∙ mul-add t.0 (2 ^ k) (2 ^ k) in
    let square : in_units x * 2 ^ 1074 ≡ u * u = quarter (in_units x * 2 ^ 1074) u (e ∙ ap (λ (n : ℕ). n * n) twice) in
    let finite : u < 2 ^ 2098 = side_lt u (2 ^ 2098) (lt_of_le_of_lt (le_of_eq (sym square)) (below (in_units x) (positive_below x h p))) in
    let z = units binary64 false t.0 k in
    let count = units_count t.0 k finite in
    let is = root_of_square x z h p (units_candidate t.0 k finite (le_of_lt (lt_trans t.1 (lit< tt)))) (rw count square) in
    let R = (root_nearest x h p).value in
    same_units y (root_of x) C.held R.held C.sign R.sign (rest (in_units (root_of x)) (in_units y) u twice (ap in_units is ∙ count))
  where
    fours : (m j : ℕ) → 4 * (m * 2 ^ j * 2 ^ 1074) ≡ m * 2 ^ (j % 2) * 4 ^ suc (j / 2 + 537)
    fours m j = four_units m j ∙ ap (λ (i : ℕ). m * 2 ^ i) (halves j) ∙ ap (λ (n : ℕ). m * n) (pow-add 2 (j % 2) (2 * suc (j / 2 + 537))) ∙ sym (mul_assoc m (2 ^ (j % 2)) (2 ^ (2 * suc (j / 2 + 537)))) ∙ ap (λ (n : ℕ). m * 2 ^ (j % 2) * n) (sym (four_pow (suc (j / 2 + 537))))
      where
        halves : (j : ℕ) → j + 1076 ≡ j % 2 + 2 * suc (j / 2 + 537)
        halves j = omega arith

    long : (j : ℕ) → 53 + j % 2 ≤ 54
    long j = omega arith

    quarter : (q u : ℕ) → 4 * q ≡ (u + u) * (u + u) → q ≡ u * u
    quarter q u e = omega arith

    below : (n : ℕ) → n < 2 ^ 2098 → n * 2 ^ 1074 < 2 ^ 2098 * 2 ^ 2098
    below n l = lt_trans (mul-lt-mul_of_pos_right l (pow_pos 1074)) (lit< tt)

    rest : (a b u : ℕ) → a + b ≡ u + u → a ≡ u → b ≡ a
    rest a b u e f = omega arith

-- ---- what follows

-- the root of a value of the format is one
pub root_fits : (x : Float) → T (fits binary64 x) → T (fits binary64 (root_of x))
unfolding root_of
root_fits nan h = nan-fits binary64
root_fits (inf true) h = nan-fits binary64
root_fits (inf false) h = inf-fits binary64 false
root_fits (fin s zero e) h = h
root_fits (fin true (suc m) e) h = nan-fits binary64
root_fits (fin false (suc m) e) h = (root_nearest (fin false (suc m) e) h (lt→ltb 0 (suc m) (zero-lt-suc m))).value.held

-- no root is below zero; the root of -0 is -0, which is not
pub root_not_negative : (x : Float) → T (fits binary64 x) → T (not (lt (root_of x) zero_f))
unfolding root_of lt of_bits
root_not_negative nan h = tt
root_not_negative (inf true) h = tt
root_not_negative (inf false) h = tt
root_not_negative (fin true zero e) h = le→nltb 0 (0 * up e * 1 + 0 * down e) (none (up e) (down e))
  where
    none : (u d : ℕ) → 0 * u * 1 + 0 * d ≤ 0
    none u d = omega arith
root_not_negative (fin false zero e) h = clear_not_negative (fin false zero e) tt
root_not_negative (fin true (suc m) e) h = tt
root_not_negative (fin false (suc m) e) h = clear_not_negative (root_of (fin false (suc m) e)) (root_nearest (fin false (suc m) e) h (lt→ltb 0 (suc m) (zero-lt-suc m))).value.sign

-- the root grows with its argument
pub root_grows : (x y : Float) → T (fits binary64 x) → T (positive x) → T (fits binary64 y) → T (positive y) → in_units x ≤ in_units y → in_units (root_of x) ≤ in_units (root_of y)
root_grows x y hx px hy py l = nearest_grows (root_of x) (root_of y) (in_units x * 2 ^ 1074) (in_units y * 2 ^ 1074) (root_nearest x hx px) (root_nearest y hy py) (mul-le-mul_right (2 ^ 1074) l)
