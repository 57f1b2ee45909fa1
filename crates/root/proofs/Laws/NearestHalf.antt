-- Laws of `specs/NearestHalf.antt`.
use Rattle.std.specs.Prelude.{◌≡◌, ℕ, zero, suc, ◌+◌, ◌-◌, ◌*◌, ◌/◌, ◌%◌, ◌^◌, ◌<◌, ◌≤◌, Bool, true, false, ◌||◌, ◌⊎◌, nat_lt, refl}
use Rattle.std.proofs.Common.{sym, ap, ◌∙◌, subst, true≢false, inl, inr, zero-le, le_refl, le_trans, le_antisymm, le_of_eq, le_of_lt, lt_of_le_of_lt, lt_of_lt_of_le, lt_of_not-le, not-le_of_lt, add-mul, suc-mul, add-le-add, mul-le-mul, mul-le-mul_right, mul-lt-mul_of_pos_right, lt_of_mul-lt-mul_right, mul_assoc, mul-pos, div-add-mod', mod-lt, mul-div_cancel, arith, pow_pos, pow-add, pow_mono}
use Rattle.std.proofs.Math.Nat.{mul-mul-mul_comm, two-pow-succ, mul-mod_left}
use Rattle.std.proofs.Math.Decide.{dec_le}
use Rattle.std.proofs.Math.Dec.{leb-zero, leb-suc-suc}
use Rattle.std.specs.Float.Ieee.Digits.{back}
use Rattle.root.specs.Whole.{RootRest}
use Rattle.root.proofs.Laws.Whole.{strictly, square_lt}
use Rattle.root.specs.NearestHalf.{nearest_half, Halved, even, up, down}

pub parity : (p : ℕ) → (p % 2 ≡ 0) ⊎ (p % 2 ≡ 1)
parity p = go (p % 2) (omega arith)
  where
    go : (b : ℕ) → b < 2 → (b ≡ 0) ⊎ (b ≡ 1)
    go zero h = inl refl
    go (suc zero) h = inr refl
    go (suc (suc x)) h = absurd (omega arith)

-- ---- as a program finds it

pub half_more : (w : ℕ) → nearest_half w true ≡ (w + 1) / 2
unfolding nearest_half
half_more w = elim (parity w) [ inl e ↦ rw e (omega arith) | inr e ↦ rw e (omega arith) ]

pub half_exact : (w : ℕ) → nearest_half w false ≡ (w + w / 2 % 2) / 2
unfolding nearest_half
half_exact w = elim (parity w) [ inl e ↦ rw e (omega arith) | inr e ↦ rw e (omega arith) ]

-- an even number has its half
pub half_even : (m : ℕ) (more : Bool) → nearest_half (2 * m) more ≡ m
half_even m true = half_more (2 * m) ∙ omega arith
half_even m false = half_exact (2 * m) ∙ omega arith

halved : (w : ℕ) (more : Bool) → Halved w (nearest_half w more) more
unfolding nearest_half
halved w true = elim (parity w) [ inl e ↦ even (rw e (omega arith)) | inr e ↦ up (rw e (omega arith)) (λ t. absurd (true≢false t)) ]
halved w false = elim (parity w) [
  | inl e ↦ even (rw e (omega arith))
  | inr e ↦ elim (parity (w / 2)) [
    | inl f ↦ down (rw (e, f) (omega arith)) refl (rw (e, f) (omega arith))
    | inr f ↦ up (rw (e, f) (omega arith)) (λ _. rw (e, f) (omega arith))
  ]
]

pub half_few : (w : ℕ) (more : Bool) → w < 2 ^ 54 → nearest_half w more ≤ 2 ^ 53
half_few w more l = elim (halved w more) [ even e ↦ omega (arith, e, l) | up e _ ↦ omega (arith, e, l) | down e _ _ ↦ omega (arith, e, l) ]

pub half_least : (w : ℕ) (more : Bool) → 2 ^ 53 ≤ w → 2 ^ 52 ≤ nearest_half w more
half_least w more l = elim (halved w more) [ even e ↦ omega (arith, e, l) | up e _ ↦ omega (arith, e, l) | down e _ _ ↦ omega (arith, e, l) ]

-- ---- Why it is nearest. n is four times a square, so that half of n's root is the square's. G = 2 ^ g is the weight of the last digit that is kept, w the whole root of n / (G * G), and r what is left; n % (G * G) is cut off below.
-- Half of w, rounded, is h, which has 53 digits at least, unless G is 1. No number y = m * 2 ^ j with an m of at most 53 digits is nearer to half of n's root than h * G is; where one is as near, h is even.

none_left : (a b : ℕ) → (nat_lt 0 a || nat_lt 0 b) ≡ false → (a ≡ 0) × (b ≡ 0)
none_left zero zero e = (refl, refl)
none_left zero (suc b) e = absurd (true≢false (sym (leb-suc-suc 0 b ∙ leb-zero b) ∙ e))
none_left (suc a) b e = absurd (true≢false (sym (ap (λ (t : Bool). t || nat_lt 0 b) (leb-suc-suc 0 a ∙ leb-zero a)) ∙ e))

module _ (n w r g : ℕ) (R : RootRest (n / (2 ^ g * 2 ^ g)) w r) (long : 0 < g → 2 ^ 53 ≤ w) where
  abbrev G : ℕ
  G = 2 ^ g

  abbrev N : ℕ
  N = n / (G * G)

  abbrev more : Bool
  more = nat_lt 0 (n % (G * G)) || nat_lt 0 r

  abbrev h : ℕ
  h = nearest_half w more

  square_pos : 0 < G * G
  square_pos = mul-pos (pow_pos g) (pow_pos g)

  low : w * w * (G * G) ≤ n
  low = let a : w * w ≤ N = omega (arith, R.value) in le_trans (mul-le-mul_right (G * G) a) (omega (arith, div-add-mod' n (G * G)))

  high : n < suc w * suc w * (G * G)
  high = let a : suc N ≤ suc w * suc w = omega (arith, R.value, R.rest) in lt_of_lt_of_le (omega (arith, div-add-mod' n (G * G), mod-lt n square_pos, suc-mul N (G * G))) (mul-le-mul_right (G * G) a)

  pub exact_none : more ≡ false → n ≡ w * w * (G * G)
  exact_none e =
      let z = none_left (n % (G * G)) r e in
      let a : N ≡ w * w = omega (arith, R.value, z.1) in
      sym (div-add-mod' n (G * G)) ∙ rw (z.0, a) (omega arith)

  pub none_exact : n ≡ w * w * (G * G) → more ≡ false
  none_exact e =
      let a : n % (G * G) ≡ 0 = ap (λ (x : ℕ). x % (G * G)) e ∙ mul-mod_left (w * w) (G * G) in
      let b : N ≡ w * w = ap (λ (x : ℕ). x / (G * G)) e ∙ mul-div_cancel (w * w) square_pos in
      let c : r ≡ 0 = omega (arith, R.value) in
      rw (a, c) refl

  module _ (m j : ℕ) (few : m < 2 ^ 53) where
    abbrev y : ℕ
    y = m * 2 ^ j

    -- either y is a multiple of G, or it is below all numbers of 53 digits times G
    multiple_or_small : ((a : ℕ) × (y ≡ a * G)) ⊎ ((0 < g) × (y < 2 ^ 52 * G))
    multiple_or_small = elim (dec_le g j) [
      | yes l ↦ inl (m * 2 ^ (j - g), ap (λ (x : ℕ). m * 2 ^ x) (sym (back j g l)) ∙ ap (λ (x : ℕ). m * x) (pow-add 2 (j - g) g) ∙ sym (mul_assoc m (2 ^ (j - g)) G))
      | no l ↦ inr (lt_of_le_of_lt zero-le (lt_of_not-le l), small y (2 ^ j) G (mul-lt-mul_of_pos_right few (pow_pos j)) (le_trans (le_of_eq (sym (two-pow-succ j))) (pow_mono (lt_of_not-le l))))
    ]
      where
        small : (y K G : ℕ) → y < 2 ^ 53 * K → K + K ≤ G → y < 2 ^ 52 * G
        small y K G h k = omega arith

    -- above h * G the next is (h + 1) * G
    next_above : h * G < y → suc h * G ≤ y
    next_above l = elim multiple_or_small [
      | inl p ↦ subst (λ (x : ℕ). suc h * G ≤ x) (sym p.1) (mul-le-mul_right G (lt_of_mul-lt-mul_right G (subst (λ (x : ℕ). h * G < x) p.1 l)))
      | inr p ↦ absurd (not-le_of_lt (lt_of_lt_of_le p.1 (mul-le-mul_right G (half_least w more (long p.0)))) (le_of_lt l))
    ]

    -- below h * G, where 2 * h is above w, the next is (h - 1) * G
    next_below : suc w ≡ h + h → y < h * G → y + G ≤ h * G
    next_below e l = elim multiple_or_small [
      | inl p ↦ le_trans (le_of_eq (ap (λ (x : ℕ). x + G) p.1 ∙ sym (suc-mul p.0 G))) (mul-le-mul_right G (lt_of_mul-lt-mul_right G (subst (λ (x : ℕ). x < h * G) p.1 l)))
      | inr p ↦ let b : 2 ^ 52 < h = omega (arith, long p.0, e) in le_trans (small y G p.1) (mul-le-mul_right G b)
    ]
      where
        small : (y G : ℕ) → y < 2 ^ 52 * G → y + G ≤ suc (2 ^ 52) * G
        small y G h = omega arith

    abbrev Beside : ℕ → ℕ → Type 0
    Beside a b = (a ≤ b) × (a ≡ b → h % 2 ≡ 0)

    square : (a : ℕ) → a * G * (a * G) ≡ a * a * (G * G)
    square a = mul-mul-mul_comm a G a G

    pub nearest_above : h * G < y → Beside n ((h * G + y) * (h * G + y))
    nearest_above l = elim (halved w more) [
      | even e ↦ over (omega (arith, e))
      | up e _ ↦ over (omega (arith, e))
      | down e z v ↦ let s = reach w (omega (arith, e)) in (le_trans (le_of_eq (exact_none z ∙ sym (square w))) (mul-le-mul s s), λ _. v)
    ]
      where
        reach : (a : ℕ) → a ≤ h + suc h → a * G ≤ h * G + y
        reach a k = le_trans (mul-le-mul_right G k) (le_trans (le_of_eq (add-mul h (suc h) G)) (add-le-add (le_refl (h * G)) (next_above l)))

        over : suc w ≤ h + suc h → Beside n ((h * G + y) * (h * G + y))
        over k = let s = reach (suc w) k in strictly n ((h * G + y) * (h * G + y)) (lt_of_lt_of_le high (le_trans (le_of_eq (sym (square (suc w)))) (mul-le-mul s s)))

    pub nearest_below : y < h * G → Beside ((y + h * G) * (y + h * G)) n
    nearest_below l = elim (halved w more) [
      | even e ↦ under (omega (arith, e))
      | up e v ↦
          let s : y + h * G ≤ w * G = drop (h * G) y G (w * G) (suc-mul w G) (ap (λ (x : ℕ). x * G) e ∙ add-mul h h G) (next_below e l) in
          let t : (y + h * G) * (y + h * G) ≤ w * w * (G * G) = le_trans (mul-le-mul s s) (le_of_eq (square w)) in
          (le_trans t low, λ z. v (none_exact (le_antisymm (le_trans (le_of_eq (sym z)) t) low)))
      | down e _ _ ↦ under (omega (arith, e))
    ]
      where
        drop : (A y G W : ℕ) → suc w * G ≡ W + G → suc w * G ≡ A + A → y + G ≤ A → y + A ≤ W
        drop A y G W e f k = omega arith

        under : h + h ≤ w → Beside ((y + h * G) * (y + h * G)) n
        under k =
            let s : y + h * G < (h + h) * G = omega (arith, add-mul h h G, l) in
            strictly ((y + h * G) * (y + h * G)) n (lt_of_lt_of_le (square_lt (y + h * G) (w * G) (lt_of_lt_of_le s (mul-le-mul_right G k))) (le_trans (le_of_eq (square w)) low))
