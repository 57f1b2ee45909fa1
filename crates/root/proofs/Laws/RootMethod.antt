-- What `positive` does. A significand m, with z zeros after it, has 53 binary digits. With one more where t is odd, four times the exact square is hi * 2 ^ 54 squares of 2 ^ g units, and nothing is cut off; so half of its root is nearest. Assumes nothing.
use Rattle.std.specs.Prelude.{◌≡◌, ℕ, suc, ◌+◌, ◌-◌, ◌*◌, ◌/◌, ◌%◌, ◌^◌, ◌<◌, ◌≤◌, false, from_bits}
use Rattle.std.proofs.Common.{sym, ap, ◌∙◌, subst, inl, inr, add-zero, one-mul, mul-pos, mul_assoc, le_trans, le_of_eq, lt_of_lt_of_le, lt_of_le_of_lt, lt_of_not-le, lt_irrefl, mul-le-mul_right, mod-eq_of_lt, arith, lit≤, lit<, pow_pos, pow-add, pow_mono, shl_lt}
use Rattle.std.specs.Int.Count.{count_leading_zeros}
use Rattle.std.proofs.lemmas.Nat.{leading_top}
use Rattle.std.specs.Float.{binary64}
use Rattle.root.specs.Units.{in_units}
use Rattle.root.proofs.Laws.Units.{four_units}
use Rattle.root.specs.Root.{root_of}
use Rattle.root.proofs.Laws.Root.{root_instance}
use Rattle.root.specs.NearestRoot.{nearest_root}
use Rattle.root.proofs.Laws.NearestRootLaws.{nearest_root_lem}
use Rattle.root.specs.FromUnits.{Decodes}
use Rattle.root.proofs.Laws.FromUnits.{decoded_exponent, decoded_units, decoded_positive}
use Rattle.root.proofs.Laws.NearestHalf.{parity}
use Rattle.root.specs.Cut.{Cut}
use Rattle.root.proofs.Laws.Cut.{cut_whole, cut_scaled}
use Rattle.root.specs.HalfRoot.{half_root}
use Rattle.root.proofs.Laws.HalfRoot.{cut_nearest}
use Rattle.root.proofs.Laws.Theorems.{only_nearest}

-- ---- a significand above 0, moved up

module _ (m e : ℕ) (some : 0 < m) (short : m < 2 ^ 53) where
  abbrev zeros : ℕ
  zeros = count_leading_zeros 64 m

  -- m has 64 - zeros digits, of which j follow the first
  record Counted : Type 0 where
    pub j : ℕ
    pub all : zeros + suc j ≡ 64
    pub low : 2 ^ j ≤ m
    pub high : m < 2 ^ suc j
    pub few : j < 53

  counted : Counted
  counted = let l = leading_top 64 m some (lt_of_lt_of_le short (lit≤ tt)) in record { j = l.0; all = l.1; low = l.2; high = l.3; few = pow_lt_back l.0 53 (lt_of_le_of_lt l.2 short) }
    where
      pow_lt_back : (i p : ℕ) → 2 ^ i < 2 ^ p → i < p
      pow_lt_back i p h = lt_of_not-le (λ (g : p ≤ i). lt_irrefl (2 ^ i) (lt_of_lt_of_le h (pow_mono g)))

  pub zeros_least : 11 ≤ zeros
  zeros_least = omega (arith, counted.all, counted.few)

  pub zeros_range : (11 ≤ zeros) × (zeros < 64)
  zeros_range = (zeros_least, omega (arith, counted.all))

  abbrev z : ℕ
  z = zeros - 11

  abbrev t : ℕ
  t = e + 1076 - z

  abbrev g : ℕ
  g = t / 2 - 27

  moved : (2 ^ 52 ≤ m * 2 ^ z) × (m * 2 ^ z < 2 ^ 53)
  moved =
      let l = counted in
      let d = digits l.j l.all zeros_least in
      (subst (λ (x : ℕ). 2 ^ x ≤ m * 2 ^ z) d.0 (le_trans (le_of_eq (pow-add 2 l.j z)) (mul-le-mul_right (2 ^ z) l.low)), subst (λ (x : ℕ). m * 2 ^ z < 2 ^ x) d.1 (shl_lt (suc l.j) z l.high))
    where
      digits : (j : ℕ) → zeros + suc j ≡ 64 → 11 ≤ zeros → (j + z ≡ 52) × (suc j + z ≡ 53)
      digits j a h = omega arith

  -- the significand, moved up; the program's shift loses nothing
  abbrev top : ℕ
  top = m * 2 ^ (z + t % 2)

  top_range : (2 ^ 52 ≤ top) × (top < 2 ^ 54)
  top_range = subst (λ (x : ℕ). (2 ^ 52 ≤ x) × (x < 2 ^ 54)) (sym (ap (λ (x : ℕ). m * x) (pow-add 2 z (t % 2)) ∙ sym (mul_assoc m (2 ^ z) (2 ^ (t % 2))))) (once (m * 2 ^ z) moved.0 moved.1)
    where
      once : (c : ℕ) → 2 ^ 52 ≤ c → c < 2 ^ 53 → (2 ^ 52 ≤ c * 2 ^ (t % 2)) × (c * 2 ^ (t % 2) < 2 ^ 54)
      once c l h = elim (parity t) [ inl f ↦ rw f (omega arith, omega arith) | inr f ↦ rw f (omega arith, omega arith) ]

  abbrev hi : ℕ
  hi = top % 2 ^ 64

  hi_is : hi ≡ top
  hi_is = mod-eq_of_lt (lt_of_lt_of_le top_range.1 (lit≤ tt))

  pub hi_range : (2 ^ 52 ≤ hi) × (hi < 2 ^ 54)
  hi_range = rw hi_is top_range

  -- ---- four times the exact square of m * 2 ^ e units, the value with the pattern b

  module _ (b : ℕ) (D : Decodes b m e) (below : b < 0x7FF0_0000_0000_0000) where
    pub exponents : (z ≤ e + 1076) × (27 ≤ t / 2) × (t / 2 < 2000)
    exponents = (omega (arith, zeros_range.1), omega (arith, zeros_range.1), omega (arith, decoded_exponent b m e D below))

    abbrev q : ℕ
    q = in_units (from_bits binary64 b) * 2 ^ 1074

    abbrev N : ℕ
    N = hi * 2 ^ 54 + 0

    square_is : 4 * q ≡ N * (2 ^ g * 2 ^ g)
    square_is =
        ap (λ (n : ℕ). 4 * (n * 2 ^ 1074)) (decoded_units b m e D below)
        ∙ four_units m e
        ∙ ap (λ (x : ℕ). m * 2 ^ x) digits
        ∙ ap (λ (x : ℕ). m * x) (pow-add 2 (z + t % 2) (54 + (g + g)))
        ∙ sym (mul_assoc m (2 ^ (z + t % 2)) (2 ^ (54 + (g + g))))
        ∙ ap (λ (x : ℕ). top * x) (pow-add 2 54 (g + g) ∙ ap (λ (x : ℕ). 2 ^ 54 * x) (pow-add 2 g g))
        ∙ sym (mul_assoc top (2 ^ 54) (2 ^ g * 2 ^ g))
        ∙ ap (λ (x : ℕ). x * (2 ^ g * 2 ^ g)) (sym (add-zero (hi * 2 ^ 54) ∙ ap (λ (x : ℕ). x * 2 ^ 54) hi_is))
      where
        digits : e + 1076 ≡ z + t % 2 + (54 + (g + g))
        digits = omega (arith, counted.all)

    nothing_cut : Cut (4 * q) (2 ^ g * 2 ^ g) N false
    nothing_cut = subst (λ (n : ℕ). Cut n (2 ^ g * 2 ^ g) N false) (sym square_is) (subst (λ (d : ℕ). Cut (N * (2 ^ g * 2 ^ g)) d N false) (one-mul (2 ^ g * 2 ^ g)) (cut_scaled (cut_whole N) (lit< tt) (2 ^ g * 2 ^ g) (mul-pos (pow_pos g) (pow_pos g))))

    pub root_found : half_root N false g ≡ root_of (from_bits binary64 b)
    root_found =
        only_nearest (half_root N false g) (nearest_root q) q (cut_nearest q g N false nothing_cut (omega (arith, hi_range.1)) (λ _. omega (arith, hi_range.0))) (nearest_root_lem q)
        ∙ sym (root_instance (from_bits binary64 b) (decoded_positive b m e D below some))
