-- Laws of `specs/FromUnits.antt`.
use Rattle.std.specs.Prelude.{◌≡◌, ℕ, ◌+◌, ◌*◌, ◌^◌, ◌<◌, ◌≤◌, Bool, false, cond, T, nat_lt, to_bits, refl, Float}
use Rattle.std.proofs.Common.{sym, ◌∙◌, subst, inl, inr, eq-zero-or-pos, le_antisymm, le_of_lt, lt_of_le_of_lt, lt_of_not-le, not-le_of_lt, mul-pos, arith, lt→ltb, lit<, pow_pos}
use Rattle.std.proofs.Math.Path.{ap}
use Rattle.std.proofs.Math.Decide.{dec_le}
use Rattle.std.proofs.Math.Arith.{le→nltb}
use Rattle.std.specs.Float.{nan, inf, fin, binary64}
use Rattle.std.specs.Float.Ieee.{fits, odd, units, of_bits}
use Rattle.std.specs.Float.Ieee.Bits.{is_true, cond_no, of_bits-to_bits}
use Rattle.std.specs.Float.Ieee.Fits.{odd-fits}
use Rattle.std.specs.Float.Ieee.Exact.{HasValue, units_val}
use Rattle.std.specs.Float.Ieee.Positive.{positive, positive_of_value}
use Rattle.std.specs.Float.Ieee.Scale.{finite}
use Rattle.root.specs.Units.{Significand, in_units}
use Rattle.root.proofs.Laws.Units.{units_of_value, units_top, value_sign, bits_at, top_at}
use Rattle.root.specs.Nearest.{Candidate}
use Rattle.root.specs.FromUnits.{Decodes}

pub top_value : of_bits binary64 0x7FF0_0000_0000_0000 ≡ inf false
unfolding of_bits
top_value = refl

module _ (h g : ℕ) where
  abbrev v : Float
  v = units binary64 false h g

  module _ (finite : h * 2 ^ g < 2 ^ 2098) where
    pub units_value : HasValue v false (h * 2 ^ g) (2 ^ 1074)
    units_value = units_val binary64 false h g finite

    pub units_count : in_units v ≡ h * 2 ^ g
    units_count = units_of_value v (h * 2 ^ g) units_value

    as_odd : v ≡ odd 54 false h g 1074
    unfolding units
    as_odd = ap (λ (b : Bool). cond b (odd 54 false h g 1074) (inf false)) (is_true (nat_lt (h * 2 ^ g) (2 ^ 2098)) (lt→ltb (h * 2 ^ g) (2 ^ 2098) finite))

    pub units_candidate : h ≤ 2 ^ 53 → Candidate v
    units_candidate few = record {
      held = subst (λ (x : Float). T (fits binary64 x)) (sym as_odd) (odd-fits binary64 54 false h g (lt_of_le_of_lt few (lit< tt)) few finite);
      sign = value_sign v (h * 2 ^ g) (2 ^ 1074) units_value;
    }

    pub units_bits : Significand h g → to_bits binary64 v ≡ g * 2 ^ 52 + h
    units_bits S = bits_at v h g (value_sign v (h * 2 ^ g) (2 ^ 1074) units_value) S units_count

  pub units_infinite : 2 ^ 2098 ≤ h * 2 ^ g → v ≡ inf false
  unfolding units
  units_infinite o = cond_no (nat_lt (h * 2 ^ g) (2 ^ 2098)) (odd 54 false h g 1074) (inf false) (le→nltb (h * 2 ^ g) (2 ^ 2098) o)

-- ---- as a program makes it of its pattern

module _ (h g : ℕ) (S : Significand h g) where
  pub pattern_below : g * 2 ^ 52 + h ≤ 0x7FF0_0000_0000_0000 → of_bits binary64 (g * 2 ^ 52 + h) ≡ units binary64 false h g
  pattern_below l = elim (dec_le (2 ^ 2098) (h * 2 ^ g)) [
    | yes o ↦ ap (of_bits binary64) (le_antisymm l (top_at h g S o)) ∙ top_value ∙ sym (units_infinite h g o)
    | no f ↦ let f = lt_of_not-le f in ap (of_bits binary64) (sym (units_bits h g f S)) ∙ of_bits-to_bits binary64 (units binary64 false h g) (units_candidate h g f S.0).held
  ]

  pub pattern_above : 0x7FF0_0000_0000_0000 < g * 2 ^ 52 + h → of_bits binary64 0x7FF0_0000_0000_0000 ≡ units binary64 false h g
  pattern_above l = elim (dec_le (2 ^ 2098) (h * 2 ^ g)) [
    | yes o ↦ top_value ∙ sym (units_infinite h g o)
    | no f ↦ let f = lt_of_not-le f in let C = units_candidate h g f S.0 in absurd (not-le_of_lt l (subst (λ (b : ℕ). b ≤ 0x7FF0_0000_0000_0000) (units_bits h g f S) (units_top (units binary64 false h g) C.held C.sign)))
  ]

-- ---- a finite value by its pattern

module _ (b m e : ℕ) (D : Decodes b m e) (below : b < 0x7FF0_0000_0000_0000) where
  decoded_digits : Significand m e
  decoded_digits = (le_of_lt D.few, D.full)

  pub decoded_exponent : e < 2046
  decoded_exponent = elim (eq-zero-or-pos e) [ inl z ↦ omega (arith, z) | inr p ↦ omega (arith, D.value, D.full p, below) ]

  pub decoded_value : of_bits binary64 b ≡ units binary64 false m e
  decoded_value = ap (of_bits binary64) D.value ∙ pattern_below m e decoded_digits (le_of_lt (subst (λ (x : ℕ). x < 0x7FF0_0000_0000_0000) D.value below))

  decoded_finite : m * 2 ^ e < 2 ^ 2098
  decoded_finite = lt_of_not-le (λ o. not-le_of_lt (subst (λ (x : ℕ). x < 0x7FF0_0000_0000_0000) D.value below) (top_at m e decoded_digits o))

  pub decoded_units : in_units (of_bits binary64 b) ≡ m * 2 ^ e
  decoded_units = ap in_units decoded_value ∙ units_count m e decoded_finite

  pub decoded_positive : 0 < m → T (positive (of_bits binary64 b))
  decoded_positive p = subst (λ (x : Float). T (positive x)) (sym decoded_value) (positive_of_value (units binary64 false m e) (m * 2 ^ e) (2 ^ 1074) (units_value m e decoded_finite) (mul-pos p (pow_pos e)))

  pub decoded_real : T (finite (of_bits binary64 b))
  decoded_real = subst (λ (x : Float). T (finite x)) (sym decoded_value) (real (units binary64 false m e) (units_value m e decoded_finite))
    where
      real : (v : Float) → HasValue v false (m * 2 ^ e) (2 ^ 1074) → T (finite v)
      real nan h = absurd h
      real (inf s) h = absurd h
      real (fin s m e) h = tt
