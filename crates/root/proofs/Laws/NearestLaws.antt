-- Laws of `specs/NearestLaws.antt`.
use Rattle.std.specs.Prelude.{◌≡◌, ℕ, suc, ◌+◌, ◌-◌, ◌*◌, ◌%◌, ◌^◌, ◌<◌, ◌≤◌, false, refl, Float}
use Rattle.std.proofs.Common.{sym, ap, ◌∙◌, subst, le_refl, le_trans, le_antisymm, le_of_eq, le_of_suc-le-suc, le_of_lt, lt_of_le_of_lt, lt_of_lt_of_le, lt_of_not-le, not-le_of_lt, mul-le-mul, mul-le-mul_left, add-le-add, arith, lit≤, lit<}
use Rattle.std.proofs.Math.Nat.{le_of_mul-le-mul_left, suc_inj}
use Rattle.std.specs.Float.{inf, binary64}
use Rattle.std.specs.Float.Ieee.{to_bits, of_bits}
use Rattle.std.specs.Float.Ieee.Fits.{inf-fits}
use Rattle.root.specs.Units.{in_units}
use Rattle.root.proofs.Laws.Units.{same_units, same_bits, bits_lt, units_lt, units_top, at_pattern}
use Rattle.root.proofs.Laws.Whole.{strictly, square_lt}
use Rattle.root.specs.Nearest.{Candidate, Even, Nearest, square_of_sum}
use Rattle.root.specs.NearestLaws.{At}

-- a midpoint that is not reached is no tie
pub strict : (r : Float) (a b : ℕ) → a < b → (a ≤ b) × (a ≡ b → Even r)
strict r a b h = strictly a b h

-- of two candidates that differ, one is smaller
pub neither : (r s : Float) → Candidate r → Candidate s → (in_units r < in_units s → ⊥) → (in_units s < in_units r → ⊥) → r ≡ s
neither r s R S f g = same_units r s R.held S.held R.sign S.sign (equal (in_units r) (in_units s) f g)
  where
    equal : (a b : ℕ) → (a < b → ⊥) → (b < a → ⊥) → a ≡ b
    equal a b f g = le_antisymm (le_of_suc-le-suc (lt_of_not-le g)) (le_of_suc-le-suc (lt_of_not-le f))

-- a pattern up to a candidate's is a candidate's
at : (s : Float) → Candidate s → (b : ℕ) → b ≤ to_bits binary64 s → At b
at s S b h = let p = at_pattern b (le_trans h (units_top s S.held S.sign)) in record { t = of_bits binary64 b; value = record { held = p.held; sign = p.sign }; bits = p.bits }

module _ (r s : Float) (R : Candidate r) (S : Candidate s) where
  by_units : in_units r < in_units s → to_bits binary64 r < to_bits binary64 s
  by_units = bits_lt r s R.held S.held R.sign S.sign

  by_bits : to_bits binary64 r < to_bits binary64 s → in_units r < in_units s
  by_bits = units_lt r s R.held S.held R.sign S.sign

pub not_both : (r s : Float) (q : ℕ) → Nearest r q → Nearest s q → in_units r < in_units s → ⊥
not_both r s q R S h =
    let a = R.above s S.value h in
    let b = S.below r R.value h in
    let e : 4 * q ≡ square_of_sum r s = le_antisymm a.0 b.0 in
    let l : suc (to_bits binary64 r) < to_bits binary64 s = skip (to_bits binary64 r) (to_bits binary64 s) (by_units r s R.value S.value h) (a.1 e) (b.1 (sym e)) in
    let m = at s S.value (suc (to_bits binary64 r)) (le_of_lt l) in
    let rt = by_bits r m.t R.value m.value (rw m.bits (le_refl (suc (to_bits binary64 r)))) in
    let ts = by_bits m.t s m.value S.value (rw m.bits l) in
    not-le_of_lt (square_lt (in_units r + in_units m.t) (in_units r + in_units s) (more (in_units r) (in_units m.t) (in_units s) ts)) (le_trans b.0 (R.above m.t m.value rt).0)
  where
    skip : (a b : ℕ) → a < b → a % 2 ≡ 0 → b % 2 ≡ 0 → suc a < b
    skip a b h e f = omega arith

    more : (c a b : ℕ) → a < b → c + a < c + b
    more c a b h = omega arith

-- ---- a candidate whose square is q is nearest, and is no tie

pub exact_nearest : (y : Float) (q : ℕ) → Candidate y → q ≡ in_units y * in_units y → Nearest y q
exact_nearest y q C e = record {
  value = C;
  above = λ z D h. strict y (4 * q) (square_of_sum y z) (lt_of_le_of_lt (le_of_eq four) (square_lt (in_units y + in_units y) (in_units y + in_units z) (omega arith)));
  below = λ z D h. strict y (square_of_sum z y) (4 * q) (lt_of_lt_of_le (square_lt (in_units z + in_units y) (in_units y + in_units y) (omega arith)) (le_of_eq (sym four)));
}
  where
    four : 4 * q ≡ (in_units y + in_units y) * (in_units y + in_units y)
    four = ap (λ (x : ℕ). 4 * x) e ∙ twice (in_units y)
      where
        twice : (Y : ℕ) → 4 * (Y * Y) ≡ (Y + Y) * (Y + Y)
        twice Y = omega arith

-- ---- the value nearest to the root of a larger square is no smaller

pub nearest_grows : (r s : Float) (p q : ℕ) → Nearest r p → Nearest s q → p ≤ q → in_units r ≤ in_units s
nearest_grows r s p q R S h = le_of_suc-le-suc (lt_of_not-le (λ (g : in_units s < in_units r).
    let a = S.above r R.value g in
    let b = R.below s S.value g in
    let e : p ≡ q = omega arith in
    not_both s r q S (subst (Nearest r) e R) g))

-- ---- it is enough to compare r with its two neighbours, the values of the next pattern and of the one before

module _ (r : Float) (q : ℕ) (R : Candidate r)
    (after : (s : Float) → Candidate s → to_bits binary64 s ≡ suc (to_bits binary64 r) → (4 * q ≤ square_of_sum r s) × (4 * q ≡ square_of_sum r s → Even r))
    (before : (s : Float) → Candidate s → suc (to_bits binary64 s) ≡ to_bits binary64 r → (square_of_sum s r ≤ 4 * q) × (square_of_sum s r ≡ 4 * q → Even r)) where
  pub by_neighbours : Nearest r q
  by_neighbours = record {
    value = R;
    above = λ y C h.
        let l = by_units r y R C h in
        let m = at y C (suc (to_bits binary64 r)) l in
        let a = after m.t m.value m.bits in
        let s = no_more m.t y m.value C (rw m.bits l) in
        let k = squares (in_units r) (in_units r) (in_units m.t) (in_units y) (le_refl (in_units r)) s in
        (le_trans a.0 k, λ e. a.1 (le_antisymm a.0 (le_trans k (le_of_eq (sym e)))));
    below = λ y C h.
        let l = by_units y r C R h in
        let f = less (to_bits binary64 y) (to_bits binary64 r) l in
        let m = at r R (to_bits binary64 r - 1) f.0 in
        let b = before m.t m.value (ap suc m.bits ∙ f.1) in
        let s = no_more y m.t C m.value (rw m.bits f.2) in
        let k = squares (in_units y) (in_units m.t) (in_units r) (in_units r) s (le_refl (in_units r)) in
        (le_trans k b.0, λ e. b.1 (le_antisymm b.0 (le_trans (le_of_eq (sym e)) k)));
  }
    where
      no_more : (x y : Float) → Candidate x → Candidate y → to_bits binary64 x ≤ to_bits binary64 y → in_units x ≤ in_units y
      no_more x y X Y h = le_of_suc-le-suc (lt_of_not-le (λ g. not-le_of_lt (by_units y x Y X g) h))

      squares : (a b c d : ℕ) → a ≤ b → c ≤ d → (a + c) * (a + c) ≤ (b + d) * (b + d)
      squares a b c d h k = mul-le-mul (add-le-add h k) (add-le-add h k)

      less : (a b : ℕ) → a < b → (b - 1 ≤ b) × (suc (b - 1) ≡ b) × (a ≤ b - 1)
      less a b h = omega arith

-- ---- at the midpoint of two neighbours the even one is nearest

sums_lt : (a b c : ℕ) → a < b → b < c → a + b < b + c
sums_lt a b c h k = omega arith

module _ (r s : Float) (q : ℕ) (R : Candidate r) (S : Candidate s) (next : to_bits binary64 s ≡ suc (to_bits binary64 r)) (tie : 4 * q ≡ square_of_sum r s) where
  pub tie_lower : Even r → Nearest r q
  tie_lower even = by_neighbours r q R
      (λ t C e. let same : t ≡ s = same_bits t s C.held S.held (e ∙ sym next) in rw same (le_of_eq tie, λ _. even))
      (λ t C e. strict r (square_of_sum t r) (4 * q) (lt_of_lt_of_le (square_lt (in_units t + in_units r) (in_units r + in_units s) (sums_lt (in_units t) (in_units r) (in_units s) (by_bits t r C R (le_of_eq e)) (by_bits r s R S (le_of_eq (sym next))))) (le_of_eq (sym tie))))

  pub tie_upper : Even s → Nearest s q
  tie_upper even = by_neighbours s q S
      (λ t C e. strict s (4 * q) (square_of_sum s t) (lt_of_le_of_lt (le_of_eq tie) (square_lt (in_units r + in_units s) (in_units s + in_units t) (sums_lt (in_units r) (in_units s) (in_units t) (by_bits r s R S (le_of_eq (sym next))) (by_bits s t S C (le_of_eq (sym e)))))))
      (λ t C e. let same : t ≡ r = same_bits t r C.held R.held (suc_inj (e ∙ next)) in rw same (le_of_eq (sym tie), λ _. even))

-- ---- The infinity is nearest to the roots that are not below 2 ^ 1023 * (2 - 2 ^ -53), which is 2 ^ 2098 - 2 ^ 2044 units (IEEE 754-2019, 4.3.1).

largest : Float
largest = of_bits binary64 0x7FEF_FFFF_FFFF_FFFF

threshold : 4 * ((2 ^ 2098 - 2 ^ 2044) * (2 ^ 2098 - 2 ^ 2044)) ≡ square_of_sum largest (inf false)
unfolding largest in_units of_bits
threshold = refl

largest_value : Candidate largest
unfolding largest
largest_value = let p = at_pattern 0x7FEF_FFFF_FFFF_FFFF (lit≤ tt) in record { held = p.held; sign = p.sign }

infinity_value : Candidate (inf false)
infinity_value = record { held = inf-fits binary64 false; sign = tt }

pub overflow : (q : ℕ) → (2 ^ 2098 - 2 ^ 2044) * (2 ^ 2098 - 2 ^ 2044) ≤ q → Nearest (inf false) q
unfolding to_bits largest
overflow q h = by_neighbours (inf false) q infinity_value
    (λ t C e. absurd (not-le_of_lt (le_of_eq (sym e)) (units_top t C.held C.sign)))
    (λ t C e.
    let same : t ≡ largest = same_bits t largest C.held largest_value.held (suc_inj e ∙ sym (at_pattern 0x7FEF_FFFF_FFFF_FFFF (lit≤ tt)).bits) in
    rw same (le_trans (le_of_eq (sym threshold)) (mul-le-mul_left 4 h), λ _. refl))

pub overflow_only : (q : ℕ) → Nearest (inf false) q → (2 ^ 2098 - 2 ^ 2044) * (2 ^ 2098 - 2 ^ 2044) ≤ q
unfolding largest in_units of_bits
overflow_only q N = le_of_mul-le-mul_left {k = 4} (le_trans (le_of_eq threshold) (N.below largest largest_value (lit< tt)).0) (lit< tt)
