-- The size of a number by its parts' bit patterns without their signs, as `norm` finds it. Assumes nothing.
use Rattle.std.proofs.lemmas.Bool.{eqb-false}
use Rattle.std.proofs.Common.{ltb-false, eq-eqb, ne_eqb, lt-ltb, le-ltb, sym, ap, ap₂, ◌∙◌, subst, true≢false, add_comm, le_of_eq, le_of_lt, lt_irrefl, lt_trans, lt_of_not-le}
use Rattle.std.specs.Prelude.{◌≡◌, ℕ, ◌+◌, ◌*◌, ◌%◌, ◌^◌, ◌<◌, ◌≤◌, Bool, true, false, ◌||◌, T, ltb, ℤ, ◌==◌, from_bits, max, min, nat_eq, nat_lt, to_bits, refl, Float}
use Rattle.std.proofs.Math.Arith.{lt_of_le-ne}
use Rattle.std.proofs.Math.Nat.{max-eq_left, max-eq_right, min-eq_left, min-eq_right}
use Rattle.std.proofs.Math.Decide.{dec_le}
use Rattle.std.specs.Float.{nan, inf, fin, binary64}
use Rattle.std.specs.Float.Ieee.{fits, is_nan}
use Rattle.std.specs.Float.Ieee.Bits.{of_bits-to_bits}
use Rattle.complex.specs.declared.Complex.{Complex}
use Rattle.root.specs.Units.{in_units}
use Rattle.root.proofs.Laws.Units.{unsigned_fits}
use Rattle.root.specs.Patterns.{top}
use Rattle.root.proofs.Laws.Patterns.{without_sign, finite_magnitude, nan_above, infinite_magnitude}
use Rattle.root.specs.NearestRoot.{nearest_root}
use Rattle.root.specs.Norm.{sum_of_squares, norm_of, infinite}
use Rattle.root.proofs.Laws.Norm.{infinite_part, nan_part, finite_parts}

either_sign : (s : Bool) (m : ℕ) (e : ℤ) → in_units (fin false m e) ≡ in_units (fin s m e)
unfolding in_units
either_sign s m e = refl

-- ---- the tests of a value are tests of its pattern

infinite_test : (x : Float) → T (fits binary64 x) → infinite x ≡ (to_bits binary64 x % 2 ^ 63 == top)
infinite_test nan h = sym (ne_eqb _ top (λ e. lt_irrefl top (subst (λ (b : ℕ). top < b) e nan_above)))
infinite_test (inf s) h = sym (eq-eqb _ top (infinite_magnitude s))
infinite_test (fin s m e) h = sym (ne_eqb _ top (λ b. lt_irrefl top (subst (λ (x : ℕ). x < top) b (finite_magnitude s m e h))))

nan_test : (x : Float) → T (fits binary64 x) → is_nan x ≡ nat_lt top (to_bits binary64 x % 2 ^ 63)
unfolding is_nan
nan_test nan h = sym (lt-ltb top _ nan_above)
nan_test (inf s) h = sym (le-ltb top _ (le_of_eq (infinite_magnitude s)))
nan_test (fin s m e) h = sym (le-ltb top _ (le_of_lt (finite_magnitude s m e h)))

-- the units of a finite value are those of its pattern
magnitude_units : (x : Float) → T (fits binary64 x) → to_bits binary64 x % 2 ^ 63 < top → in_units (from_bits binary64 (to_bits binary64 x % 2 ^ 63)) ≡ in_units x
magnitude_units nan h l = absurd (lt_irrefl top (lt_trans nan_above l))
magnitude_units (inf s) h l = absurd (lt_irrefl top (subst (λ (b : ℕ). b < top) (infinite_magnitude s) l))
magnitude_units (fin s m e) h l = let u = unsigned_fits s m e h in ap (λ (b : ℕ). in_units (from_bits binary64 b)) (without_sign s m e u) ∙ ap in_units (of_bits-to_bits binary64 (fin false m e) u) ∙ either_sign s m e

-- ---- the size of a number by its parts' patterns

neither : (x y : Bool) → (x || y) ≡ false → (x ≡ false) × (y ≡ false)
neither true y e = absurd (true≢false e)
neither false y e = (refl, e)

module _ (a : Complex) (b c : ℕ) (R : b ≡ to_bits binary64 a.re % 2 ^ 63) (I : c ≡ to_bits binary64 a.im % 2 ^ 63) (r : T (fits binary64 a.re)) (i : T (fits binary64 a.im)) where
  infinite_tests : (infinite a.re || infinite a.im) ≡ (b == top || c == top)
  infinite_tests = ap₂ (λ (x y : Bool). x || y) (infinite_test a.re r ∙ ap (λ (x : ℕ). nat_eq x top) (sym R)) (infinite_test a.im i ∙ ap (λ (x : ℕ). nat_eq x top) (sym I))

  nan_tests : (is_nan a.re || is_nan a.im) ≡ (nat_lt top b || nat_lt top c)
  nan_tests = ap₂ (λ (x y : Bool). x || y) (nan_test a.re r ∙ ap (ltb top) (sym R)) (nan_test a.im i ∙ ap (ltb top) (sym I))

  pub size_infinite : (b == top || c == top) ≡ true → inf false ≡ norm_of a
  size_infinite e = sym (infinite_part a (infinite_tests ∙ e))

  module _ (n : (b == top || c == top) ≡ false) where
    pub size_nan : (nat_lt top b || nat_lt top c) ≡ true → nan ≡ norm_of a
    size_nan e = sym (nan_part a (infinite_tests ∙ n) (nan_tests ∙ e))

    module _ (m : (nat_lt top b || nat_lt top c) ≡ false) where
      pub patterns_below : (b < top) × (c < top)
      patterns_below =
          let d = neither (b == top) (c == top) n in
          let l = neither (nat_lt top b) (nat_lt top c) m in
          (lt_of_le-ne (ltb-false top b l.0) (eqb-false b top d.0), lt_of_le-ne (ltb-false top c l.1) (eqb-false c top d.1))

      pub size_finite : nearest_root (sum_of_squares (from_bits binary64 b) (from_bits binary64 c)) ≡ norm_of a
      size_finite = ap₂ (λ (u v : ℕ). nearest_root (u * u + v * v)) (units a.re b R r patterns_below.0) (units a.im c I i patterns_below.1) ∙ sym (finite_parts a (infinite_tests ∙ n) (nan_tests ∙ m))
        where
          units : (x : Float) (b : ℕ) → b ≡ to_bits binary64 x % 2 ^ 63 → T (fits binary64 x) → b < top → in_units (from_bits binary64 b) ≡ in_units x
          units x b e h l = ap (λ (z : ℕ). in_units (from_bits binary64 z)) e ∙ magnitude_units x h (subst (λ (z : ℕ). z < top) e l)

-- ---- two patterns, the larger one first

pub in_order : (x y : ℕ) → x < top → y < top → (min x y ≤ max x y) × (max x y < top)
in_order x y h k = elim (dec_le x y) [
  | yes l ↦ rw (max-eq_right l, min-eq_left l) (l, k)
  | no n ↦ let l = le_of_lt (lt_of_not-le n) in rw (max-eq_left l, min-eq_right l) (l, h)
]

pub either_order : (x y : ℕ) → sum_of_squares (from_bits binary64 (max x y)) (from_bits binary64 (min x y)) ≡ sum_of_squares (from_bits binary64 x) (from_bits binary64 y)
either_order x y = elim (dec_le x y) [
  | yes h ↦ rw (max-eq_right h, min-eq_left h) (add_comm _ _)
  | no h ↦ let l = le_of_lt (lt_of_not-le h) in rw (max-eq_left l, min-eq_right l) refl
]
