-- Laws of `specs/NearestRootLaws.antt`.
use Rattle.std.specs.Prelude.{◌≡◌, ℕ, suc, ◌+◌, ◌-◌, ◌*◌, ◌/◌, ◌%◌, ◌^◌, ◌<◌, ◌≤◌, Bool, true, false, not, ◌||◌, T, ◌==◌, nat_lt, refl}
use Rattle.std.proofs.Common.{sym, ap, ◌∙◌, inl, inr, le_refl, le_trans, le_of_eq, le_of_lt, lt_irrefl, lt_of_le_of_lt, lt_of_lt_of_le, mul-pos, le-div_iff_mul-le, div-lt_iff_lt-mul, arith, leb→le, eqb→eq, pow_pos, pow-add, pow_mono}
use Rattle.std.proofs.Math.Path.{subst}
use Prim.Native.Nat.{compare, Ordering}
use Rattle.std.proofs.Math.Nat.{le_of_suc-le-suc}
use Rattle.std.proofs.Math.Arith.{lt_of_le-ne}
use Rattle.std.proofs.Math.Dec.{is_le, compare_is_eq, nleb→lt, eqb_refl}
use Rattle.std.specs.Float.Ieee.{binary64, size, nearest, units}
use Rattle.std.specs.Float.Ieee.Digits.{size-lt, size_reaches}
use Rattle.root.specs.Whole.{IsRoot, whole_root}
use Rattle.root.proofs.Laws.Whole.{whole_root_lem, rest_of_root, side_lt}
use Rattle.root.specs.NearestHalf.{nearest_half}
use Rattle.root.proofs.Laws.NearestHalf.{parity, half_more, half_exact, half_even, exact_none, none_exact}
use Rattle.root.specs.Nearest.{Nearest}
use Rattle.root.specs.NearestRoot.{nearest_root}
use Rattle.root.proofs.Laws.PowersOfFour.{four_pow, four_square, four_pos}
use Rattle.root.proofs.Laws.HalfRoot.{half_nearest}
use Rattle.root.specs.NearestRootLaws.{Compared}

compared : (a b : ℕ) → Compared (compare a b) a b
compared a b = go (compare a b) (leb→le a b) (nleb→lt a b) (eqb→eq a b) (λ (e : a ≡ b). subst (λ (x : ℕ). T (a == x)) e (eqb_refl a))
  where
    go : (o : Ordering) → (T (is_le o) → a ≤ b) → (T (not (is_le o)) → b < a) → (T (compare_is_eq o) → a ≡ b) → (a ≡ b → T (compare_is_eq o)) → Compared o a b
    go Ordering.lt h k e n = lt_of_le-ne (h tt) n
    go Ordering.eq h k e n = e tt
    go Ordering.gt h k e n = k tt

module _ (q g m : ℕ) (I : IsRoot (q / (2 ^ g * 2 ^ g)) m) (full : 0 < g → 2 ^ 52 ≤ m) (few : m < 2 ^ 53) where
  abbrev E : ℕ
  E = 2 ^ g * 2 ^ g

  E_pos : 0 < E
  E_pos = mul-pos (pow_pos g) (pow_pos g)

  -- twice m or one more, whichever is the whole root of 4 * q, and the half of it that is nearest
  by_twice : (w v : ℕ) → w * w * E ≤ 4 * q → 4 * q < suc w * suc w * E → 2 * m ≤ w → w ≤ 2 * m + 1 → ((more : Bool) → (more ≡ false → 4 * q ≡ w * w * E) → (4 * q ≡ w * w * E → more ≡ false) → nearest_half w more ≡ v) → Nearest (units binary64 false v g) q
  by_twice w v a b c d half =
      let R = rest_of_root (4 * q / E) w (record { low = (le-div_iff_mul-le E_pos).1 a; high = (div-lt_iff_lt-mul E_pos).1 b }) in
      let long : 0 < g → 2 ^ 53 ≤ w = λ p. omega (arith, full p, c) in
      let r = 4 * q / E - w * w in
      subst (λ (x : ℕ). Nearest (units binary64 false x g) q) (half (nat_lt 0 (4 * q % E) || nat_lt 0 r) (exact_none (4 * q) w r g R long) (none_exact (4 * q) w r g R long)) (half_nearest q g w r R long (omega (arith, few, d)))

  low : m * m * E ≤ q
  low = (le-div_iff_mul-le E_pos).0 I.low

  high : q < suc m * suc m * E
  high = (div-lt_iff_lt-mul E_pos).0 I.high

  abbrev middle : ℕ
  middle = (2 * m + 1) * (2 * m + 1) * E

  compared_nearest : (o : Ordering) → Compared o (4 * q) middle → Nearest (units binary64 false (nearest m o) g) q
  compared_nearest Ordering.lt c = by_twice (2 * m) m (omega (arith, low)) (omega (arith, c)) (le_refl (2 * m)) (omega arith) (λ more _ _. half_even m more)
  compared_nearest Ordering.eq c = by_twice (2 * m + 1) (m + m % 2) (le_of_eq (sym c)) (omega (arith, high)) (omega arith) (le_refl (2 * m + 1)) (λ more _ f. ap (nearest_half (2 * m + 1)) (f c) ∙ half_exact (2 * m + 1) ∙ even_one)
    where
      even_one : (2 * m + 1 + (2 * m + 1) / 2 % 2) / 2 ≡ m + m % 2
      even_one = let e : (2 * m + 1) / 2 ≡ m = omega arith in elim (parity m) [ inl f ↦ rw (e, f) (omega arith) | inr f ↦ rw (e, f) (omega arith) ]
  compared_nearest Ordering.gt c = by_twice (2 * m + 1) (suc m) (le_of_lt c) (omega (arith, high)) (omega arith) (le_refl (2 * m + 1)) more
    where
      more : (b : Bool) → (b ≡ false → 4 * q ≡ middle) → (4 * q ≡ middle → b ≡ false) → nearest_half (2 * m + 1) b ≡ suc m
      more true _ _ = half_more (2 * m + 1) ∙ omega arith
      more false f _ = absurd (lt_irrefl middle (subst (λ (x : ℕ). middle < x) (f refl) c))

-- k digits of the root are dropped, and how large what is kept of q is
module _ (q : ℕ) where
  abbrev k : ℕ
  k = suc (size q) / 2 - 53

  kept_high : q / 4 ^ k < 4 ^ 53
  kept_high = (div-lt_iff_lt-mul (four_pos k)).1 (lt_of_lt_of_le (size-lt q) (le_trans (pow_mono (few (size q))) (le_of_eq (pow-add 2 106 (2 * k) ∙ ap (λ (x : ℕ). 2 ^ 106 * x) (sym (four_pow k))))))
    where
      few : (s : ℕ) → s ≤ 106 + 2 * (suc s / 2 - 53)
      few s = omega arith

  kept_low : 0 < k → 2 ^ 104 ≤ q / 4 ^ k
  kept_low p = (le-div_iff_mul-le (four_pos k)).1 (le_trans (le_of_eq (ap (λ (x : ℕ). 2 ^ 104 * x) (four_pow k) ∙ sym (pow-add 2 104 (2 * k)))) (size_reaches q (104 + 2 * k) (more (size q) p)))
    where
      more : (s : ℕ) → 0 < suc s / 2 - 53 → 104 + 2 * (suc s / 2 - 53) < s
      more s p = omega arith

  abbrev m : ℕ
  m = whole_root 53 (q / 4 ^ k)

  is_root_kept : IsRoot (q / 4 ^ k) m
  is_root_kept = whole_root_lem 53 (q / 4 ^ k) kept_high

  pub nearest_root_lem : Nearest (nearest_root q) q
  unfolding nearest_root
  nearest_root_lem =
      subst (λ (x : ℕ). Nearest (units binary64 false (nearest m (compare (4 * q) ((2 * m + 1) * (2 * m + 1) * x))) k) q) (sym (four_square k))
      (compared_nearest q k m
      (subst (λ (x : ℕ). IsRoot (q / x) m) (four_square k) is_root_kept)
      (λ p. le_of_suc-le-suc (side_lt (2 ^ 52) (suc m) (lt_of_le_of_lt (kept_low p) is_root_kept.high)))
      (side_lt m (2 ^ 53) (lt_of_le_of_lt is_root_kept.low kept_high))
      (compare (4 * q) ((2 * m + 1) * (2 * m + 1) * (2 ^ k * 2 ^ k)))
      (compared (4 * q) ((2 * m + 1) * (2 * m + 1) * (2 ^ k * 2 ^ k))))
