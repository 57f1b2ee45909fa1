-- Why the root of an f64 is no midpoint of two of them: an exact root of a short number is short itself. Nothing here is about floats. Assumes nothing.
use Rattle.std.specs.Prelude.{◌≡◌, ℕ, zero, suc, ◌+◌, ◌*◌, ◌/◌, ◌%◌, ◌^◌, ◌<◌, ◌≢◌}
use Rattle.std.proofs.Common.{sym, ap, ◌∙◌, subst, inl, inr, lt_of_le_of_lt, le_of_eq, mul-one, mul_assoc, pow-suc, arith}
use Rattle.root.proofs.Laws.Whole.{side_lt}
use Rattle.root.proofs.Laws.NearestHalf.{parity}

even_root : (s : ℕ) → s * s % 2 ≡ 0 → s % 2 ≡ 0
even_root s e = elim (parity s) [ inl f ↦ f | inr f ↦ absurd (odd_square (s / 2) (subst (λ (x : ℕ). x * x % 2 ≡ 0) (halves f) e)) ]
  where
    halves : s % 2 ≡ 1 → s ≡ 2 * (s / 2) + 1
    halves f = omega arith

    odd_square : (k : ℕ) → (2 * k + 1) * (2 * k + 1) % 2 ≢ 0
    odd_square k z = let p : (2 * k + 1) * (2 * k + 1) ≡ 2 * (2 * (k * k) + 2 * k) + 1 = omega arith in omega arith

-- where the square of s is m * 4 ^ h, s is t * 2 ^ h, and t has half as many binary digits as m
pub short_root : (h s m : ℕ) → m < 2 ^ 54 → s * s ≡ m * 4 ^ h → (t : ℕ) × (t < 2 ^ 27) × (s ≡ t * 2 ^ h)
short_root zero s m l e = (s, side_lt s (2 ^ 27) (lt_of_le_of_lt (le_of_eq (e ∙ mul-one m)) l), sym (mul-one s))
short_root (suc h) s m l e =
    let f : s * s ≡ m * 4 ^ h * 4 = e ∙ ap (λ (x : ℕ). m * x) (pow-suc 4 h) ∙ sym (mul_assoc m (4 ^ h) 4) in
    let two : s ≡ s / 2 * 2 = halves s (even_root s (fourth (s * s) (m * 4 ^ h) f)) in
    let p = short_root h (s / 2) m l (quarter (s / 2) (m * 4 ^ h) (subst (λ (x : ℕ). x * x ≡ m * 4 ^ h * 4) two f)) in
    (p.0, p.1, two ∙ ap (λ (x : ℕ). x * 2) p.2 ∙ mul_assoc p.0 (2 ^ h) 2 ∙ ap (λ (x : ℕ). p.0 * x) (sym (pow-suc 2 h)))
  where
    fourth : (a b : ℕ) → a ≡ b * 4 → a % 2 ≡ 0
    fourth a b e = omega arith

    halves : (s : ℕ) → s % 2 ≡ 0 → s ≡ s / 2 * 2
    halves s e = omega arith

    quarter : (v b : ℕ) → v * 2 * (v * 2) ≡ b * 4 → v * v ≡ b
    quarter v b e = omega arith
