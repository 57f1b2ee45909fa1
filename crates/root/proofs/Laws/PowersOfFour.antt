-- Powers of four, which are squares of powers of two. Assumes nothing.
use Rattle.std.specs.Prelude.{◌≡◌, ℕ, zero, suc, ◌+◌, ◌*◌, ◌^◌, ◌<◌, refl}
use Rattle.std.proofs.Common.{sym, ap, ◌∙◌, subst, pow-suc, arith, pow_pos, pow-add}

pub four_pow : (h : ℕ) → 4 ^ h ≡ 2 ^ (2 * h)
four_pow zero = refl
four_pow (suc h) = pow-suc 4 h ∙ ap (λ (x : ℕ). x * 4) (four_pow h) ∙ sym (pow-add 2 (2 * h) 2) ∙ ap (λ (x : ℕ). 2 ^ x) (next h)
  where
    next : (h : ℕ) → 2 * h + 2 ≡ 2 * suc h
    next h = omega arith

pub four_square : (k : ℕ) → 4 ^ k ≡ 2 ^ k * 2 ^ k
four_square k = four_pow k ∙ ap (λ (x : ℕ). 2 ^ x) (twice k) ∙ pow-add 2 k k
  where
    twice : (k : ℕ) → 2 * k ≡ k + k
    twice k = omega arith

pub four_pos : (k : ℕ) → 0 < 4 ^ k
four_pos k = subst (λ (x : ℕ). 0 < x) (sym (four_pow k)) (pow_pos (2 * k))
