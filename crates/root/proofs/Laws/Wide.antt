-- Laws of `specs/Wide.antt`.
use Rattle.std.proofs.Common.{lt-ltb, le-ltb, eq-eqb, ne_eqb, sym, ap, ap₂, ◌∙◌, subst, inl, inr, le_refl, lt_irrefl, lt_of_not-le, eq-or-lt_of_le, one-mul, add-mul, mul_assoc, mul_comm, add_comm, div-lt_iff_lt-mul, lt_of_le_of_lt, mul-le-mul, mod-lt, div-add-mod', arith, lit<, pow-add, shl_exact}
use Rattle.std.specs.Prelude.{◌≡◌, ℕ, ◌+◌, ◌-◌, ◌*◌, ◌/◌, ◌%◌, ◌^◌, ◌<◌, ◌≤◌, ◌&&◌, ◌||◌, ◌==◌, nat_lt, refl}
use Rattle.std.proofs.Math.Nat.{add-mul-mod_self_left, add-mul-div_right}
use Rattle.std.proofs.Math.Decide.{dec_le}
use Rattle.std.proofs.Math.Arith.{digits_lt}
use Rattle.root.proofs.Laws.PowersOfFour.{four_pow, four_pos}
use Rattle.root.specs.declared.wide.Wide.{Wide}
use Rattle.root.specs.Wide.{whole, low_word}

-- how large the upper word is
pub upper_lt : (hi lo N : ℕ) → hi * 2 ^ 54 + lo ≡ N → N < 2 ^ 108 → hi < 2 ^ 54
upper_lt hi lo N e h = omega arith

pub upper_ge : (hi lo N : ℕ) → hi * 2 ^ 54 + lo ≡ N → lo < 2 ^ 54 → 2 ^ 106 ≤ N → 2 ^ 52 ≤ hi
upper_ge hi lo N e l h = omega arith

-- the words are compared, the upper ones first
pub whole_lt : (m n : Wide) → (nat_lt m.hi n.hi || (m.hi == n.hi && nat_lt m.lo n.lo)) ≡ nat_lt (whole m) (whole n)
whole_lt m n = words m.hi m.lo n.hi n.lo m.low n.low
  where
    words : (a b c d : ℕ) → b < 2 ^ 54 → d < 2 ^ 54 → (nat_lt a c || (a == c && nat_lt b d)) ≡ nat_lt (a * 2 ^ 54 + b) (c * 2 ^ 54 + d)
    words a b c d B D = elim (dec_le c a) [
      | no n ↦ rw (lt-ltb a c (lt_of_not-le n), lt-ltb (a * 2 ^ 54 + b) (c * 2 ^ 54 + d) (omega (arith, lt_of_not-le n))) refl
      | yes h ↦ elim (eq-or-lt_of_le h) [
        | inl e ↦ rw (e, le-ltb a a (le_refl a), eq-eqb a a refl) (elim (dec_le d b) [
          | yes k ↦ le-ltb b d k ∙ sym (le-ltb (a * 2 ^ 54 + b) (a * 2 ^ 54 + d) (omega (arith, k)))
          | no k ↦ lt-ltb b d (lt_of_not-le k) ∙ sym (lt-ltb (a * 2 ^ 54 + b) (a * 2 ^ 54 + d) (omega (arith, lt_of_not-le k)))
        ])
        | inr l ↦ rw (le-ltb a c h, ne_eqb a c (λ e. lt_irrefl a (subst (λ (x : ℕ). x < a) (sym e) l)), le-ltb (a * 2 ^ 54 + b) (c * 2 ^ 54 + d) (omega (arith, l))) refl
      ]
    ]

-- the products of m's halves
pub products : (m : ℕ) → m < 2 ^ 54 → let a = m / 2 ^ 27 in let b = m % 2 ^ 27 in (a * b < 2 ^ 54) × (b * b < 2 ^ 54) × (a * a < 2 ^ 54)
products m h = let A : m / 2 ^ 27 ≤ 2 ^ 27 - 1 = omega arith in let B : m % 2 ^ 27 ≤ 2 ^ 27 - 1 = omega arith in (lt_of_le_of_lt (mul-le-mul A B) (lit< tt), lt_of_le_of_lt (mul-le-mul B B) (lit< tt), lt_of_le_of_lt (mul-le-mul A A) (lit< tt))

pub square_whole : (m : ℕ) → let a = m / 2 ^ 27 in let b = m % 2 ^ 27 in (a * a + a * b / 2 ^ 26 + low_word a b / 2 ^ 54) * 2 ^ 54 + low_word a b % 2 ^ 54 ≡ m * m
square_whole m = halves (m / 2 ^ 27) (m % 2 ^ 27) ∙ ap (λ (x : ℕ). x * x) (div-add-mod' m (2 ^ 27))
  where
    halves : (a b : ℕ) → (a * a + a * b / 2 ^ 26 + low_word a b / 2 ^ 54) * 2 ^ 54 + low_word a b % 2 ^ 54 ≡ (a * 2 ^ 27 + b) * (a * 2 ^ 27 + b)
    halves a b = omega arith

-- ---- the quotient by t = 4 ^ k, where t * u = 2 ^ 54; t and u as the program makes them

module _ (k : ℕ) (K : k ≤ 26) where
  abbrev t : ℕ
  t = 1 * 2 ^ (2 * k) % 2 ^ 64

  abbrev u : ℕ
  u = 1 * 2 ^ (54 - 2 * k) % 2 ^ 64

  t_is : t ≡ 4 ^ k
  t_is = shl_exact 1 (2 * k) 64 (lit< tt) (omega arith) ∙ one-mul (2 ^ (2 * k)) ∙ sym (four_pow k)

  pub divisor_pos : 0 < t
  divisor_pos = subst (λ (x : ℕ). 0 < x) (sym t_is) (four_pos k)

  both : t * u ≡ 2 ^ 54
  both = ap₂ (λ (x y : ℕ). x * y) (t_is ∙ four_pow k) (shl_exact 1 (54 - 2 * k) 64 (lit< tt) (omega arith) ∙ one-mul (2 ^ (54 - 2 * k))) ∙ sym (pow-add 2 (2 * k) (54 - 2 * k)) ∙ ap (λ (x : ℕ). 2 ^ x) all
    where
      all : 2 * k + (54 - 2 * k) ≡ 54
      all = omega arith

  module _ (n : Wide) where
    pub quotient_low : n.hi % t * u + n.lo / t < 2 ^ 54
    quotient_low = subst (λ (x : ℕ). n.hi % t * u + n.lo / t < x) both (digits_lt (mod-lt n.hi divisor_pos) ((div-lt_iff_lt-mul divisor_pos).1 (subst (λ (x : ℕ). n.lo < x) (sym both ∙ mul_comm t u) n.low)))

    by_t : whole n ≡ n.lo + n.hi * u * t
    by_t = ap (λ (x : ℕ). n.hi * x + n.lo) (sym both ∙ mul_comm t u) ∙ add_comm (n.hi * (u * t)) n.lo ∙ ap (λ (x : ℕ). n.lo + x) (sym (mul_assoc n.hi u t))

    pub quotient_whole : n.hi / t * 2 ^ 54 + (n.hi % t * u + n.lo / t) ≡ whole n / 4 ^ k
    quotient_whole = moved (n.hi * u) (n.hi / t * 2 ^ 54) (n.hi % t * u) (n.lo / t) hi_parts ∙ sym (ap (λ (x : ℕ). x / t) by_t ∙ add-mul-div_right n.lo (n.hi * u) divisor_pos) ∙ ap (λ (x : ℕ). whole n / x) t_is
      where
        hi_parts : n.hi * u ≡ n.hi / t * 2 ^ 54 + n.hi % t * u
        hi_parts = ap (λ (x : ℕ). x * u) (sym (div-add-mod' n.hi t)) ∙ add-mul (n.hi / t * t) (n.hi % t) u ∙ ap (λ (x : ℕ). x + n.hi % t * u) (mul_assoc (n.hi / t) t u ∙ ap (λ (x : ℕ). n.hi / t * x) both)

        moved : (A B C D : ℕ) → A ≡ B + C → B + (C + D) ≡ D + A
        moved A B C D e = omega arith

    pub quotient_left : n.lo % t ≡ whole n % 4 ^ k
    quotient_left = sym (ap (λ (x : ℕ). x % t) (by_t ∙ ap (λ (x : ℕ). n.lo + x) (mul_comm (n.hi * u) t)) ∙ add-mul-mod_self_left n.lo t (n.hi * u)) ∙ ap (λ (x : ℕ). whole n % x) t_is
