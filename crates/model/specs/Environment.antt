-- The environments of a site (Schollwöck 2011, 4.2.1): the contraction of the sites on one side with their conjugates. Each walk is a fold of one step.
-- Factor order, the two forms either side of bond product 4, and the skipped zeros are those of compute_left_env, contract_left_env, compute_right_env and contract_right_env.
use Rattle.std.specs.Prelude.{ℕ, ◌+◌, ◌-◌, ◌*◌, Bool, cond, List, leb, eqb, Float}
use Rattle.complex.specs.Complex.{add_c, mul_c, conj_c, is_zero, real, zero_c, one_f}
use Rattle.complex.specs.Loops.{each, between, sum_c}
use Rattle.complex.specs.Numbers.{at, numbers}
use Rattle.complex.specs.Matrix.{rows}
use Rattle.complex.specs.declared.Complex.{Complex}
use Rattle.model.specs.Slots.{State, lefts, rights, site_at, amplitude}

-- a square matrix of a dimension, by rows
pub record Env : Type 0 where
  pub dim : ℕ
  pub entries : List Float

abbrev pub square : ℕ → (ℕ → ℕ → Complex) → Env
square dim f = record { dim = dim; entries = rows dim (λ r. numbers dim (λ c. f r c)) }

abbrev pub env_at : Env → ℕ → ℕ → Complex
env_at e r c = at e.entries (r * e.dim + c)

abbrev pub identity_env : ℕ → Env
identity_env dim = square dim (λ r c. cond (eqb r c) (real one_f) zero_c)

-- bonds whose product is at most 4 keep the sum over four indices
abbrev pub few : ℕ → ℕ → Bool
few bl br = leb (bl * br) 4

-- z plus the term x, unless the factor e is zero
abbrev pub unless_zero : Complex → Complex → (Complex → Complex) → Complex
unless_zero e z f = cond (is_zero e) z (f z)

-- ---- a left environment across a site of bonds bl and br

-- Σ over α, α' and i of env(α, α') · A(α, i, γ) · conj A(α', i, γ'), the terms of a zero env(α, α') left out
abbrev pub left_few : ℕ → ℕ → List Float → Env → ℕ → ℕ → Complex
left_few bl br site e g g' =
    each bl (λ a z. each bl (λ a' z. unless_zero (env_at e a a') z
    (each 2 (λ i z. add_c z (mul_c (mul_c (env_at e a a') (amplitude site br a i g)) (conj_c (amplitude site br a' i g')))))) z) zero_c

-- Σ over α of env(α, α') · A(α, i, γ), then Σ over α' and i of that times conj A(α', i, γ'), the terms of a zero first factor left out of both
abbrev pub left_inner : ℕ → ℕ → List Float → Env → ℕ → ℕ → ℕ → Complex
left_inner bl br site e a' i g = each bl (λ a z. unless_zero (env_at e a a') z (λ z. add_c z (mul_c (env_at e a a') (amplitude site br a i g)))) zero_c

abbrev pub left_many : ℕ → ℕ → List Float → Env → ℕ → ℕ → Complex
left_many bl br site e g g' =
    each bl (λ a' z. each 2 (λ i z. unless_zero (left_inner bl br site e a' i g) z (λ z. add_c z (mul_c (left_inner bl br site e a' i g) (conj_c (amplitude site br a' i g'))))) z) zero_c

unfoldable pub left_across : ℕ → ℕ → List Float → Env → Env
left_across bl br site e = square br (λ g g'. cond (few bl br) (left_few bl br site e g g') (left_many bl br site e g g'))

-- ---- a right environment across a site of bonds bl and br

-- Σ over β, β' and i of A(α, i, β) · conj A(α', i, β') · env(β, β'), the terms of a zero env(β, β') left out
abbrev pub right_few : ℕ → ℕ → List Float → Env → ℕ → ℕ → Complex
right_few bl br site e a a' =
    each br (λ b z. each br (λ b' z. unless_zero (env_at e b b') z
    (each 2 (λ i z. add_c z (mul_c (mul_c (amplitude site br a i b) (conj_c (amplitude site br a' i b'))) (env_at e b b'))))) z) zero_c

-- Σ over β of A(α, i, β) · env(β, β'), then Σ over i and β' of that times conj A(α', i, β'), nothing left out
abbrev pub right_inner : ℕ → List Float → Env → ℕ → ℕ → ℕ → Complex
right_inner br site e a i b' = sum_c br (λ b. mul_c (amplitude site br a i b) (env_at e b b')) zero_c

abbrev pub right_many : ℕ → ℕ → List Float → Env → ℕ → ℕ → Complex
right_many bl br site e a a' = each 2 (λ i z. sum_c br (λ b'. mul_c (right_inner br site e a i b') (conj_c (amplitude site br a' i b'))) z) zero_c

unfoldable pub right_across : ℕ → ℕ → List Float → Env → Env
right_across bl br site e = square bl (λ a a'. cond (few bl br) (right_few bl br site e a a') (right_many bl br site e a a'))

-- ---- the walks

abbrev pub left_step : State → ℕ → Env → Env
left_step s k e = left_across (lefts s k) (rights s k) (site_at s k) e

abbrev pub right_step : State → ℕ → Env → Env
right_step s k e = right_across (lefts s k) (rights s k) (site_at s k) e

-- the left environment of a site, from `from` on; and the right one, from `to` back
unfoldable pub left_env : ℕ → ℕ → State → Env
left_env from site s = between from site (left_step s) (identity_env (lefts s from))

unfoldable pub right_env : ℕ → ℕ → State → Env
right_env site to s = each (to - site) (λ k. right_step s (to - k)) (identity_env (rights s to))
