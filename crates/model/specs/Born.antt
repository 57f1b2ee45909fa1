-- The weights of the two outcomes at the centre (Schollwöck 2011, 4.1.3: in mixed-canonical form the centre's own amplitudes give them), the draw, projection and reset
-- (born_weights, draw_outcome, project_site_outcome, collapse_site_to_zero).
use Rattle.std.specs.Prelude.{ℕ, Bool, true, false, cond, List, eqb, Float}
use Rattle.std.specs.Float.{binary64}
use Rattle.std.specs.Float.Ieee.{add, mul, div, lt, le}
use Rattle.complex.specs.Complex.{mul_c, norm_sqr, real, zero_c, zero_f, one_f}
use Rattle.complex.specs.Loops.{sum_f}
use Rattle.complex.specs.Numbers.{numbers}
use Rattle.complex.specs.Matrix.{rows}
use Rattle.complex.specs.declared.Complex.{Complex}
use Rattle.root.specs.Root.{root_of}
use Rattle.model.specs.Slots.{State, held, lefts, rights, site_at, with_site, amplitude}
use Rattle.model.specs.Moves.{centered_on}

abbrev pub bit_of : Bool → ℕ
bit_of o = cond o 1 0

-- the Born weight of outcome o, not divided by the total: each left index is summed first
unfoldable pub weight : ℕ → ℕ → List Float → Bool → Float
weight bl br site o = sum_f bl (λ a. sum_f br (λ b. norm_sqr (amplitude site br a (bit_of o) b)) zero_f) zero_f

abbrev pub total : ℕ → ℕ → List Float → Float
total bl br site = add binary64 (weight bl br site false) (weight bl br site true)

-- the outcome that a draw picks
unfoldable pub drawn : Float → ℕ → ℕ → List Float → Bool
drawn draw bl br site = lt (mul binary64 draw (total bl br site)) (weight bl br site true)

-- one over the root of a weight, as a complex number
abbrev pub rescale : Float → Complex
rescale w = real (div binary64 one_f (root_of w))

-- a site projected on outcome o: its amplitudes at o rescaled, the others +0
unfoldable pub projected_site : ℕ → ℕ → Bool → List Float → List Float
projected_site bl br o site =
    rows bl (λ a. rows 2 (λ i. numbers br (λ b. cond (eqb i (bit_of o)) (mul_c (amplitude site br a i b) (rescale (weight bl br site o))) zero_c)))

-- a site reset from outcome o: its amplitudes at o, rescaled, at bit 0, and +0 at bit 1
unfoldable pub reset_site : ℕ → ℕ → Bool → List Float → List Float
reset_site bl br o site =
    rows bl (λ a. rows 2 (λ i. numbers br (λ b. cond (eqb i 0) (mul_c (amplitude site br a (bit_of o) b) (rescale (weight bl br site o))) zero_c)))

-- ---- at a site, the centre being there

abbrev pub weight_at : ℕ → Bool → State → Float
weight_at k o s = weight (lefts s k) (rights s k) (site_at s k) o

abbrev pub total_at : ℕ → State → Float
total_at k s = total (lefts s k) (rights s k) (site_at s k)

abbrev pub drawn_at : ℕ → Float → State → Bool
drawn_at k draw s = drawn draw (lefts s k) (rights s k) (site_at s k)

-- the state with another site in its slot, unless the outcome's weight is at most the clamp
abbrev pub unless_clamped : ℕ → Bool → List Float → State → State
unless_clamped k o site s =
    cond (le (weight_at k o s) s.chain.norm_clamp_min) s (held s.chain (with_site s.chain.max_bond_dim k site s.store))

unfoldable pub projected_at : ℕ → Bool → State → State
projected_at k o s = unless_clamped k o (projected_site (lefts s k) (rights s k) o (site_at s k)) s

unfoldable pub reset_at : ℕ → Bool → State → State
reset_at k o s = unless_clamped k o (reset_site (lefts s k) (rights s k) o (site_at s k)) s

-- the centre brought to site k
abbrev pub readied : ℕ → State → State
readied k s = centered_on k s.chain.center s
