-- Runs of complex numbers in a list, worked on in place: a step reads what the steps before it left.
use Rattle.std.specs.Prelude.{ℕ, ◌+◌, List, Float}
use Rattle.complex.specs.Complex.{norm_sqr, scale_c, zero_c, zero_f}
use Rattle.complex.specs.Loops.{each, sum_f}
use Rattle.complex.specs.Numbers.{at, store}
use Rattle.root.specs.Root.{root_of}

-- the squared moduli of the n numbers from base on, summed; and the root of that, the run's 2-norm (l2_norm of svd.rs)
abbrev pub squares : List Float → ℕ → ℕ → Float
squares w base n = sum_f n (λ k. norm_sqr (at w (base + k))) zero_f

unfoldable pub l2_norm : List Float → ℕ → ℕ → Float
l2_norm w base n = root_of (squares w base n)

-- the n numbers from `to` on become those from `from` on, scaled
unfoldable pub scaled_to : ℕ → ℕ → ℕ → Float → List Float → List Float
scaled_to from to n by w = each n (λ k ys. store ys (to + k) (scale_c (at ys (from + k)) by)) w

-- the n numbers from base on become +0
unfoldable pub zeroed : ℕ → ℕ → List Float → List Float
zeroed base n w = each n (λ k ys. store ys (base + k) zero_c) w
