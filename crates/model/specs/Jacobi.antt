-- One-sided Jacobi rotations (Golub and Van Loan, 8.6, Jacobi SVD procedures), each operation rounded in the order of svd_jacobi. It works in place: the list holds, in numbers, a matrix
-- of `high` rows and `wide` columns, by columns, from 0 on, and the product of the rotations, `wide` by `wide`, by columns, from wide * high on.
use Rattle.std.specs.Prelude.{ℕ, zero, suc, ◌+◌, ◌*◌, Bool, true, false, cond, List, Float}
use Rattle.std.specs.Float.{binary64}
use Rattle.std.specs.Float.Ieee.{add, sub, mul, div, neg, le, of_bits}
use Rattle.complex.specs.Complex.{add_c, mul_c, conj_c, neg_c, norm_sqr, unscale_c, real, zero_c, zero_f, one_f}
use Rattle.complex.specs.Loops.{each, between, sum_c}
use Rattle.complex.specs.Numbers.{at, store}
use Rattle.complex.specs.declared.Complex.{Complex}
use Rattle.root.specs.Root.{root_of}
use Rattle.root.specs.Norm.{norm_of}
use Rattle.model.specs.Columns.{squares}
use Rattle.model.specs.declared.Gram.{Gram}
use Rattle.model.specs.declared.Rotation.{Rotation}

-- 1e-15 (JACOBI_REL_TOL), and 2
abbrev pub jacobi_tolerance : Float
jacobi_tolerance = of_bits binary64 0x3cd2_03af_9ee7_5616

abbrev pub two : Float
two = of_bits binary64 0x4000_0000_0000_0000

-- ---- one pair of columns

-- columns p and q: the sums of their squared moduli, and of conj(p) times q
abbrev pub gram : List Float → ℕ → ℕ → ℕ → Gram
gram w high p q = record {
  pp = squares w (p * high) high;
  qq = squares w (q * high) high;
  pq = sum_c high (λ r. mul_c (conj_c (at w (p * high + r))) (at w (q * high + r))) zero_c;
}

-- the pair is skipped: |g_pq|^2 is at most 1e-15 * 1e-15 * g_pp * g_qq, multiplied left to right
unfoldable pub skipped : Gram → Bool
skipped g = le (norm_sqr g.pq) (mul binary64 (mul binary64 (mul binary64 jacobi_tolerance jacobi_tolerance) g.pp) g.qq)

-- 1 + x * x, of which the tangent and the cosine take the root
abbrev pub one_plus_square : Float → Float
one_plus_square x = add binary64 one_f (mul binary64 x x)

-- the tangent of the rotation's angle, of smaller magnitude
unfoldable pub tangent : Float → Float
tangent tau =
    let far = root_of (one_plus_square tau) in
    cond (le zero_f tau) (div binary64 (neg one_f) (add binary64 tau far)) (div binary64 one_f (add binary64 (neg tau) far))

-- the rotation that makes the pair orthogonal: its cosine, its sine, and the conjugate of g_pq's phase
unfoldable pub rotation : Gram → Rotation
rotation g =
    let size = norm_of g.pq in
    let t = tangent (div binary64 (sub binary64 g.qq g.pp) (mul binary64 two size)) in
    let c = div binary64 one_f (root_of (one_plus_square t)) in
    record { c = c; s = mul binary64 t c; phase_conj = conj_c (unscale_c g.pq size) }

-- what a number x of column p and the number y of column q in its row become
unfoldable pub rotated_p : Rotation → Complex → Complex → Complex
rotated_p t x y = add_c (mul_c (real t.c) x) (mul_c (mul_c (real t.s) t.phase_conj) y)

unfoldable pub rotated_q : Rotation → Complex → Complex → Complex
rotated_q t x y = add_c (mul_c (neg_c (real t.s)) x) (mul_c (mul_c (real t.c) t.phase_conj) y)

-- numbers i and j, rotated
unfoldable pub rotated_pair : Rotation → ℕ → ℕ → List Float → List Float
rotated_pair t i j w = store (store w i (rotated_p t (at w i) (at w j))) j (rotated_q t (at w i) (at w j))

-- columns p and q, rotated, of the matrix of m rows that stands from base on
unfoldable pub rotated : Rotation → ℕ → ℕ → ℕ → ℕ → List Float → List Float
rotated t base m p q w = each m (λ r. rotated_pair t (base + (p * m + r)) (base + (q * m + r))) w

-- ---- sweeps

-- the list, and whether a pair was rotated
pub record Swept : Type 0 where
  pub turned : Bool
  pub w : List Float

abbrev pub swept : Bool → List Float → Swept
swept b w = record { turned = b; w = w }

unfoldable pub pair_step : ℕ → ℕ → ℕ → ℕ → Swept → Swept
pair_step high wide p q x =
    let g = gram x.w high p q in
    let t = rotation g in
    cond (skipped g) x (swept true (rotated t (wide * high) wide p q (rotated t 0 high p q x.w)))

-- p with each q from p + 1 on, and that for each p
unfoldable pub row_of_pairs : ℕ → ℕ → ℕ → Swept → Swept
row_of_pairs high wide p x = between (p + 1) wide (pair_step high wide p) x

unfoldable pub sweep : ℕ → ℕ → List Float → Swept
sweep high wide w = each wide (row_of_pairs high wide) (swept false w)

-- at most k sweeps; one without a rotation is the last
unfoldable pub sweeps : ℕ → ℕ → ℕ → List Float → List Float
sweeps high wide zero w = w
sweeps high wide (suc k) w = let x = sweep high wide w in let more = sweeps high wide k x.w in cond x.turned more x.w
