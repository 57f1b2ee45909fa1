-- The thin singular value decomposition of a cut (svd_jacobi; Golub and Van Loan, 8.6, Jacobi SVD procedures): rotations until all pairs of columns are orthogonal, the columns' norms
-- as values, and the columns in the values' order. Where there are fewer rows than columns, the conjugate transpose is decomposed.
use Rattle.std.specs.Prelude.{ℕ, ◌+◌, ◌*◌, Bool, true, false, cond, ◌||◌, List, ◌++◌, ltb, Float, get_or, set, replicate}
use Rattle.std.specs.Float.{binary64}
use Rattle.std.specs.Float.Ieee.{div, lt, le, is_nan}
use Rattle.complex.specs.Complex.{conj_c, real, zero_f, one_f}
use Rattle.complex.specs.Loops.{each, between, tabulate}
use Rattle.complex.specs.Numbers.{at, store}
use Rattle.complex.specs.declared.Complex.{Complex}
use Rattle.model.specs.Columns.{l2_norm, scaled_to, zeroed}
use Rattle.model.specs.Jacobi.{sweeps}

-- ---- in place. Behind the matrix and the rotations of Jacobi.antt stand the values, each with the imaginary part +0

abbrev pub values_at : ℕ → ℕ → ℕ
values_at high wide = wide * high + wide * wide

-- 1 at each place of the diagonal of the n by n matrix from base on
unfoldable pub identity_at : ℕ → ℕ → List Float → List Float
identity_at base n w = each n (λ i ys. store ys (base + (i * n + i)) (real one_f)) w

-- column j's norm is its value; the column is scaled by the norm's rounded inverse, or zero where the norm is not above the clamp
unfoldable pub normalised : ℕ → ℕ → Float → ℕ → List Float → List Float
normalised high wide clamp j w =
    let norm = l2_norm w (j * high) high in
    let ys = store w (values_at high wide + j) (real norm) in
    cond (lt clamp norm) (scaled_to (j * high) (j * high) high (div binary64 one_f norm) ys) (zeroed (j * high) high ys)

unfoldable pub factored : ℕ → ℕ → Float → List Float → List Float
factored high wide clamp a =
    each wide (normalised high wide clamp) (sweeps high wide 100 (identity_at (wide * high) wide (a ++ replicate (2 * (wide * wide + wide)) zero_f)))

-- ---- the order of n values s 0, s 1, .. s (n - 1): downward, equal ones by lower column first

abbrev pub tallied : Bool → ℕ → ℕ
tallied b c = cond b (c + 1) c

-- how many come before j: those of lower column whose value is no less, and those of higher column whose value is greater
unfoldable pub earlier : (ℕ → Float) → ℕ → ℕ
earlier s j = each j (λ k. tallied (le (s j) (s k))) 0

unfoldable pub later : ℕ → (ℕ → Float) → ℕ → ℕ
later n s j = between (j + 1) n (λ k. tallied (lt (s j) (s k))) 0

abbrev pub place : ℕ → (ℕ → Float) → ℕ → ℕ
place n s j = earlier s j + later n s j

-- the columns in that order, in a list with room for 256
unfoldable pub order_of : ℕ → (ℕ → Float) → List ℕ
order_of n s = each n (λ j o. set o (place n s j) j) (replicate 256 0)

-- ---- the factors

-- The list `factored` of a matrix of `high` rows and `wide` columns, with the order of its values. `adjoint` says that the matrix is the conjugate transpose of the one asked for.
pub record Svd : Type 0 where
  pub adjoint : Bool
  pub high : ℕ
  pub wide : ℕ
  pub w : List Float
  pub order : List ℕ

-- value j before ordering, and whether one of them is a NaN
abbrev pub raw_value : Svd → ℕ → Float
raw_value d j = (at d.w (values_at d.high d.wide + j)).re

unfoldable pub any_nan : ℕ → (ℕ → Float) → Bool
any_nan n s = each n (λ k b. b || is_nan (s k)) false

abbrev pub column_at : Svd → ℕ → ℕ
column_at d g = get_or d.order g 0

-- the values in order
abbrev pub value_at : Svd → ℕ → Float
value_at d g = raw_value d (column_at d g)

unfoldable pub values : Svd → List Float
values d = tabulate d.wide (value_at d)

-- U's element (r, g) and V†'s element (g, c): column g of the matrix and of the rotations, the latter conjugate; of a conjugate transpose it is the other way round
abbrev pub direction : Svd → ℕ → ℕ → Complex
direction d g r = at d.w (column_at d g * d.high + r)

abbrev pub turn : Svd → ℕ → ℕ → Complex
turn d g r = at d.w (d.wide * d.high + (column_at d g * d.wide + r))

abbrev pub u_at : Svd → ℕ → ℕ → Complex
u_at d r g = cond d.adjoint (turn d g r) (direction d g r)

abbrev pub vt_at : Svd → ℕ → ℕ → Complex
vt_at d g c = conj_c (cond d.adjoint (direction d g c) (turn d g c))

abbrev pub ordered : Bool → ℕ → ℕ → List Float → Svd
ordered adjoint high wide w = record {
  adjoint = adjoint;
  high = high;
  wide = wide;
  w = w;
  order = order_of wide (λ k. (at w (values_at high wide + k)).re);
}

-- of a matrix of m rows and n columns, given by columns, and as its conjugate transpose by columns
unfoldable pub svd : Float → ℕ → ℕ → List Float → List Float → Svd
svd clamp m n straight adjoint =
    let flipped = ordered true n m (factored n m clamp adjoint) in
    let upright = ordered false m n (factored m n clamp straight) in
    cond (ltb m n) flipped upright
