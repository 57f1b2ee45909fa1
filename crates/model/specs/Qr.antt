-- The thin QR factoring of a gauge move, by modified Gram-Schmidt (Golub and Van Loan, 5.2.8) with up to two passes more, each operation rounded in the
-- order of ThinQr::factorize_gram_schmidt. It works in place: the list holds, in numbers, a matrix of `high` rows and `wide` columns, by columns, from 0 on, whose
-- first `rank` columns become q; and r, of min(high, wide) rows and `wide` columns, by rows, from wide * high on.
use Rattle.std.specs.Prelude.{ℕ, zero, suc, ◌+◌, ◌*◌, ◌/◌, min, cond, ◌&&◌, List, ◌++◌, replicate, ltb, eqb, Float}
use Rattle.std.specs.Float.{binary64}
use Rattle.std.specs.Float.Ieee.{mul, div, lt, of_bits}
use Rattle.complex.specs.Complex.{add_c, sub_c, mul_c, conj_c, real, zero_c, zero_f, one_f}
use Rattle.complex.specs.Loops.{each, between}
use Rattle.complex.specs.Numbers.{at, store}
use Rattle.complex.specs.declared.Complex.{Complex}
use Rattle.model.specs.Columns.{l2_norm, scaled_to, zeroed}

-- 0.5 (QR_PASS_RETAIN) and 1e-14 (QR_RANK_REL_TOL)
abbrev pub pass_retain : Float
pass_retain = of_bits binary64 0x3fe0_0000_0000_0000

abbrev pub rank_tolerance : Float
rank_tolerance = of_bits binary64 0x3d06_849b_86a1_2b9b

-- ---- the product of two columns

-- conj (number a) times number b, added to acc
unfoldable pub term : List Float → ℕ → ℕ → Complex → Complex
term w a b acc = add_c acc (mul_c (conj_c (at w a)) (at w b))

-- the terms at the places p 0, p 1, .. p (m - 1), added
abbrev pub run_of : List Float → ℕ → ℕ → (ℕ → ℕ) → ℕ → Complex
run_of w a b p m = each m (λ t. term w (a + p t) (b + p t)) zero_c

-- four running sums by place modulo 4, the places past the last whole four all in the first; the total is (0 + 1) + (2 + 3)
unfoldable pub dot : List Float → ℕ → ℕ → ℕ → Complex
dot w a b n =
    let m = n / 4 in
    let first = between (4 * m) n (λ k. term w (a + k) (b + k)) (run_of w a b (λ t. 4 * t) m) in
    add_c (add_c first (run_of w a b (λ t. 4 * t + 1) m)) (add_c (run_of w a b (λ t. 4 * t + 2) m) (run_of w a b (λ t. 4 * t + 3) m))

-- ---- one column

-- d times the n numbers from `from` on, taken from those from `to` on
unfoldable pub taken_away : ℕ → ℕ → ℕ → Complex → List Float → List Float
taken_away from to n d w = each n (λ k ys. store ys (to + k) (sub_c (at ys (to + k)) (mul_c d (at ys (from + k))))) w

-- where r's entry (i, j) stands
abbrev pub entry_at : ℕ → ℕ → ℕ → ℕ → ℕ
entry_at high wide i j = wide * high + (i * wide + j)

-- column j's part along column i of q is taken from it, and added to r's entry (i, j)
unfoldable pub projected_on : ℕ → ℕ → ℕ → ℕ → List Float → List Float
projected_on high wide j i w =
    let d = dot w (i * high) (j * high) high in
    let ys = taken_away (i * high) (j * high) high d w in
    store ys (entry_at high wide i j) (add_c (at ys (entry_at high wide i j)) d)

-- a column's residual, and the list
pub record Passed : Type 0 where
  pub residual : Float
  pub w : List Float

abbrev pub passed : Float → List Float → Passed
passed x w = record { residual = x; w = w }

-- one pass: along each of the columns kept; the residual is the norm of what is left
unfoldable pub pass_of : ℕ → ℕ → ℕ → ℕ → List Float → Passed
pass_of high wide rank j w = let ys = each rank (projected_on high wide j) w in passed (l2_norm ys (j * high) high) ys

-- at most k passes, left as soon as the residual exceeds half the previous one
unfoldable pub passes_of : ℕ → ℕ → ℕ → ℕ → ℕ → Float → List Float → Passed
passes_of high wide rank j zero previous w = passed previous w
passes_of high wide rank j (suc k) previous w =
    let x = pass_of high wide rank j w in
    let more = passes_of high wide rank j k x.residual x.w in
    cond (lt (mul binary64 pass_retain previous) x.residual) x more

-- how many columns are kept, and the list
pub record Kept : Type 0 where
  pub rank : ℕ
  pub w : List Float

abbrev pub kept : ℕ → List Float → Kept
kept rank w = record { rank = rank; w = w }

-- A column is kept if there is room and its residual is above 1e-14 of its norm: it is scaled by the rounded inverse of the residual, and the residual is r's entry.
unfoldable pub kept_of : ℕ → ℕ → ℕ → ℕ → Float → ℕ → Passed → Kept
kept_of high wide cap j norm rank x =
    let scaled = scaled_to (j * high) (rank * high) high (div binary64 one_f x.residual) x.w in
    cond (ltb rank cap && lt (mul binary64 rank_tolerance norm) x.residual)
    (kept (rank + 1) (store scaled (entry_at high wide rank j) (real x.residual)))
    (kept rank x.w)

unfoldable pub column_of : ℕ → ℕ → ℕ → ℕ → Kept → Kept
column_of high wide cap j k =
    let norm = l2_norm k.w (j * high) high in
    kept_of high wide cap j norm k.rank (passes_of high wide k.rank j 3 norm k.w)

-- ---- the whole

-- where no column is kept, q is (1, 0, ..) and r stays 0
unfoldable pub raised : ℕ → Kept → Kept
raised high k = cond (eqb k.rank 0) (kept 1 (store (zeroed 0 high k.w) 0 (real one_f))) k

unfoldable pub qr : ℕ → ℕ → List Float → Kept
qr high wide a =
    let cap = min high wide in
    raised high (each wide (column_of high wide cap) (kept 0 (a ++ replicate (2 * (cap * wide)) zero_f)))
