-- What Golub and Van Loan say of the factorings, over the definitions of Jacobi.antt, Svd.antt and Qr.antt. Statements only: JacobiLaws.antt, OrderLaws.antt,
-- SvdLaws.antt and QrLaws.antt prove them.
use Rattle.std.specs.Prelude.{◌≡◌, ◌≢◌, ◌⊎◌, Bool, true, false, cond, ◌&&◌, List, ◌++◌, ℕ, ◌+◌, ◌*◌, ◌≤◌, ◌<◌, min, max, T, ltb, length, get_or, replicate, Float}
use Rattle.std.specs.Float.{binary64}
use Rattle.std.specs.Float.Ieee.{mul, div, lt, le}
use Rattle.complex.specs.Complex.{add_c, sub_c, mul_c, scale_c, real, zero_c, zero_f, one_f}
use Rattle.complex.specs.Loops.{each}
use Rattle.complex.specs.Numbers.{count, at}
use Rattle.complex.specs.declared.Complex.{Complex}
use Rattle.model.specs.declared.Rotation.{Rotation}
use Rattle.model.specs.Columns.{l2_norm}
use Rattle.model.specs.Jacobi.{gram, skipped, rotation, rotated_p, rotated_q, rotated, Swept, swept, pair_step, sweep, sweeps}
use Rattle.model.specs.Qr.{dot, entry_at, projected_on, Passed, pass_of, passes_of, Kept, kept, column_of, qr, rank_tolerance}
use Rattle.model.specs.Svd.{values_at, identity_at, factored, place, order_of, Svd, raw_value, any_nan, column_at, value_at, direction, turn, ordered, svd}

-- ---- a rotation (8.6.3): the two numbers of each row of columns p and q are turned, and no other number changes

pub record Rotated (t : Rotation) (base m p q : ℕ) (w : List Float) : Type 0 where
  pub long : length (rotated t base m p q w) ≡ length w
  pub first : (r : ℕ) → r < m → at (rotated t base m p q w) (base + (p * m + r)) ≡ rotated_p t (at w (base + (p * m + r))) (at w (base + (q * m + r)))
  pub second : (r : ℕ) → r < m → at (rotated t base m p q w) (base + (q * m + r)) ≡ rotated_q t (at w (base + (p * m + r))) (at w (base + (q * m + r)))
  pub others : (k : ℕ) → ((r : ℕ) → r < m → (k ≢ base + (p * m + r)) × (k ≢ base + (q * m + r))) → at (rotated t base m p q w) k ≡ at w k

-- .. of two columns of a matrix of n columns
unfoldable pub RotationLaw : Type 0
RotationLaw = (t : Rotation) (base m n p q : ℕ) (w : List Float) → p ≢ q → p < n → q < n → base + n * m ≤ count w → Rotated t base m p q w

-- ---- a pair of columns that is not skipped: its rotation turns the matrix's two columns and the two columns of the product of the rotations, and nothing else

pub record Turned (high wide p q : ℕ) (t : Rotation) (w v : List Float) : Type 0 where
  pub long : length v ≡ length w
  pub first : (r : ℕ) → r < high → at v (p * high + r) ≡ rotated_p t (at w (p * high + r)) (at w (q * high + r))
  pub second : (r : ℕ) → r < high → at v (q * high + r) ≡ rotated_q t (at w (p * high + r)) (at w (q * high + r))
  pub product_first : (r : ℕ) → r < wide
      → at v (wide * high + (p * wide + r)) ≡ rotated_p t (at w (wide * high + (p * wide + r))) (at w (wide * high + (q * wide + r)))
  pub product_second : (r : ℕ) → r < wide
      → at v (wide * high + (q * wide + r)) ≡ rotated_q t (at w (wide * high + (p * wide + r))) (at w (wide * high + (q * wide + r)))
  pub others : (k : ℕ) → ((r : ℕ) → r < high → (k ≢ p * high + r) × (k ≢ q * high + r))
      → ((r : ℕ) → r < wide → (k ≢ wide * high + (p * wide + r)) × (k ≢ wide * high + (q * wide + r))) → at v k ≡ at w k

unfoldable pub PairLaw : Type 0
PairLaw =
    (high wide p q : ℕ) (x : Swept) → p < q → q < wide → wide * high + wide * wide ≤ count x.w → skipped (gram x.w high p q) ≡ false
    → ((pair_step high wide p q x).turned ≡ true) × Turned high wide p q (rotation (gram x.w high p q)) x.w (pair_step high wide p q x).w

-- ---- sweeps: they end by one without a rotation, and then every pair of columns passes the skip test; or each of them has a rotation

-- the list after k sweeps
unfoldable pub swept_times : ℕ → ℕ → ℕ → List Float → List Float
swept_times high wide k w = each k (λ i ys. (sweep high wide ys).w) w

-- one of the first `limit` sweeps makes no rotation; and each of them makes one
abbrev pub Converged : ℕ → ℕ → ℕ → List Float → Type 0
Converged high wide limit w = (k : ℕ) × (k < limit) × ((sweep high wide (swept_times high wide k w)).turned ≡ false)

abbrev pub Exhausted : ℕ → ℕ → ℕ → List Float → Type 0
Exhausted high wide limit w = (k : ℕ) → k < limit → (sweep high wide (swept_times high wide k w)).turned ≡ true

-- every pair of columns passes the skip test
abbrev pub Settled : ℕ → ℕ → List Float → Type 0
Settled high wide w = (p q : ℕ) → p < q → q < wide → skipped (gram w high p q) ≡ true

unfoldable pub SweepLaw : Type 0
SweepLaw =
    (high wide limit : ℕ) (w : List Float)
    → (Converged high wide limit w × Settled high wide (sweeps high wide limit w)) ⊎ (Exhausted high wide limit w × (sweeps high wide limit w ≡ swept_times high wide limit w))

-- a sweep makes no rotation exactly if every pair passes the test, and then leaves the list as it is
unfoldable pub QuietLaw : Type 0
QuietLaw =
    (high wide : ℕ) (w : List Float)
    → ((sweep high wide w).turned ≡ false → Settled high wide w) × (Settled high wide w → sweep high wide w ≡ swept false w)

-- ---- the order: each column has one place, and each place one column; the values go downward, and equal ones stand by lower column first

-- the column at place g
abbrev pub order_at : ℕ → (ℕ → Float) → ℕ → ℕ
order_at n s g = get_or (order_of n s) g 0

pub record Ordered (n : ℕ) (s : ℕ → Float) : Type 0 where
  pub place_below : (j : ℕ) → j < n → place n s j < n
  pub place_one : (j k : ℕ) → j < n → k < n → place n s j ≡ place n s k → j ≡ k
  pub order_below : (g : ℕ) → g < n → order_at n s g < n
  pub order_one : (g h : ℕ) → g < n → h < n → order_at n s g ≡ order_at n s h → g ≡ h
  pub order_of_place : (j : ℕ) → j < n → order_at n s (place n s j) ≡ j
  pub place_of_order : (g : ℕ) → g < n → place n s (order_at n s g) ≡ g
  pub downward : (g h : ℕ) → g < h → h < n → T (le (s (order_at n s h)) (s (order_at n s g)))
  pub stable : (g h : ℕ) → g < h → h < n → T (le (s (order_at n s g)) (s (order_at n s h))) → order_at n s g < order_at n s h

unfoldable pub OrderLaw : Type 0
OrderLaw = (n : ℕ) (s : ℕ → Float) → any_nan n s ≡ false → n ≤ 256 → Ordered n s

-- ---- the values and the directions: the norms of the columns that the sweeps left, and those columns scaled; the rotations are as the sweeps left them

-- the list that the sweeps begin with, of the matrix a: the matrix, the identity, and room for the values; and the list that they leave
unfoldable pub unswept_of : ℕ → ℕ → List Float → List Float
unswept_of high wide a = identity_at (wide * high) wide (a ++ replicate (2 * (wide * wide + wide)) zero_f)

unfoldable pub swept_of : ℕ → ℕ → List Float → List Float
swept_of high wide a = sweeps high wide 100 (unswept_of high wide a)

abbrev pub column_norm : ℕ → ℕ → List Float → ℕ → Float
column_norm high wide a j = l2_norm (swept_of high wide a) (j * high) high

pub record Valued (high wide : ℕ) (clamp : Float) (a : List Float) : Type 0 where
  pub settled : Settled high wide (swept_of high wide a) ⊎ Exhausted high wide 100 (unswept_of high wide a)
  pub value : (j : ℕ) → j < wide → at (factored high wide clamp a) (values_at high wide + j) ≡ real (column_norm high wide a j)
  pub column : (j r : ℕ) → j < wide → r < high
      → at (factored high wide clamp a) (j * high + r)
      ≡ cond (lt clamp (column_norm high wide a j)) (scale_c (at (swept_of high wide a) (j * high + r)) (div binary64 one_f (column_norm high wide a j))) zero_c
  pub turns : (k : ℕ) → k < wide * wide → at (factored high wide clamp a) (wide * high + k) ≡ at (swept_of high wide a) (wide * high + k)

unfoldable pub ValueLaw : Type 0
ValueLaw = (high wide : ℕ) (clamp : Float) (a : List Float) → length a ≡ 2 * (wide * high) → Valued high wide clamp a

-- .. in the values' order, where no value is a NaN
pub record Decomposed (high wide : ℕ) (clamp : Float) (a : List Float) (d : Svd) : Type 0 where
  pub columns_below : (g : ℕ) → g < wide → column_at d g < wide
  pub columns_one : (g h : ℕ) → g < wide → h < wide → column_at d g ≡ column_at d h → g ≡ h
  pub norms : (g : ℕ) → g < wide → value_at d g ≡ column_norm high wide a (column_at d g)
  pub downward : (g h : ℕ) → g < h → h < wide → T (le (value_at d h) (value_at d g))
  pub stable : (g h : ℕ) → g < h → h < wide → T (le (value_at d g) (value_at d h)) → column_at d g < column_at d h
  pub directions : (g r : ℕ) → g < wide → r < high
      → direction d g r ≡ cond (lt clamp (value_at d g)) (scale_c (at (swept_of high wide a) (column_at d g * high + r)) (div binary64 one_f (value_at d g))) zero_c
  pub rotations : (g r : ℕ) → g < wide → r < wide → turn d g r ≡ at (swept_of high wide a) (wide * high + (column_at d g * wide + r))

unfoldable pub SvdLaw : Type 0
SvdLaw =
    (adjoint : Bool) (high wide : ℕ) (clamp : Float) (a : List Float) → length a ≡ 2 * (wide * high) → wide ≤ 256
    → (let d = ordered adjoint high wide (factored high wide clamp a) in any_nan wide (raw_value d) ≡ false → Decomposed high wide clamp a d)

-- where there are fewer rows than columns, it is the decomposition of the conjugate transpose
unfoldable pub TransposeLaw : Type 0
TransposeLaw =
    (clamp : Float) (m n : ℕ) (straight adjoint : List Float)
    → (m < n → svd clamp m n straight adjoint ≡ ordered true n m (factored n m clamp adjoint)) × (n ≤ m → svd clamp m n straight adjoint ≡ ordered false m n (factored m n clamp straight))

-- ---- modified Gram-Schmidt (5.2.8): column i of q, times its product with what is left of column j, is taken from column j, and the product added to r's entry (i, j)

pub record GramSchmidtStep (high wide j i : ℕ) (w : List Float) : Type 0 where
  pub long : length (projected_on high wide j i w) ≡ length w
  pub column : (r : ℕ) → r < high → at (projected_on high wide j i w) (j * high + r) ≡ sub_c (at w (j * high + r)) (mul_c (dot w (i * high) (j * high) high) (at w (i * high + r)))
  pub entry : at (projected_on high wide j i w) (entry_at high wide i j) ≡ add_c (at w (entry_at high wide i j)) (dot w (i * high) (j * high) high)
  pub others : (k : ℕ) → ((r : ℕ) → r < high → k ≢ j * high + r) → k ≢ entry_at high wide i j → at (projected_on high wide j i w) k ≡ at w k

unfoldable pub GramSchmidtLaw : Type 0
GramSchmidtLaw =
    (high wide j i : ℕ) (w : List Float) → i < j → j < wide → i < min high wide → wide * high + min high wide * wide ≤ count w → GramSchmidtStep high wide j i w

-- a pass adds to the entry (i, j), for each column i kept, the product of that column with what the columns before it left of column j
unfoldable pub PassLaw : Type 0
PassLaw =
    (high wide rank j : ℕ) (w : List Float) → rank ≤ j → j < wide → rank ≤ min high wide → wide * high + min high wide * wide ≤ count w
    → (i : ℕ) → i < rank
    → at (pass_of high wide rank j w).w (entry_at high wide i j) ≡ add_c (at w (entry_at high wide i j)) (dot (each i (projected_on high wide j) w) (i * high) (j * high) high)

-- ---- QR: R is upper trapezoidal with the residuals on its staircase

-- the state after the first j columns: how many are kept, and the list
unfoldable pub done : ℕ → ℕ → List Float → ℕ → Kept
done high wide a j = each j (column_of high wide (min high wide)) (kept 0 (a ++ replicate (2 * (min high wide * wide)) zero_f))

abbrev pub rank_of : ℕ → ℕ → List Float → ℕ → ℕ
rank_of high wide a j = (done high wide a j).rank

-- column j's passes, and whether it is kept: there is room, and its residual is above 1e-14 of its norm
abbrev pub passes_at : ℕ → ℕ → List Float → ℕ → Passed
passes_at high wide a j = passes_of high wide (rank_of high wide a j) j 3 (l2_norm a (j * high) high) (done high wide a j).w

abbrev pub keeps : ℕ → ℕ → List Float → ℕ → Bool
keeps high wide a j = ltb (rank_of high wide a j) (min high wide) && lt (mul binary64 rank_tolerance (l2_norm a (j * high) high)) (passes_at high wide a j).residual

-- r's entry (i, j), and q's element (r, i)
abbrev pub r_at : ℕ → ℕ → List Float → ℕ → ℕ → Complex
r_at high wide a i j = at (qr high wide a).w (entry_at high wide i j)

abbrev pub q_at : ℕ → ℕ → List Float → ℕ → ℕ → Complex
q_at high wide a r i = at (qr high wide a).w (i * high + r)

pub record Trapezoidal (high wide : ℕ) (a : List Float) : Type 0 where
  -- column j comes to its passes as it was given
  pub given : (j r : ℕ) → j < wide → r < high → at (done high wide a j).w (j * high + r) ≡ at a (j * high + r)
  -- the staircase: the rank is 0 at first, and one more after each column kept
  pub rank_first : rank_of high wide a 0 ≡ 0
  pub rank_next : (j : ℕ) → j < wide → rank_of high wide a (j + 1) ≡ cond (keeps high wide a j) (rank_of high wide a j + 1) (rank_of high wide a j)
  pub rank_last : (qr high wide a).rank ≡ max 1 (rank_of high wide a wide)
  -- a kept column's entry on it is the residual; below it all entries are +0; above it they are what the passes added up
  pub on_staircase : (j : ℕ) → j < wide → keeps high wide a j ≡ true → r_at high wide a (rank_of high wide a j) j ≡ real (passes_at high wide a j).residual
  pub below_staircase : (i j : ℕ) → i < min high wide → j < wide → rank_of high wide a (j + 1) ≤ i → r_at high wide a i j ≡ zero_c
  pub above_staircase : (i j : ℕ) → j < wide → i < rank_of high wide a j → r_at high wide a i j ≡ at (passes_at high wide a j).w (entry_at high wide i j)
  -- so all entries below the diagonal are +0
  pub below_diagonal : (i j : ℕ) → i < min high wide → j < i → r_at high wide a i j ≡ zero_c
  -- a kept column is q's next: what the passes left of it, scaled by the residual's rounded inverse
  pub q_column : (j r : ℕ) → j < wide → r < high → keeps high wide a j ≡ true
      → q_at high wide a r (rank_of high wide a j) ≡ scale_c (at (passes_at high wide a j).w (j * high + r)) (div binary64 one_f (passes_at high wide a j).residual)
  -- where none is kept, q is (1, 0, ..)
  pub q_none : rank_of high wide a wide ≡ 0 → (q_at high wide a 0 0 ≡ real one_f) × ((r : ℕ) → 0 < r → r < high → q_at high wide a r 0 ≡ zero_c)

unfoldable pub QrLaw : Type 0
QrLaw = (high wide : ℕ) (a : List Float) → 1 ≤ high → 1 ≤ wide → length a ≡ 2 * (wide * high) → Trapezoidal high wide a
