-- Matrices in a list of floats. A column-major matrix of `high` rows has its element (r, c) at number c * high + r.
use Rattle.std.specs.Prelude.{◌≡◌, refl, length, Float}
use Rattle.std.proofs.Math.Path.{sym, ap, ap₂}
use Rattle.std.proofs.Common.{◌∙◌, le_refl, add-zero, add-suc, zero-mul, mod-lt, mod-eq_of_lt, div-add-mod', div-lt_iff_lt-mul, eq-or-lt_of_le, le_of_suc-le-suc, not-suc-le-zero, add-one, take_at, drop_at}
use Rattle.std.proofs.Math.Logic.{⊎_elim}
use mathlib.Core.List.{List, [], ◌∷◌, ◌++◌, append-nil, append_assoc}
use Prim.Native.Nat.{ℕ, zero, suc, ◌+◌, ◌-◌, ◌*◌, ◌/◌, ◌%◌, ◌≤◌, ◌<◌}
use Rattle.std.proofs.Math.Nat.{suc-mul, add-mul, mul-add-mod_self_right, mul-add-div_right, div-eq_of_lt, mul-le-mul_right}
use native.Mathlib.Omega.{arith}
use Rattle.std.proofs.Math.ListN.{drop, length-append}
use Rattle.std.proofs.Math.Seq.{drop-drop}
use Rattle.complex.specs.Loops.{each}
use Rattle.complex.specs.Parts.{put, front_all}
use Rattle.complex.specs.Numbers.{count, at, store, numbers, length_store, at_store_same, at_store_other, each_length, each_apart, each_at, ext_at, at_left, at_right, length_numbers, at_numbers, numbers_same}
use Rattle.complex.specs.declared.Complex.{Complex}

-- the lists f 0, f 1, .. f (n - 1), one after the other: nested `rows` over `numbers` is what nested loops write
unfoldable pub rows : ℕ → (ℕ → List Float) → List Float
rows zero f = []
rows (suc n) f = rows n f ++ f n

-- xs with f r c in the place of the element (r, c), for each row r of the column c; and for each column c < wide
unfoldable pub column : ℕ → (ℕ → ℕ → Complex) → ℕ → List Float → List Float
column high f c xs = each high (λ r ys. store ys (c * high + r) (f r c)) xs

unfoldable pub matrix : ℕ → ℕ → (ℕ → ℕ → Complex) → List Float → List Float
matrix high wide f xs = each wide (column high f) xs

-- ---- places: (r, c) is below wide * high; its row and column are the remainder and the quotient, so places that are equal are of one row and one column

pub cell_below : (high wide c r : ℕ) → r < high → c < wide → c * high + r < wide * high
cell_below high wide c r hr hc = omega (arith, mul-le-mul_right high hc)

pub remainder : (high c r : ℕ) → r < high → (c * high + r) % high ≡ r
remainder high c r h = mul-add-mod_self_right c high r ∙ mod-eq_of_lt h

pub quotient : (high c r : ℕ) → r < high → (c * high + r) / high ≡ c
quotient high c r h = mul-add-div_right (omega arith) c r ∙ ap (λ k. c + k) (div-eq_of_lt h) ∙ add-zero c

pub cell_row : (high c r c' r' : ℕ) → r < high → r' < high → c * high + r ≡ c' * high + r' → r ≡ r'
cell_row high c r c' r' h h' e = sym (remainder high c r h) ∙ ap (λ k. k % high) e ∙ remainder high c' r' h'

pub cell_column : (high c r c' r' : ℕ) → r < high → r' < high → c * high + r ≡ c' * high + r' → c ≡ c'
cell_column high c r c' r' h h' e = sym (quotient high c r h) ∙ ap (λ k. k / high) e ∙ quotient high c' r' h'

-- what holds of each place (r, c) holds of each number below wide * high
pub by_cells : (wide high : ℕ) (P : ℕ → Type 0) → ((c r : ℕ) → c < wide → r < high → P (c * high + r)) → (k : ℕ) → k < wide * high → P k
by_cells wide high P h k l =
    let some : 0 < high = positive high l in
    rw div-add-mod' at (h (k / high) (k % high) ((div-lt_iff_lt-mul some).1 l) (mod-lt k some))
  where
    positive : (m : ℕ) → k < wide * m → 0 < m
    positive zero l = absurd (omega arith)
    positive (suc m) l = omega arith

-- ---- the elements of a matrix

pub length_column : (high : ℕ) (f : ℕ → ℕ → Complex) (c : ℕ) (xs : List Float) → length (column high f c xs) ≡ length xs
unfolding column
length_column high f c xs = each_length high _ xs (λ r ys h. length_store ys (c * high + r) (f r c))

pub length_matrix : (high wide : ℕ) (f : ℕ → ℕ → Complex) (xs : List Float) → length (matrix high wide f xs) ≡ length xs
unfolding matrix
length_matrix high wide f xs = each_length wide _ xs (λ c ys h. length_column high f c ys)

-- the element (r, c) is f r c
pub at_matrix : (high wide : ℕ) (f : ℕ → ℕ → Complex) (xs : List Float) (r c : ℕ) → r < high → c < wide → wide * high ≤ count xs
    → at (matrix high wide f xs) (c * high + r) ≡ f r c
unfolding matrix column
at_matrix high wide f xs r c hr hc room =
    each_at wide (column high f) xs (c * high + r) c (f r c) (λ i ys h. length_column high f i ys) hc
    (λ ys e. each_at high (λ k zs. store zs (c * high + k) (f k c)) ys (c * high + r) r (f r c)
    (λ k zs h. length_store zs (c * high + k) (f k c)) hr
    (λ zs e'. at_store_same zs (c * high + r) (f r c) (omega (arith, cell_below high wide c r hr hc)))
    (λ k zs a b. at_store_other zs (c * high + k) (c * high + r) (f k c) (omega arith)))
    (λ d ys a b. each_apart high _ ys (c * high + r) (λ k zs h. at_store_other zs (d * high + k) (c * high + r) (f k d) (omega (arith, mul-le-mul_right high a))))

-- what lies past the matrix is as it was
pub at_matrix_past : (high wide : ℕ) (f : ℕ → ℕ → Complex) (xs : List Float) (j : ℕ) → wide * high ≤ j → at (matrix high wide f xs) j ≡ at xs j
unfolding matrix column
at_matrix_past high wide f xs j h =
    each_apart wide _ xs j (λ c ys hc. each_apart high _ ys j (λ r zs hr. at_store_other zs (c * high + r) j (f r c) (omega (arith, cell_below high wide c r hr hc))))

-- ---- rows of m numbers each

module _ (m : ℕ) (f : ℕ → List Float) (len : (c : ℕ) → length (f c) ≡ 2 * m) where
  pub length_rows : (n : ℕ) → length (rows n f) ≡ 2 * (n * m)
  unfolding rows
  length_rows zero = omega arith
  length_rows (suc n) = length-append (rows n f) (f n) ∙ omega (arith, length_rows n, len n)

  pub at_rows : (n c r : ℕ) → c < n → r < m → at (rows n f) (c * m + r) ≡ at (f c) r
  unfolding rows
  at_rows zero c r h l = absurd (not-suc-le-zero h)
  at_rows (suc n) c r h l =
      ⊎_elim
      (λ (e : c ≡ n). rw e (at_right (rows n f) (f n) (n * m) r (length_rows n)))
      (λ (k : c < n). at_left (rows n f) (f n) (c * m + r) (omega (arith, length_rows n, mul-le-mul_right m k)) ∙ at_rows n c r k l)
      (eq-or-lt_of_le (le_of_suc-le-suc h))

-- a matrix that fills its list is rows of numbers, whatever the list held
pub matrix_rows : (high wide : ℕ) (f : ℕ → ℕ → Complex) (xs : List Float) → length xs ≡ 2 * (wide * high)
    → matrix high wide f xs ≡ rows wide (λ c. numbers high (λ r. f r c))
matrix_rows high wide f xs e =
    ext_at (wide * high) _ _ (length_matrix high wide f xs ∙ e) (length_rows high _ (λ c. length_numbers high (λ r. f r c)) wide)
    (by_cells wide high (λ k. at (matrix high wide f xs) k ≡ at (rows wide (λ c. numbers high (λ r. f r c))) k)
    (λ c r hc hr. at_matrix high wide f xs r c hr hc (omega arith)
    ∙ sym (at_rows high _ (λ c. length_numbers high (λ r. f r c)) wide c r hc hr ∙ at_numbers high (λ r. f r c) r hr)))

-- ---- rows that agree below n, rows of rows, and rows of numbers

pub rows_same : (n : ℕ) (f g : ℕ → List Float) → ((k : ℕ) → k < n → f k ≡ g k) → rows n f ≡ rows n g
unfolding rows
rows_same zero f g h = refl
rows_same (suc n) f g h = ap₂ (λ (xs ys : List Float). xs ++ ys) (rows_same n f g (λ k l. h k (omega arith))) (h n (le_refl (suc n)))

pub rows_append : (n m : ℕ) (f : ℕ → List Float) → rows (n + m) f ≡ rows n f ++ rows m (λ k. f (n + k))
unfolding rows
rows_append n zero f = rw add-zero (sym (append-nil (rows n f)))
rows_append n (suc m) f =
    ap (λ (k : ℕ). rows k f) (add-suc n m) ∙ ap (λ (xs : List Float). xs ++ f (n + m)) (rows_append n m f) ∙ append_assoc (rows n f) (rows m (λ k. f (n + k))) (f (n + m))

pub rows_rows : (n m : ℕ) (f : ℕ → List Float) → rows n (λ i. rows m (λ j. f (i * m + j))) ≡ rows (n * m) f
unfolding rows
rows_rows zero m f = rw zero-mul
rows_rows (suc n) m f =
    ap (λ (xs : List Float). xs ++ rows m (λ j. f (n * m + j))) (rows_rows n m f) ∙ sym (rows_append (n * m) m f) ∙ ap (λ (k : ℕ). rows k f) (sym (suc-mul n m))

numbers_one : (f : ℕ → Complex) (n : ℕ) → numbers n f ≡ rows n (λ k. (f k).re ∷ (f k).im ∷ [])
unfolding numbers rows
numbers_one f zero = refl
numbers_one f (suc n) = ap (λ (xs : List Float). xs ++ ((f n).re ∷ (f n).im ∷ [])) (numbers_one f n)

pub rows_numbers : (n m : ℕ) (f : ℕ → Complex) → rows n (λ i. numbers m (λ j. f (i * m + j))) ≡ numbers (n * m) f
rows_numbers n m f =
    rows_same n _ _ (λ i _. numbers_one (λ j. f (i * m + j)) m) ∙ rows_rows n m (λ k. (f k).re ∷ (f k).im ∷ []) ∙ sym (numbers_one f (n * m))

pub numbers_flat : (n m : ℕ) (f : ℕ → ℕ → Complex) → numbers (n * m) (λ k. f (k / m) (k % m)) ≡ rows n (λ r. numbers m (λ c. f r c))
numbers_flat n m f =
    sym (rows_numbers n m (λ k. f (k / m) (k % m)))
    ∙ rows_same n _ _ (λ r _. numbers_same m _ _ (λ c l. rw (quotient m r c l, remainder m r c l)))

-- ---- a list filled by blocks of w floats each from the front: what lending one block after the other leaves

pub block_none : (f : ℕ → List Float) (o : List Float) → o ≡ rows 0 f ++ drop 0 o
unfolding rows
block_none f o = refl

module _ (w : ℕ) (f : ℕ → List Float) (len : (c : ℕ) → length (f c) ≡ w) where
  pub length_blocks : (n : ℕ) → length (rows n f) ≡ n * w
  unfolding rows
  length_blocks zero = sym (zero-mul w)
  length_blocks (suc n) = length-append (rows n f) (f n) ∙ omega (arith, length_blocks n, len n, suc-mul n w)

  pub block_more : (c : ℕ) (o : List Float) → c * w + w ≤ length o
      → put (c * w) (c * w + w) (rows c f ++ drop (c * w) o) (f c) ≡ rows (c + 1) f ++ drop ((c + 1) * w) o
  unfolding rows
  block_more c o h =
      let e : c * w + w - c * w ≡ w = omega arith in
      let s : (c + 1) * w ≡ c * w + w = omega (arith, add-mul c 1 w) in
      ap₂ (λ (xs ys : List Float). xs ++ (f c ++ ys))
      (take_at (rows c f) (drop (c * w) o) (c * w) (length_blocks c))
      (ap (drop (c * w + w - c * w)) (drop_at (rows c f) (drop (c * w) o) (c * w) (length_blocks c)) ∙ ap (λ (k : ℕ). drop k (drop (c * w) o)) e ∙ drop-drop w (c * w) o)
      ∙ sym (append_assoc (rows c f) (f c) (drop (c * w + w) o))
      ∙ ap₂ (λ (k m : ℕ). rows k f ++ drop m o) (sym (add-one c)) (sym s)

  pub block_all : (n : ℕ) (o : List Float) → length o ≡ n * w → rows n f ++ drop (n * w) o ≡ rows n f
  block_all n o h = front_all (n * w) (rows n f) o (sym h)
