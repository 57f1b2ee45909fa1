-- Blocks stored at places that differ leave each element at its place. No contract cites this file. Assumes nothing.
use mathlib.Core.Path.{◌≡◌, sym, ◌∙◌}
use mathlib.Core.List.{List}
use Rattle.std.specs.Prelude.{Bool, true, false, cond}
use Prim.Native.Nat.{ℕ, ◌+◌, ◌*◌, ◌/◌, ◌%◌, ◌<◌}
use native.Mathlib.Omega.{arith}
use lib.ListN.{length}
use lib.Ieee.{Float}
use Rattle.complex.specs.Complex.{conj_c}
use Rattle.complex.specs.Loops.{each}
use Rattle.complex.specs.Numbers.{count, at, store, numbers, length_numbers, at_numbers, length_stores, at_stores, at_stores_other, each_length, each_apart, each_at, ext_at}
use Rattle.complex.specs.Matrix.{rows, cell_below, cell_row, cell_column, by_cells, length_rows, at_rows}
use Rattle.complex.specs.declared.Complex.{Complex}
use Rattle.model.specs.Pair.{gated_theta, matrix_of, adjoint_of}
use Rattle.pair.specs.Blocks.{conjugated, gated_block, stored, straight_place, adjoint_place, adjoint, place_of, element_of, block, line, lines}

-- an element (a, i, j, b) of a pair of outer bonds bl and br
record Element (bl br a i j b : ℕ) : Type 0 where
  pub ha : a < bl
  pub hi : i < 2
  pub hj : j < 2
  pub hb : b < br

abbrev Place : Type 0
Place = ℕ → ℕ → ℕ → ℕ → ℕ

-- two elements at one place are one element
abbrev Apart : ℕ → ℕ → Place → Type 0
Apart bl br place =
    (a i j b a' i' j' b' : ℕ) → Element bl br a i j b → Element bl br a' i' j' b' → place a i j b ≡ place a' i' j' b'
    → (a ≡ a') × (i ≡ i') × (j ≡ j') × (b ≡ b')

module _ (bl br : ℕ) (place : Place) (f : ℕ → ℕ → ℕ → ℕ → Complex) (apart : Apart bl br place) where
  length_block : (b a : ℕ) (ys : List Float) → length (block place f b a ys) ≡ length ys
  unfolding block
  length_block b a ys = length_stores 4 _ _ ys

  length_line : (b : ℕ) (ys : List Float) → length (line bl place f b ys) ≡ length ys
  unfolding line
  length_line b ys = each_length bl _ ys (λ a zs l. length_block b a zs)

  length_lines : (ys : List Float) → length (lines bl br place f ys) ≡ length ys
  unfolding lines
  length_lines ys = each_length br _ ys (λ b zs l. length_line b zs)

  spot : (a b k : ℕ) → a < bl → b < br → k < 4 → Element bl br a (k / 2) (k % 2) b
  spot a b k h l m = record { ha = h; hi = omega arith; hj = omega arith; hb = l }

  -- a block leaves the elements of the others alone
  block_kept : (b a : ℕ) → b < br → a < bl → (a' i j b' : ℕ) → Element bl br a' i j b' → ((a' ≡ a) × (b' ≡ b) → ⊥) → (ys : List Float)
      → at (block place f b a ys) (place a' i j b') ≡ at ys (place a' i j b')
  unfolding block
  block_kept b a hb ha a' i j b' h n ys =
      at_stores_other 4 _ _ ys (place a' i j b') (λ k l e. let s = apart a' i j b' a (k / 2) (k % 2) b h (spot a b k ha hb l) e in n (s.0, s.3))

  -- its own are stored
  block_at : (a i j b : ℕ) → Element bl br a i j b → (ys : List Float) → place a i j b < count ys → at (block place f b a ys) (place a i j b) ≡ f a i j b
  unfolding block
  block_at a i j b h ys room =
      let k = i * 2 + j in
      let p : k / 2 ≡ i = omega (arith, h.hi, h.hj) in
      let q : k % 2 ≡ j = omega (arith, h.hi, h.hj) in
      rw p at (rw q at
      (at_stores 4 (λ k. place a (k / 2) (k % 2) b) (λ k. f a (k / 2) (k % 2) b) ys k (omega (arith, h.hi, h.hj)) (rw (p, q) room)
      (λ m l n e. let s = apart a (k / 2) (k % 2) b a (m / 2) (m % 2) b (spot a b k h.ha h.hb (omega (arith, h.hi, h.hj))) (spot a b m h.ha h.hb n) e in omega (arith, s.1, s.2))))

  -- each element is at its place
  lines_at : (a i j b : ℕ) → Element bl br a i j b → (xs : List Float) → place a i j b < count xs → at (lines bl br place f xs) (place a i j b) ≡ f a i j b
  unfolding lines line
  lines_at a i j b h xs room =
      each_at br (line bl place f) xs (place a i j b) b (f a i j b) (λ k ys l. length_line k ys) h.hb
      (λ ys e. each_at bl (block place f b) ys (place a i j b) a (f a i j b) (λ k zs l. length_block b k zs) h.ha
      (λ zs e'. block_at a i j b h zs (omega arith))
      (λ k zs l m. block_kept b k h.hb m a i j b h (λ s. omega (arith, s.0)) zs))
      (λ k ys l m. each_apart bl _ ys (place a i j b) (λ c zs n. block_kept k c m n a i j b h (λ s. omega (arith, s.1)) zs))

-- ---- the matrix by columns

-- the block of a and b is what is stored for them
pub block_straight : (gate : List (List Complex)) (mid bl br : ℕ) (left right : List Float) (a b : ℕ) (adj : Bool) (ys : List Float) → adj ≡ false
    → block (place_of adj bl br) (element_of adj (gated_theta gate mid br left right)) b a ys ≡ stored (b * (2 * bl) + a * 2) 1 (br * (2 * bl)) (gated_block gate mid br left right a b) ys
unfolding stored block each gated_block
block_straight gate mid bl br left right a b adj ys e =
    let f = gated_theta gate mid br left right in
    let p0 : straight_place bl br a 0 0 b ≡ b * (2 * bl) + a * 2 = omega arith in
    let p1 : straight_place bl br a 0 1 b ≡ b * (2 * bl) + a * 2 + br * (2 * bl) = omega arith in
    let p2 : straight_place bl br a 1 0 b ≡ b * (2 * bl) + a * 2 + 1 = omega arith in
    let p3 : straight_place bl br a 1 1 b ≡ b * (2 * bl) + a * 2 + 1 + br * (2 * bl) = omega arith in
    rw e (λ i. store (store (store (store ys (p0 i) (f a 0 0 b)) (p1 i) (f a 0 1 b)) (p2 i) (f a 1 0 b)) (p3 i) (f a 1 1 b))

straight_below : (bl br a i j b : ℕ) → Element bl br a i j b → straight_place bl br a i j b < 2 * br * (2 * bl)
straight_below bl br a i j b h = cell_below (2 * bl) (2 * br) (j * br + b) (a * 2 + i) (omega arith) (cell_below br 2 j b h.hb h.hj)

straight_apart : (bl br : ℕ) → Apart bl br (straight_place bl br)
straight_apart bl br a i j b a' i' j' b' h h' e =
    let r : a * 2 + i ≡ a' * 2 + i' = cell_row (2 * bl) (j * br + b) (a * 2 + i) (j' * br + b') (a' * 2 + i') (omega arith) (omega arith) e in
    let k : j * br + b ≡ j' * br + b' = cell_column (2 * bl) (j * br + b) (a * 2 + i) (j' * br + b') (a' * 2 + i') (omega arith) (omega arith) e in
    (omega arith, omega arith, cell_column br j b j' b' h.hb h'.hb k, cell_row br j b j' b' h.hb h'.hb k)

module _ (bl br : ℕ) (f : ℕ → ℕ → ℕ → ℕ → Complex) where
  column_length : (j b : ℕ) → length (rows bl (λ a. numbers 2 (λ i. f a i j b))) ≡ 2 * (bl * 2)
  column_length j b = length_rows 2 _ (λ a. length_numbers 2 (λ i. f a i j b)) bl

  half_length : (j : ℕ) → length (rows br (λ b. rows bl (λ a. numbers 2 (λ i. f a i j b)))) ≡ 2 * (br * (bl * 2))
  half_length j = length_rows (bl * 2) _ (column_length j) br

  length_matrix_of : length (matrix_of bl br f) ≡ 2 * (2 * br * (2 * bl))
  unfolding matrix_of
  length_matrix_of = length_rows (br * (bl * 2)) _ half_length 2 ∙ omega arith

  at_matrix_of : (a i j b : ℕ) → Element bl br a i j b → at (matrix_of bl br f) (straight_place bl br a i j b) ≡ f a i j b
  unfolding matrix_of
  at_matrix_of a i j b h =
      let row : a * 2 + i < bl * 2 = cell_below 2 bl a i h.hi h.ha in
      let place : straight_place bl br a i j b ≡ j * (br * (bl * 2)) + (b * (bl * 2) + (a * 2 + i)) = omega arith in
      rw place
      (at_rows (br * (bl * 2)) _ half_length 2 j (b * (bl * 2) + (a * 2 + i)) h.hj (cell_below (bl * 2) br b (a * 2 + i) row h.hb)
      ∙ at_rows (bl * 2) _ (column_length j) br b (a * 2 + i) h.hb row
      ∙ at_rows 2 _ (λ a. length_numbers 2 (λ i. f a i j b)) bl a i h.ha h.hi
      ∙ at_numbers 2 (λ i. f a i j b) i h.hi)

  -- the blocks of every a and b fill the matrix, whatever the list held
  pub lines_straight : (xs : List Float) → length xs ≡ 2 * (2 * br * (2 * bl)) → lines bl br (straight_place bl br) f xs ≡ matrix_of bl br f
  lines_straight xs e =
      ext_at (2 * br * (2 * bl)) _ _ (length_lines bl br (straight_place bl br) f (straight_apart bl br) xs ∙ e) length_matrix_of
      (by_cells (2 * br) (2 * bl) Same by_column)
    where
      Same : ℕ → Type 0
      Same k = at (lines bl br (straight_place bl br) f xs) k ≡ at (matrix_of bl br f) k

      by_element : (a i j b : ℕ) → Element bl br a i j b → Same (straight_place bl br a i j b)
      by_element a i j b h =
          lines_at bl br (straight_place bl br) f (straight_apart bl br) a i j b h xs (omega (arith, straight_below bl br a i j b h)) ∙ sym (at_matrix_of a i j b h)

      by_row : (j b r : ℕ) → j < 2 → b < br → r < 2 * bl → Same ((j * br + b) * (2 * bl) + r)
      by_row j b r hj hb hr =
          by_cells bl 2 (λ r. Same ((j * br + b) * (2 * bl) + r)) (λ a i ha hi. by_element a i j b (record { ha = ha; hi = hi; hj = hj; hb = hb })) r (omega arith)

      by_column : (c r : ℕ) → c < 2 * br → r < 2 * bl → Same (c * (2 * bl) + r)
      by_column c r hc hr = by_cells 2 br (λ c. Same (c * (2 * bl) + r)) (λ j b hj hb. by_row j b r hj hb hr) c hc

-- ---- its conjugate transpose by columns

pub block_adjoint : (gate : List (List Complex)) (mid bl br : ℕ) (left right : List Float) (a b : ℕ) (adj : Bool) (ys : List Float) → adj ≡ true
    → block (place_of adj bl br) (element_of adj (gated_theta gate mid br left right)) b a ys ≡ stored (a * 2 * (2 * br) + b) (2 * br) br (conjugated (gated_block gate mid br left right a b)) ys
unfolding stored block each conjugated gated_block
block_adjoint gate mid bl br left right a b adj ys e =
    let f = adjoint (gated_theta gate mid br left right) in
    let p0 : adjoint_place br a 0 0 b ≡ a * 2 * (2 * br) + b = omega arith in
    let p1 : adjoint_place br a 0 1 b ≡ a * 2 * (2 * br) + b + br = omega arith in
    let p2 : adjoint_place br a 1 0 b ≡ a * 2 * (2 * br) + b + 2 * br = omega arith in
    let p3 : adjoint_place br a 1 1 b ≡ a * 2 * (2 * br) + b + 2 * br + br = omega arith in
    rw e (λ i. store (store (store (store ys (p0 i) (f a 0 0 b)) (p1 i) (f a 0 1 b)) (p2 i) (f a 1 0 b)) (p3 i) (f a 1 1 b))

adjoint_below : (bl br a i j b : ℕ) → Element bl br a i j b → adjoint_place br a i j b < 2 * bl * (2 * br)
adjoint_below bl br a i j b h = cell_below (2 * br) (2 * bl) (a * 2 + i) (j * br + b) (cell_below br 2 j b h.hb h.hj) (omega arith)

adjoint_apart : (bl br : ℕ) → Apart bl br (adjoint_place br)
adjoint_apart bl br a i j b a' i' j' b' h h' e =
    let l : j * br + b < 2 * br = cell_below br 2 j b h.hb h.hj in
    let l' : j' * br + b' < 2 * br = cell_below br 2 j' b' h'.hb h'.hj in
    let k : j * br + b ≡ j' * br + b' = cell_row (2 * br) (a * 2 + i) (j * br + b) (a' * 2 + i') (j' * br + b') l l' e in
    let r : a * 2 + i ≡ a' * 2 + i' = cell_column (2 * br) (a * 2 + i) (j * br + b) (a' * 2 + i') (j' * br + b') l l' e in
    (omega arith, omega arith, cell_column br j b j' b' h.hb h'.hb k, cell_row br j b j' b' h.hb h'.hb k)

module _ (bl br : ℕ) (f : ℕ → ℕ → ℕ → ℕ → Complex) where
  part_length : (a i : ℕ) → length (rows 2 (λ j. numbers br (λ b. conj_c (f a i j b)))) ≡ 2 * (2 * br)
  part_length a i = length_rows br _ (λ j. length_numbers br (λ b. conj_c (f a i j b))) 2

  pair_length : (a : ℕ) → length (rows 2 (λ i. rows 2 (λ j. numbers br (λ b. conj_c (f a i j b))))) ≡ 2 * (2 * (2 * br))
  pair_length a = length_rows (2 * br) _ (part_length a) 2

  length_adjoint_of : length (adjoint_of bl br f) ≡ 2 * (2 * bl * (2 * br))
  unfolding adjoint_of
  length_adjoint_of = length_rows (2 * (2 * br)) _ pair_length bl ∙ omega arith

  at_adjoint_of : (a i j b : ℕ) → Element bl br a i j b → at (adjoint_of bl br f) (adjoint_place br a i j b) ≡ conj_c (f a i j b)
  unfolding adjoint_of
  at_adjoint_of a i j b h =
      let row : j * br + b < 2 * br = cell_below br 2 j b h.hb h.hj in
      let place : adjoint_place br a i j b ≡ a * (2 * (2 * br)) + (i * (2 * br) + (j * br + b)) = omega arith in
      rw place
      (at_rows (2 * (2 * br)) _ pair_length bl a (i * (2 * br) + (j * br + b)) h.ha (cell_below (2 * br) 2 i (j * br + b) row h.hi)
      ∙ at_rows (2 * br) _ (part_length a) 2 i (j * br + b) h.hi row
      ∙ at_rows br _ (λ j. length_numbers br (λ b. conj_c (f a i j b))) 2 j b h.hj h.hb
      ∙ at_numbers br (λ b. conj_c (f a i j b)) b h.hb)

  pub lines_adjoint : (xs : List Float) → length xs ≡ 2 * (2 * br * (2 * bl)) → lines bl br (adjoint_place br) (adjoint f) xs ≡ adjoint_of bl br f
  lines_adjoint xs e =
      ext_at (2 * bl * (2 * br)) _ _ (length_lines bl br (adjoint_place br) (adjoint f) (adjoint_apart bl br) xs ∙ e ∙ omega arith) length_adjoint_of
      (by_cells (2 * bl) (2 * br) Same by_column)
    where
      Same : ℕ → Type 0
      Same k = at (lines bl br (adjoint_place br) (adjoint f) xs) k ≡ at (adjoint_of bl br f) k

      by_element : (a i j b : ℕ) → Element bl br a i j b → Same (adjoint_place br a i j b)
      by_element a i j b h =
          lines_at bl br (adjoint_place br) (adjoint f) (adjoint_apart bl br) a i j b h xs (omega (arith, adjoint_below bl br a i j b h)) ∙ sym (at_adjoint_of a i j b h)

      by_row : (a i r : ℕ) → a < bl → i < 2 → r < 2 * br → Same ((a * 2 + i) * (2 * br) + r)
      by_row a i r ha hi hr =
          by_cells 2 br (λ r. Same ((a * 2 + i) * (2 * br) + r)) (λ j b hj hb. by_element a i j b (record { ha = ha; hi = hi; hj = hj; hb = hb })) r hr

      by_column : (c r : ℕ) → c < 2 * bl → r < 2 * br → Same (c * (2 * br) + r)
      by_column c r hc hr = by_cells bl 2 (λ c. Same (c * (2 * br) + r)) (λ a i ha hi. by_row a i r ha hi hr) c (omega arith)

-- ---- either of the two

module _ (bl br : ℕ) (f : ℕ → ℕ → ℕ → ℕ → Complex) where
  pub lines_either : (n : ℕ) (adj : Bool) (xs : List Float) → length xs ≡ 2 * (2 * br * (2 * bl)) → n ≡ br
      → each n (line bl (place_of adj bl br) (element_of adj f)) xs ≡ cond adj (adjoint_of bl br f) (matrix_of bl br f)
  unfolding lines
  lines_either n true xs l e = rw e (lines_adjoint bl br f xs l)
  lines_either n false xs l e = rw e (lines_straight bl br f xs l)
