-- One bit of a site kept: its amplitudes, times a number, at one bit, and +0 at the other. Projection keeps the bit where it was, reset puts it at bit 0.
use Rattle.std.specs.Prelude.{◌≡◌, refl, Bool, true, false, not, ◌&&◌, ◌≢◌, ℕ, ◌+◌, ◌-◌, ◌*◌, ◌≤◌, ◌<◌, eqb, length, take, replicate, Float}
use Rattle.std.proofs.Common.{sym, ◌∙◌, ⊎_elim, add_assoc, eqb-true, length-append, drop_at}
use Rattle.std.proofs.Math.Path.{ap}
use Rattle.std.proofs.Math.Bool.{cond}
use mathlib.Core.List.{List, ◌++◌}
use native.Mathlib.Omega.{arith}
use Rattle.std.proofs.Math.ListN.{drop, length-drop}
use Rattle.complex.specs.Complex.{mul_c, zero_c, zero_f}
use Rattle.complex.specs.Loops.{each, each_same}
use Rattle.complex.specs.Numbers.{at, store, numbers, length_store, at_store_same, at_store_other, each_length, each_apart, each_at, ext_at, length_numbers, at_numbers, numbers_same, at_part}
use Rattle.complex.specs.Parts.{part, put}
use Rattle.complex.specs.Matrix.{rows, length_rows, at_rows, rows_same, block_none, length_blocks, block_more}
use Rattle.complex.specs.declared.Complex.{Complex}
use Rattle.model.proofs.Laws.Tests.{below_or_past}
use Rattle.model.specs.Slots.{filled, amplitude}
use Rattle.model.specs.Born.{bit_of, weight, rescale, projected_site, reset_site}
use Rattle.columns.specs.Cleared.{rows_cleared}

-- the two rows of a left index: row `from`, times `by`, at row `to`, and +0 in the other row
unfoldable pub kept_pair : ℕ → Bool → Bool → Complex → List Float → List Float
kept_pair br from to by pair = rows 2 (λ i. numbers br (λ b. cond (eqb i (bit_of to)) (mul_c (at pair (bit_of from * br + b)) by) zero_c))

-- a site whose bit `from`, times `by`, is kept at bit `to`
unfoldable pub kept_site : ℕ → ℕ → Bool → Bool → Complex → List Float → List Float
kept_site bl br from to by site = rows bl (λ a. rows 2 (λ i. numbers br (λ b. cond (eqb i (bit_of to)) (mul_c (amplitude site br a (bit_of from) b) by) zero_c)))

-- one number of both rows: it is read before its place is stored to
unfoldable pub keep_step : ℕ → Bool → Bool → Complex → ℕ → List Float → List Float
keep_step br from to by b ys = store (store ys (bit_of (not to) * br + b) zero_c) (bit_of to * br + b) (mul_c (at ys (bit_of from * br + b)) by)

-- ---- projection and reset keep a bit

pub projected_kept : (bl br : ℕ) (o : Bool) (site : List Float) → kept_site bl br o o (rescale (weight bl br site o)) site ≡ projected_site bl br o site
unfolding kept_site projected_site
projected_kept bl br o site =
    rows_same bl _ _ (λ a _. rows_same 2 _ _ (λ i _. numbers_same br _ _ (λ b _. same_bit a i b (eqb i (bit_of o)) refl)))
  where
    same_bit : (a i b : ℕ) (t : Bool) → eqb i (bit_of o) ≡ t
        → cond (eqb i (bit_of o)) (mul_c (amplitude site br a (bit_of o) b) (rescale (weight bl br site o))) zero_c
        ≡ cond (eqb i (bit_of o)) (mul_c (amplitude site br a i b) (rescale (weight bl br site o))) zero_c
    same_bit a i b true e = rw (eqb-true i (bit_of o) e)
    same_bit a i b false e = rw e

pub reset_kept : (bl br : ℕ) (o : Bool) (site : List Float) → kept_site bl br o false (rescale (weight bl br site o)) site ≡ reset_site bl br o site
unfolding kept_site reset_site
reset_kept bl br o site = refl

-- either of the two: reset where zero
pub collapsed : (zero : Bool) (bl br : ℕ) (o : Bool) (site : List Float) → kept_site bl br o (not zero && o) (rescale (weight bl br site o)) site ≡ cond zero (reset_site bl br o site) (projected_site bl br o site)
collapsed true = reset_kept
collapsed false = projected_kept

-- ---- places in a pair of rows

below_both : (br : ℕ) (o : Bool) (b : ℕ) → b < br → bit_of o * br + b < 2 * br
below_both br true b h = omega arith
below_both br false b h = omega arith

-- no number is read after its place was stored to
read_apart : (br : ℕ) (from to : Bool) (k i : ℕ) → i < k → k < br → bit_of from * br + k ≢ bit_of to * br + i
read_apart br true true k i h l = omega arith
read_apart br true false k i h l = omega arith
read_apart br false true k i h l = omega arith
read_apart br false false k i h l = omega arith

rows_apart : (br : ℕ) (to : Bool) (k i : ℕ) → k < br → i < br → bit_of to * br + k ≢ bit_of (not to) * br + i
rows_apart br true k i h l = omega arith
rows_apart br false k i h l = omega arith

later_apart : (x b i : ℕ) → b < i → x + b ≢ x + i
later_apart x b i h = omega arith

-- ---- the loop over a pair of rows

-- the step, reading what the numbers were at first
abbrev first_step : ℕ → Bool → Bool → Complex → List Float → ℕ → List Float → List Float
first_step br from to by xs b ys = store (store ys (bit_of (not to) * br + b) zero_c) (bit_of to * br + b) (mul_c (at xs (bit_of from * br + b)) by)

length_step : (ys : List Float) (t u : ℕ) (z : Complex) → length (store (store ys u zero_c) t z) ≡ length ys
length_step ys t u z = length_store (store ys u zero_c) t z ∙ length_store ys u zero_c

-- a number that a step leaves alone
step_other : (ys : List Float) (t u j : ℕ) (z : Complex) → j ≢ t → j ≢ u → at (store (store ys u zero_c) t z) j ≡ at ys j
step_other ys t u j z h l = at_store_other (store ys u zero_c) t j z h ∙ at_store_other ys u j zero_c l

module _ (br : ℕ) (from to : Bool) (by : Complex) (xs : List Float) where
  reads_first : each br (keep_step br from to by) xs ≡ each br (first_step br from to by xs) xs
  unfolding keep_step
  reads_first =
      each_same br (keep_step br from to by) (first_step br from to by xs) xs
      (λ k l. ap (λ (z : Complex). store (store (each k (first_step br from to by xs) xs) (bit_of (not to) * br + k) zero_c) (bit_of to * br + k) (mul_c z by))
      (each_apart k (first_step br from to by xs) xs (bit_of from * br + k)
      (λ i ys m. step_other ys (bit_of to * br + i) (bit_of (not to) * br + i) (bit_of from * br + k) _ (read_apart br from to k i m l) (read_apart br from (not to) k i m l))))

  length_kept : length (kept_pair br from to by xs) ≡ 2 * (2 * br)
  unfolding kept_pair
  length_kept = length_rows br _ (λ c. length_numbers br _) 2

  module _ (len : length xs ≡ 4 * br) (b : ℕ) (h : b < br) where
    at_to : at (each br (first_step br from to by xs) xs) (bit_of to * br + b) ≡ mul_c (at xs (bit_of from * br + b)) by
    at_to =
        each_at br (first_step br from to by xs) xs (bit_of to * br + b) b _ (λ i ys l. length_step ys _ _ _) h
        (λ ys e. at_store_same (store ys (bit_of (not to) * br + b) zero_c) (bit_of to * br + b) _ (omega (arith, below_both br to b h, length_store ys (bit_of (not to) * br + b) zero_c)))
        (λ i ys a l. step_other ys (bit_of to * br + i) (bit_of (not to) * br + i) (bit_of to * br + b) _ (later_apart (bit_of to * br) b i a) (rows_apart br to b i h l))

    at_other : at (each br (first_step br from to by xs) xs) (bit_of (not to) * br + b) ≡ zero_c
    at_other =
        each_at br (first_step br from to by xs) xs (bit_of (not to) * br + b) b _ (λ i ys l. length_step ys _ _ _) h
        (λ ys e. at_store_other (store ys (bit_of (not to) * br + b) zero_c) (bit_of to * br + b) (bit_of (not to) * br + b) _ (λ q. rows_apart br to b b h h (sym q))
        ∙ at_store_same ys (bit_of (not to) * br + b) zero_c (omega (arith, below_both br (not to) b h)))
        (λ i ys a l. step_other ys (bit_of to * br + i) (bit_of (not to) * br + i) (bit_of (not to) * br + b) _ (λ q. rows_apart br to i b l h (sym q)) (later_apart (bit_of (not to) * br) b i a))

    -- number b of row i of the rows kept
    at_kept : (i : ℕ) → i < 2 → at (kept_pair br from to by xs) (i * br + b) ≡ cond (eqb i (bit_of to)) (mul_c (at xs (bit_of from * br + b)) by) zero_c
    unfolding kept_pair
    at_kept i l = at_rows br _ (λ c. length_numbers br _) 2 i b l h ∙ at_numbers br _ b h

-- number b of each row after the loop
row_first : (br : ℕ) (from to : Bool) (by : Complex) (xs : List Float) → length xs ≡ 4 * br → (b : ℕ) → b < br
    → at (each br (first_step br from to by xs) xs) (0 * br + b) ≡ at (kept_pair br from to by xs) (0 * br + b)
row_first br from true by xs len b h = at_other br from true by xs len b h ∙ sym (at_kept br from true by xs len b h 0 (omega arith))
row_first br from false by xs len b h = at_to br from false by xs len b h ∙ sym (at_kept br from false by xs len b h 0 (omega arith))

row_second : (br : ℕ) (from to : Bool) (by : Complex) (xs : List Float) → length xs ≡ 4 * br → (b : ℕ) → b < br
    → at (each br (first_step br from to by xs) xs) (1 * br + b) ≡ at (kept_pair br from to by xs) (1 * br + b)
row_second br from true by xs len b h = at_to br from true by xs len b h ∙ sym (at_kept br from true by xs len b h 1 (omega arith))
row_second br from false by xs len b h = at_other br from false by xs len b h ∙ sym (at_kept br from false by xs len b h 1 (omega arith))

pub kept_pair_lem : (n br : ℕ) (from to : Bool) (by : Complex) (xs : List Float) → n ≡ br → length xs ≡ 4 * br → each n (keep_step br from to by) xs ≡ kept_pair br from to by xs
kept_pair_lem n br from to by xs done len =
    ap (λ (m : ℕ). each m (keep_step br from to by) xs) done
    ∙ reads_first br from to by xs
    ∙ ext_at (2 * br) _ (kept_pair br from to by xs) (omega (arith, each_length br (first_step br from to by xs) xs (λ i ys l. length_step ys _ _ _))) (length_kept br from to by xs)
    (λ k h. ⊎_elim (λ (l : k < br). in_first k l) (λ (l : br ≤ k). in_second k l (omega arith)) (below_or_past k br))
  where
    in_first : (k : ℕ) → k < br → at (each br (first_step br from to by xs) xs) k ≡ at (kept_pair br from to by xs) k
    in_first k l = let e : k ≡ 0 * br + k = omega arith in rw e (row_first br from to by xs len k l)

    in_second : (k : ℕ) → br ≤ k → k - br < br → at (each br (first_step br from to by xs) xs) k ≡ at (kept_pair br from to by xs) k
    in_second k l m =
        let e : k ≡ 1 * br + (k - br) = omega arith in
        ap (at (each br (first_step br from to by xs) xs)) e ∙ row_second br from to by xs len (k - br) m ∙ ap (at (kept_pair br from to by xs)) (sym e)

-- ---- the loop over left indices

-- the rows of left index a
abbrev pair_at : ℕ → Bool → Bool → Complex → List Float → ℕ → List Float
pair_at br from to by site a = rows 2 (λ i. numbers br (λ b. cond (eqb i (bit_of to)) (mul_c (amplitude site br a (bit_of from) b) by) zero_c))

module _ (br : ℕ) (from to : Bool) (by : Complex) (o : List Float) where
  length_pair : (a : ℕ) → length (pair_at br from to by o a) ≡ 4 * br
  length_pair a = length_rows br _ (λ c. length_numbers br _) 2 ∙ omega arith

  kept_part : (a : ℕ) → kept_pair br from to by (part (a * (4 * br)) (a * (4 * br) + 4 * br) o) ≡ pair_at br from to by o a
  unfolding kept_pair
  kept_part a =
      rows_same 2 _ _ (λ i _. numbers_same br _ _ (λ b h. ap (λ (z : Complex). cond (eqb i (bit_of to)) (mul_c z by) zero_c)
      (at_part (a * (4 * br)) (a * (4 * br) + 4 * br) (a * (2 * br)) (bit_of from * br + b) o (omega arith) (omega (arith, below_both br from b h)) ∙ ap (at o) (sym (add_assoc (a * (2 * br)) (bit_of from * br) b)))))

  pub kept_none : kept_site 0 br from to by o ++ drop (0 * (4 * br)) o ≡ o
  unfolding kept_site
  kept_none = let e : 0 * (4 * br) ≡ 0 = omega arith in rw e (sym (block_none _ o))

  pub kept_more : (a : ℕ) → a * (4 * br) + 4 * br ≤ length o
      → put (a * (4 * br)) (a * (4 * br) + 4 * br) (kept_site a br from to by o ++ drop (a * (4 * br)) o) (kept_pair br from to by (part (a * (4 * br)) (a * (4 * br) + 4 * br) (kept_site a br from to by o ++ drop (a * (4 * br)) o)))
      ≡ kept_site (a + 1) br from to by o ++ drop ((a + 1) * (4 * br)) o
  unfolding kept_site
  kept_more a h =
      ap (λ (ys : List Float). put (a * (4 * br)) (a * (4 * br) + 4 * br) (rows a (pair_at br from to by o) ++ drop (a * (4 * br)) o) ys)
      (ap (λ (ys : List Float). kept_pair br from to by (take (a * (4 * br) + 4 * br - a * (4 * br)) ys)) (drop_at (rows a (pair_at br from to by o)) (drop (a * (4 * br)) o) (a * (4 * br)) (length_blocks (4 * br) (pair_at br from to by o) length_pair a)) ∙ kept_part a)
      ∙ block_more (4 * br) (pair_at br from to by o) length_pair a o h

  pub kept_length : (a : ℕ) → a * (4 * br) ≤ length o → length (kept_site a br from to by o ++ drop (a * (4 * br)) o) ≡ length o
  unfolding kept_site
  kept_length a h = simp (length-append, length-drop, length_blocks (4 * br) (pair_at br from to by o) length_pair a) (omega arith)

  -- ---- the rest of the slot cleared

  pub kept_filled : (bl : ℕ)
      → take (bl * (4 * br)) (kept_site bl br from to by o ++ drop (bl * (4 * br)) o) ++ replicate (length o - bl * (4 * br)) zero_f
      ≡ filled (length o) (kept_site bl br from to by o)
  unfolding kept_site
  kept_filled bl = rows_cleared bl (4 * br) (pair_at br from to by o) length_pair o
