-- The cut element by element, as `Statements/CutsAndMoves` states it: the matrix and its conjugate transpose, the four site fills, and the new bond.
use Rattle.std.specs.Prelude.{ℕ, ◌+◌, ◌*◌, ◌≤◌, ◌<◌, ◌≡◌, refl, List, length, Float}
use Rattle.std.proofs.Common.{sym, ap, ◌∙◌, get_or-set_same}
use native.Mathlib.Omega.{arith}
use Rattle.complex.specs.Complex.{mul_c, conj_c, scale_c, real}
use Rattle.complex.specs.Loops.{each}
use Rattle.complex.specs.Numbers.{at, numbers, length_numbers, at_numbers}
use Rattle.complex.specs.Matrix.{rows, cell_below, length_rows, at_rows}
use Rattle.complex.specs.declared.Complex.{Complex}
use Rattle.model.specs.Slots.{State, amplitude}
use Rattle.model.specs.Svd.{values}
use Rattle.model.specs.Truncation.{rank}
use Rattle.model.specs.Cut.{Ran, adjacent, rank_of}
use Rattle.model.specs.Pair.{gated, gated_theta, matrix_of, adjoint_of, isometry_site, scaled_site, vt_site, scaled_vt_site}
use Rattle.model.specs.Statements.Pinned.{last_in}
use Rattle.model.specs.Statements.Demand1Cuts.{cut_svd}
use Rattle.model.specs.Statements.Soundness.{Sound}
use Rattle.model.specs.Statements.CutsAndMoves.{theta_of, gated_of, ElementLaw, FillLaw, Bond, BondLaw}
use Rattle.model.proofs.Laws.CutEnds.{cut_at, CutEnds, above, nan, stored, adjacent_ends, last_narrowed}

-- (UΘ)(i, j), the loop over i' and j' written out
gated_sum : (gate : List (List Complex)) (th : ℕ → ℕ → Complex) (i j : ℕ) → gated gate th i j ≡ gated_of gate th i j
unfolding each
gated_sum gate th i j = refl

-- ---- the matrix, by columns: row 2 a + i and column j * br + b hold th a i j b

module _ (bl br : ℕ) (th : ℕ → ℕ → ℕ → ℕ → Complex) where
  -- one column's length, and that of the columns of one j
  column_length : (j b : ℕ) → length (rows bl (λ a. numbers 2 (λ i. th a i j b))) ≡ 2 * (bl * 2)
  column_length j b = length_rows 2 _ (λ a. length_numbers 2 (λ i. th a i j b)) bl

  half_length : (j : ℕ) → length (rows br (λ b. rows bl (λ a. numbers 2 (λ i. th a i j b)))) ≡ 2 * (br * (bl * 2))
  half_length j = length_rows (bl * 2) _ (column_length j) br

  pub length_matrix_of : length (matrix_of bl br th) ≡ 2 * (2 * br * (2 * bl))
  unfolding matrix_of
  length_matrix_of = length_rows (br * (bl * 2)) _ half_length 2 ∙ omega arith

  pub at_matrix_of : (a i j b : ℕ) → a < bl → i < 2 → j < 2 → b < br → at (matrix_of bl br th) ((j * br + b) * (2 * bl) + (2 * a + i)) ≡ th a i j b
  unfolding matrix_of
  at_matrix_of a i j b ha hi hj hb =
      let row : a * 2 + i < bl * 2 = cell_below 2 bl a i hi ha in
      let place : (j * br + b) * (2 * bl) + (2 * a + i) ≡ j * (br * (bl * 2)) + (b * (bl * 2) + (a * 2 + i)) = omega arith in
      rw place
      (at_rows (br * (bl * 2)) _ half_length 2 j (b * (bl * 2) + (a * 2 + i)) hj (cell_below (bl * 2) br b (a * 2 + i) row hb)
      ∙ at_rows (bl * 2) _ (column_length j) br b (a * 2 + i) hb row
      ∙ at_rows 2 _ (λ a. length_numbers 2 (λ i. th a i j b)) bl a i ha hi
      ∙ at_numbers 2 (λ i. th a i j b) i hi)

  -- its conjugate transpose, by columns: row j * br + b and column 2 a + i hold the conjugate of th a i j b

  part_length : (a i : ℕ) → length (rows 2 (λ j. numbers br (λ b. conj_c (th a i j b)))) ≡ 2 * (2 * br)
  part_length a i = length_rows br _ (λ j. length_numbers br (λ b. conj_c (th a i j b))) 2

  pair_length : (a : ℕ) → length (rows 2 (λ i. rows 2 (λ j. numbers br (λ b. conj_c (th a i j b))))) ≡ 2 * (2 * (2 * br))
  pair_length a = length_rows (2 * br) _ (part_length a) 2

  pub length_adjoint_of : length (adjoint_of bl br th) ≡ 2 * (2 * bl * (2 * br))
  unfolding adjoint_of
  length_adjoint_of = length_rows (2 * (2 * br)) _ pair_length bl ∙ omega arith

  pub at_adjoint_of : (a i j b : ℕ) → a < bl → i < 2 → j < 2 → b < br → at (adjoint_of bl br th) ((2 * a + i) * (2 * br) + (j * br + b)) ≡ conj_c (th a i j b)
  unfolding adjoint_of
  at_adjoint_of a i j b ha hi hj hb =
      let row : j * br + b < 2 * br = cell_below br 2 j b hb hj in
      let place : (2 * a + i) * (2 * br) + (j * br + b) ≡ a * (2 * (2 * br)) + (i * (2 * br) + (j * br + b)) = omega arith in
      rw place
      (at_rows (2 * (2 * br)) _ pair_length bl a (i * (2 * br) + (j * br + b)) ha (cell_below (2 * br) 2 i (j * br + b) row hi)
      ∙ at_rows (2 * br) _ (part_length a) 2 i (j * br + b) hi row
      ∙ at_rows br _ (λ j. length_numbers br (λ b. conj_c (th a i j b))) 2 j b hj hb
      ∙ at_numbers br (λ b. conj_c (th a i j b)) b hb)

-- ---- the element that a cut decomposes

pub element_law : ElementLaw
unfolding ElementLaw
element_law gate bl mid br left right a i j b ha hi hj hb =
    let th = gated_theta gate mid br left right in
    let sum = gated_sum gate (theta_of mid br left right a b) i j in
    record { straight = at_matrix_of bl br th a i j b ha hi hj hb ∙ sum; adjoint = at_adjoint_of bl br th a i j b ha hi hj hb ∙ ap conj_c sum }

-- ---- the four fills, by amplitude

-- rows of numbers
row_length : (n m : ℕ) (f : ℕ → ℕ → Complex) → length (rows n (λ r. numbers m (f r))) ≡ 2 * (n * m)
row_length n m f = length_rows m (λ r. numbers m (f r)) (λ r. length_numbers m (f r)) n

row_at : (n m : ℕ) (f : ℕ → ℕ → Complex) (r c : ℕ) → r < n → c < m → at (rows n (λ r. numbers m (f r))) (r * m + c) ≡ f r c
row_at n m f r c hr hc = at_rows m (λ r. numbers m (f r)) (λ r. length_numbers m (f r)) n r c hr hc ∙ at_numbers m (f r) c hc

-- a site of 2 bl rows: left index a and bit i at row 2 a + i
left_amplitude : (bl chi : ℕ) (f : ℕ → ℕ → Complex) (a i g : ℕ) → a < bl → i < 2 → g < chi → amplitude (rows (2 * bl) (λ r. numbers chi (f r))) chi a i g ≡ f (2 * a + i) g
left_amplitude bl chi f a i g ha hi hg =
    let place : a * (2 * chi) + i * chi + g ≡ (2 * a + i) * chi + g = omega arith in
    rw place (row_at (2 * bl) chi f (2 * a + i) g (omega arith) hg)

-- a site of chi rows: bit j and right index b at column j * br + b
right_amplitude : (chi br : ℕ) (f : ℕ → ℕ → Complex) (g j b : ℕ) → g < chi → j < 2 → b < br → amplitude (rows chi (λ g. numbers (2 * br) (f g))) br g j b ≡ f g (j * br + b)
right_amplitude chi br f g j b hg hj hb =
    let place : g * (2 * br) + j * br + b ≡ g * (2 * br) + (j * br + b) = omega arith in
    rw place (row_at chi (2 * br) f g (j * br + b) hg (cell_below br 2 j b hb hj))

module _ (bl chi : ℕ) (u : ℕ → ℕ → Complex) where
  pub length_isometry_site : length (isometry_site bl chi u) ≡ 2 * (2 * bl * chi)
  unfolding isometry_site
  length_isometry_site = row_length (2 * bl) chi u

  pub isometry_amplitude : (a i g : ℕ) → a < bl → i < 2 → g < chi → amplitude (isometry_site bl chi u) chi a i g ≡ u (2 * a + i) g
  unfolding isometry_site
  isometry_amplitude = left_amplitude bl chi u

  pub length_scaled_site : (s : ℕ → Float) → length (scaled_site bl chi u s) ≡ 2 * (2 * bl * chi)
  unfolding scaled_site
  length_scaled_site s = row_length (2 * bl) chi (λ r g. scale_c (u r g) (s g))

  pub scaled_amplitude : (s : ℕ → Float) (a i g : ℕ) → a < bl → i < 2 → g < chi → amplitude (scaled_site bl chi u s) chi a i g ≡ scale_c (u (2 * a + i) g) (s g)
  unfolding scaled_site
  scaled_amplitude s = left_amplitude bl chi (λ r g. scale_c (u r g) (s g))

module _ (chi br : ℕ) (vt : ℕ → ℕ → Complex) where
  pub length_vt_site : length (vt_site chi br vt) ≡ 2 * (chi * (2 * br))
  unfolding vt_site
  length_vt_site = row_length chi (2 * br) vt

  pub vt_amplitude : (g j b : ℕ) → g < chi → j < 2 → b < br → amplitude (vt_site chi br vt) br g j b ≡ vt g (j * br + b)
  unfolding vt_site
  vt_amplitude = right_amplitude chi br vt

  pub length_scaled_vt_site : (s : ℕ → Float) → length (scaled_vt_site chi br vt s) ≡ 2 * (chi * (2 * br))
  unfolding scaled_vt_site
  length_scaled_vt_site s = row_length chi (2 * br) (λ g c. mul_c (real (s g)) (vt g c))

  pub scaled_vt_amplitude : (s : ℕ → Float) (g j b : ℕ) → g < chi → j < 2 → b < br → amplitude (scaled_vt_site chi br vt s) br g j b ≡ mul_c (real (s g)) (vt g (j * br + b))
  unfolding scaled_vt_site
  scaled_vt_amplitude s = right_amplitude chi br (λ g c. mul_c (real (s g)) (vt g c))

pub fill_law : FillLaw
unfolding FillLaw
fill_law bl br chi u vt s = record {
  left = isometry_amplitude bl chi u;
  left_scaled = scaled_amplitude bl chi u s;
  right = vt_amplitude chi br vt;
  right_scaled = scaled_vt_amplitude chi br vt s;
}

-- ---- the new bond is the rank that the rule keeps, in the records of both sites

module _ (gate : List (List Complex)) (k : ℕ) (s : State) (h : Sound s.chain) (inside : k + 1 < s.chain.num_qubits) where
  stored_bond : Bond (cut_at gate k s).chain k (rank_of s (cut_svd gate k s))
  stored_bond =
      let t = last_in gate k s in
      let d = cut_svd gate k s in
      let x = last_narrowed gate k s h inside in
      let e : rank_of t d ≡ rank_of s d = λ i. rank (x.rest.settings i).epsilon (x.rest.settings i).cap (values d) in
      let most : s.chain.num_qubits ≤ 64 = h.settings.qubits.1 in (
        get_or-set_same t.chain.bond_right k (rank_of t d) 0 (omega (arith, x.sound.sizes.rights)) ∙ e,
        get_or-set_same t.chain.bond_left (k + 1) (rank_of t d) 0 (omega (arith, x.sound.sizes.lefts)) ∙ e,
      )

  cut_bond : (adjacent gate k s).refused ≡ 0 → Bond (adjacent gate k s).state.chain k (rank_of s (cut_svd gate k s))
  cut_bond z = cases (adjacent_ends gate k s h inside)
    where
      cases : CutEnds gate k s (adjacent gate k s) → Bond (adjacent gate k s).state.chain k (rank_of s (cut_svd gate k s))
      cases (above a e) = absurd (omega (arith, sym z ∙ ap (λ (r : Ran). r.refused) e))
      cases (nan a t n e) = absurd (omega (arith, sym z ∙ ap (λ (r : Ran). r.refused) e))
      cases (stored a n e) = rw e stored_bond

pub bond_law : BondLaw
unfolding BondLaw
bond_law gate k s h inside z = cut_bond gate k s h inside z
