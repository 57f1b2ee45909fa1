-- Laws of Qr.antt: what a projection, the passes and the keeping of a column write, and what they leave alone. `gram_schmidt_law`, `pass_law` and `qr_law` prove the statements of
-- Factorings.antt.
use Rattle.std.specs.Prelude.{◌≡◌, ◌≢◌, Bool, true, false, cond, ◌&&◌, List, ◌++◌, ltb, eqb, replicate, Float}
use Rattle.std.proofs.Math.Path.{refl, ap}
use Rattle.std.proofs.Common.{◌∙◌, ⊎_elim, le_refl, eq-or-lt_of_le, add-one, arith, ltb-true, eq-eqb, ne_eqb}
use Prim.Native.Nat.{ℕ, zero, suc, ◌+◌, ◌*◌, ◌≤◌, ◌<◌, min, max}
use Rattle.std.proofs.Math.Nat.{mul-le-mul_right}
use Rattle.std.proofs.Math.ListN.{length, length-append, length-replicate, get_or-replicate}
use Rattle.std.specs.Float.Ieee.{binary64, mul, div, lt, nan}
use Rattle.complex.specs.Complex.{add_c, sub_c, mul_c, scale_c, real, zero_c, zero_f, one_f}
use Rattle.complex.specs.Loops.{each, each_none, each_more, each_keeps}
use Rattle.complex.specs.Matrix.{cell_below, cell_row, cell_column}
use Rattle.complex.specs.Numbers.{count, at, store, length_store, at_store_same, at_store_other, each_length, each_apart, at_left, at_right}
use Rattle.complex.specs.declared.Complex.{Complex}
use Rattle.model.specs.Columns.{l2_norm, scaled_to, zeroed}
use Rattle.model.specs.Qr.{dot, taken_away, entry_at, projected_on, Passed, pass_of, passes_of, Kept, kept, kept_of, column_of, raised, qr, rank_tolerance, pass_retain}
use Rattle.model.specs.Statements.Factorings.{GramSchmidtLaw, PassLaw, done, rank_of, passes_at, keeps, r_at, q_at, QrLaw}
use Rattle.model.proofs.Laws.ColumnLaws.{each_since, each_once, l2_norm_same, length_scaled_to, at_scaled_to, at_scaled_to_other, length_zeroed, at_zeroed, at_zeroed_other}
use Rattle.model.proofs.Laws.Tests.{either_way}

-- number k is none of column c's
abbrev Off : ℕ → ℕ → ℕ → Type 0
Off high c k = (r : ℕ) → r < high → k ≢ c * high + r

-- ---- places

module _ (high wide : ℕ) where
  entry_off : (i j c : ℕ) → c < wide → Off high c (entry_at high wide i j)
  entry_off i j c h r hr e = let z = cell_below high wide c r hr h in omega arith

  entry_column : (i j i' j' : ℕ) → j < wide → j' < wide → j ≢ j' → entry_at high wide i j ≢ entry_at high wide i' j'
  entry_column i j i' j' h h' d e = d (cell_row wide i j i' j' h h' (omega arith))

  entry_row : (i j i' : ℕ) → j < wide → i ≢ i' → entry_at high wide i j ≢ entry_at high wide i' j
  entry_row i j i' h d e = d (cell_column wide i j i' j h h (omega arith))

-- ---- what the passes on a column leave alone

pub length_taken_away : (from to n : ℕ) (d : Complex) (w : List Float) → length (taken_away from to n d w) ≡ length w
unfolding taken_away
length_taken_away from to n d w = each_length n _ w (λ k ys h. length_store ys (to + k) _)

pub at_taken_away_other : (from to n : ℕ) (d : Complex) (w : List Float) (k : ℕ) → ((r : ℕ) → r < n → k ≢ to + r) → at (taken_away from to n d w) k ≡ at w k
unfolding taken_away
at_taken_away_other from to n d w k apart = each_apart n _ w k (λ r ys h. at_store_other ys (to + r) k _ (apart r h))

-- number to + k, less d times number from + k, where the run that is read lies before the one that is written
pub at_taken_away : (from to n : ℕ) (d : Complex) (w : List Float) (k : ℕ) → k < n → from + n ≤ to → to + n ≤ count w
    → at (taken_away from to n d w) (to + k) ≡ sub_c (at w (to + k)) (mul_c d (at w (from + k)))
unfolding taken_away
at_taken_away from to n d w k h le room =
    each_once (λ ys. at ys (to + k)) step w k n h (λ i a b. at_store_other (each i step w) (to + i) (to + k) _ (omega arith))
    ∙ at_store_same (each k step w) (to + k) _ (omega (arith, long))
    ∙ rw (old (to + k) (λ i l. omega arith), old (from + k) (λ i l. omega arith))
  where
    step : ℕ → List Float → List Float
    step i ys = store ys (to + i) (sub_c (at ys (to + i)) (mul_c d (at ys (from + i))))

    long : length (each k step w) ≡ length w
    long = each_length k step w (λ i ys a. length_store ys (to + i) _)

    old : (j : ℕ) → ((i : ℕ) → i < k → j ≢ to + i) → at (each k step w) j ≡ at w j
    old j apart = each_apart k step w j (λ i ys l. at_store_other ys (to + i) j _ (apart i l))

module _ (high wide j : ℕ) where
  pub length_projected_on : (i : ℕ) (w : List Float) → length (projected_on high wide j i w) ≡ length w
  unfolding projected_on
  length_projected_on i w = length_store _ (entry_at high wide i j) _ ∙ length_taken_away (i * high) (j * high) high _ w

  pub at_projected_on_other : (i : ℕ) (w : List Float) (k : ℕ) → Off high j k → k ≢ entry_at high wide i j → at (projected_on high wide j i w) k ≡ at w k
  unfolding projected_on
  at_projected_on_other i w k off d = at_store_other _ (entry_at high wide i j) k _ d ∙ at_taken_away_other (i * high) (j * high) high _ w k off

  module _ (i : ℕ) (w : List Float) (before : i < j) (hj : j < wide) (hi : i < min high wide) (room : wide * high + min high wide * wide ≤ count w) where
    away : List Float
    away = taken_away (i * high) (j * high) high (dot w (i * high) (j * high) high) w

    pub at_projected_on_column : (r : ℕ) → r < high → at (projected_on high wide j i w) (j * high + r) ≡ sub_c (at w (j * high + r)) (mul_c (dot w (i * high) (j * high) high) (at w (i * high + r)))
    unfolding projected_on away
    at_projected_on_column r hr =
        let b = cell_below high wide j r hr hj in
        at_store_other away (entry_at high wide i j) (j * high + r) _ (omega arith)
        ∙ at_taken_away (i * high) (j * high) high (dot w (i * high) (j * high) high) w r hr (omega (arith, mul-le-mul_right high before)) (omega (arith, mul-le-mul_right high hj))

    pub at_projected_on_entry : at (projected_on high wide j i w) (entry_at high wide i j) ≡ add_c (at w (entry_at high wide i j)) (dot w (i * high) (j * high) high)
    unfolding projected_on away
    at_projected_on_entry =
        let b = cell_below wide (min high wide) i j hj hi in
        let l = length_taken_away (i * high) (j * high) high (dot w (i * high) (j * high) high) w in
        at_store_same away (entry_at high wide i j) _ (omega arith)
        ∙ ap (λ z. add_c z (dot w (i * high) (j * high) high)) (at_taken_away_other (i * high) (j * high) high _ w (entry_at high wide i j) (entry_off high wide i j j hj))

  module _ (rank : ℕ) where
    pub length_pass_of : (w : List Float) → length (pass_of high wide rank j w).w ≡ length w
    unfolding pass_of
    length_pass_of w = each_length rank (projected_on high wide j) w (λ i ys h. length_projected_on i ys)

    pub length_passes_of : (fuel : ℕ) (previous : Float) (w : List Float) → length (passes_of high wide rank j fuel previous w).w ≡ length w
    unfolding passes_of
    length_passes_of zero previous w = refl
    length_passes_of (suc fuel) previous w =
        let x = pass_of high wide rank j w in
        either_way (λ (y : Passed). length y.w ≡ length w) (lt (mul binary64 pass_retain previous) x.residual) _ _ (length_pass_of w) (length_passes_of fuel x.residual x.w ∙ length_pass_of w)

    -- numbers that are neither of column j nor entries (i, j) of a row below the rank
    module _ (k : ℕ) (off : Off high j k) (apart : (i : ℕ) → i < rank → k ≢ entry_at high wide i j) where
      pub at_pass_of_other : (w : List Float) → at (pass_of high wide rank j w).w k ≡ at w k
      unfolding pass_of
      at_pass_of_other w = each_apart rank (projected_on high wide j) w k (λ i ys h. at_projected_on_other i ys k off (apart i h))

      pub at_passes_of_other : (fuel : ℕ) (previous : Float) (w : List Float) → at (passes_of high wide rank j fuel previous w).w k ≡ at w k
      unfolding passes_of
      at_passes_of_other zero previous w = refl
      at_passes_of_other (suc fuel) previous w =
          let x = pass_of high wide rank j w in
          either_way (λ (y : Passed). at y.w k ≡ at w k) (lt (mul binary64 pass_retain previous) x.residual) _ _ (at_pass_of_other w) (at_passes_of_other fuel x.residual x.w ∙ at_pass_of_other w)

-- ---- one column

-- passes from the state k, of a column of this norm, and whether it is kept
abbrev passes_from : ℕ → ℕ → ℕ → Kept → Float → Passed
passes_from high wide j k norm = passes_of high wide k.rank j 3 norm k.w

abbrev keeps_from : ℕ → ℕ → ℕ → Kept → Float → Bool
keeps_from high wide j k norm = ltb k.rank (min high wide) && lt (mul binary64 rank_tolerance norm) (passes_from high wide j k norm).residual

module _ (high wide j : ℕ) (k : Kept) (norm : Float) (own : l2_norm k.w (j * high) high ≡ norm) where
  abbrev x : Passed
  x = passes_from high wide j k norm

  abbrev keep : Bool
  keep = keeps_from high wide j k norm

  abbrev next : Kept
  next = column_of high wide (min high wide) j k

  abbrev scaled : List Float
  scaled = scaled_to (j * high) (k.rank * high) high (div binary64 one_f x.residual) x.w

  column_of_kept : keep ≡ true → next ≡ kept (k.rank + 1) (store scaled (entry_at high wide k.rank j) (real x.residual))
  unfolding column_of kept_of
  column_of_kept h = rw (own, h)

  column_of_dropped : keep ≡ false → next ≡ kept k.rank x.w
  unfolding column_of kept_of
  column_of_dropped h = rw (own, h)

  -- the rank grows by one if the column is kept, and else stays
  column_of_rank : next.rank ≡ cond (keep) (k.rank + 1) k.rank
  column_of_rank = either (keep) refl
    where
      either : (b : Bool) → keep ≡ b → next.rank ≡ cond b (k.rank + 1) k.rank
      either true e = ap (λ y. y.rank) (column_of_kept e)
      either false e = ap (λ y. y.rank) (column_of_dropped e)

  column_of_length : length next.w ≡ length k.w
  column_of_length = either (keep) refl
    where
      long : length x.w ≡ length k.w
      long = length_passes_of high wide j k.rank 3 norm k.w

      either : (b : Bool) → keep ≡ b → length next.w ≡ length k.w
      either true e = ap (λ y. length y.w) (column_of_kept e) ∙ length_store scaled (entry_at high wide k.rank j) (real x.residual) ∙ length_scaled_to (j * high) (k.rank * high) high (div binary64 one_f x.residual) x.w ∙ long
      either false e = ap (λ y. length y.w) (column_of_dropped e) ∙ long

  keeps_room : keep ≡ true → k.rank < min high wide
  keeps_room h = ltb-true k.rank (min high wide) (first (ltb k.rank (min high wide)) _ h)
    where
      first : (a b : Bool) → (a && b) ≡ true → a ≡ true
      first true b h = refl
      first false b h = h

  -- number n, where it is none of what is written once the column is kept: as the passes left it
  column_of_passed : (n : ℕ) → (k.rank < min high wide → Off high k.rank n) → (k.rank < min high wide → n ≢ entry_at high wide k.rank j) → at next.w n ≡ at x.w n
  column_of_passed n off apart = either (keep) refl
    where
      either : (b : Bool) → keep ≡ b → at next.w n ≡ at x.w n
      either true e =
          let room = keeps_room e in
          ap (λ y. at y.w n) (column_of_kept e)
          ∙ at_store_other scaled (entry_at high wide k.rank j) n (real x.residual) (apart room)
          ∙ at_scaled_to_other (j * high) (k.rank * high) high (div binary64 one_f x.residual) x.w n (off room)
      either false e = ap (λ y. at y.w n) (column_of_dropped e)

  -- and where it is none of what the passes write either: as it was
  column_of_other : (n : ℕ) → Off high j n → ((i : ℕ) → i < k.rank → n ≢ entry_at high wide i j)
      → (k.rank < min high wide → Off high k.rank n) → (k.rank < min high wide → n ≢ entry_at high wide k.rank j) → at next.w n ≡ at k.w n
  column_of_other n off rows kept_off apart =
      column_of_passed n kept_off apart ∙ at_passes_of_other high wide j k.rank n off rows 3 norm k.w

  module _ (hj : j < wide) where
    -- another column's entry
    entry_other : (i c : ℕ) → c < wide → c ≢ j → at next.w (entry_at high wide i c) ≡ at k.w (entry_at high wide i c)
    entry_other i c hc d =
        column_of_other (entry_at high wide i c) (entry_off high wide i c j hj) (λ r h. entry_column high wide i c r j hc hj d)
        (λ room. entry_off high wide i c k.rank (omega arith)) (λ room. entry_column high wide i c k.rank j hc hj d)

    -- an entry of this column in a row from the new rank on
    entry_below : (i : ℕ) → next.rank ≤ i → at next.w (entry_at high wide i j) ≡ at k.w (entry_at high wide i j)
    entry_below i h = either (keep) refl
      where
        passed_by : k.rank ≤ i → at x.w (entry_at high wide i j) ≡ at k.w (entry_at high wide i j)
        passed_by l =
            at_passes_of_other high wide j k.rank (entry_at high wide i j) (entry_off high wide i j j hj) (λ r lr. entry_row high wide i j r hj (omega arith)) 3 norm k.w

        either : (b : Bool) → keep ≡ b → at next.w (entry_at high wide i j) ≡ at k.w (entry_at high wide i j)
        either false e = let q = ap (λ y. y.rank) (column_of_dropped e) in ap (λ y. at y.w (entry_at high wide i j)) (column_of_dropped e) ∙ passed_by (omega arith)
        either true e =
            let q = ap (λ y. y.rank) (column_of_kept e) in
            let room = keeps_room e in
            column_of_passed (entry_at high wide i j) (λ r. entry_off high wide i j k.rank (omega arith)) (λ r. entry_row high wide i j k.rank hj (omega arith)) ∙ passed_by (omega arith)

    -- one in a row below the old rank
    entry_above : (i : ℕ) → i < k.rank → at next.w (entry_at high wide i j) ≡ at x.w (entry_at high wide i j)
    entry_above i h = column_of_passed (entry_at high wide i j) (λ r. entry_off high wide i j k.rank (omega arith)) (λ r. entry_row high wide i j k.rank hj (omega arith))

    module _ (room : wide * high + min high wide * wide ≤ count k.w) (h : keep ≡ true) where
      long : length scaled ≡ length k.w
      long = length_scaled_to (j * high) (k.rank * high) high (div binary64 one_f x.residual) x.w ∙ length_passes_of high wide j k.rank 3 norm k.w

      -- the entry of the row of the rank
      entry_kept : at next.w (entry_at high wide k.rank j) ≡ real x.residual
      entry_kept =
          let l = keeps_room h in
          let b = cell_below wide (min high wide) k.rank j hj l in
          let e = long in
          ap (λ y. at y.w (entry_at high wide k.rank j)) (column_of_kept h) ∙ at_store_same scaled (entry_at high wide k.rank j) (real x.residual) (omega arith)

      -- q's column, where it stands before column j or is it
      column_kept : (r : ℕ) → r < high → k.rank ≤ j → at next.w (k.rank * high + r) ≡ scale_c (at x.w (j * high + r)) (div binary64 one_f x.residual)
      column_kept r hr below =
          let l = keeps_room h in
          let b = cell_below high wide k.rank r hr (omega arith) in
          let e = length_passes_of high wide j k.rank 3 norm k.w in
          ap (λ y. at y.w (k.rank * high + r)) (column_of_kept h)
          ∙ at_store_other scaled (entry_at high wide k.rank j) (k.rank * high + r) (real x.residual) (omega arith)
          ∙ at_scaled_to (j * high) (k.rank * high) high (div binary64 one_f x.residual) x.w r hr (mul-le-mul_right high below)
          (omega (arith, mul-le-mul_right high (let z : k.rank + 1 ≤ wide = omega arith in z)))

-- ---- where no column is kept

raised_some : (high : ℕ) (k : Kept) → 0 < k.rank → raised high k ≡ k
unfolding raised
raised_some high k h = rw (ne_eqb k.rank 0 (omega arith))

raised_none : (high : ℕ) (k : Kept) → k.rank ≡ 0 → raised high k ≡ kept 1 (store (zeroed 0 high k.w) 0 (real one_f))
unfolding raised
raised_none high k h = rw (eq-eqb k.rank 0 h)

raised_entry : (high wide : ℕ) → 1 ≤ high → 1 ≤ wide → (i j : ℕ) (k : Kept) → at (raised high k).w (entry_at high wide i j) ≡ at k.w (entry_at high wide i j)
unfolding raised
raised_entry high wide tall broad i j k = either (eqb k.rank 0)
  where
    past : high ≤ wide * high
    past = omega (arith, mul-le-mul_right high broad)

    either : (b : Bool) → at (cond b (kept 1 (store (zeroed 0 high k.w) 0 (real one_f))) k).w (entry_at high wide i j) ≡ at k.w (entry_at high wide i j)
    either true =
        let p = past in
        at_store_other (zeroed 0 high k.w) 0 (entry_at high wide i j) (real one_f) (omega arith) ∙ at_zeroed_other 0 high k.w (entry_at high wide i j) (λ r h. omega arith)
    either false = refl

-- ---- the whole

module _ (high wide : ℕ) (a : List Float) where
  abbrev start : List Float
  start = a ++ replicate (2 * (min high wide * wide)) zero_f

  abbrev state : ℕ → Kept
  state j = done high wide a j

  -- the norm of column j as it comes to its passes
  abbrev own_norm : ℕ → Float
  own_norm j = l2_norm (state j).w (j * high) high

  done_next : (j : ℕ) → state (j + 1) ≡ column_of high wide (min high wide) j (state j)
  unfolding done
  done_next j = each_more j (column_of high wide (min high wide)) (kept 0 start)

  -- what the columns from k on leave alone
  done_since : {B : Type 0} (see : Kept → B) (k n : ℕ) → k ≤ n → ((j : ℕ) → k ≤ j → j < n → see (column_of high wide (min high wide) j (state j)) ≡ see (state j)) → see (state n) ≡ see (state k)
  unfolding done
  done_since see k n h apart = each_since see (column_of high wide (min high wide)) (kept 0 start) k n h apart

  done_none : state 0 ≡ kept 0 start
  unfolding done
  done_none = each_none (column_of high wide (min high wide)) (kept 0 start)

  qr_done : qr high wide a ≡ raised high (state wide)
  unfolding qr done
  qr_done = refl

  -- the rank grows by at most one a column, so it is at most the number of the columns seen
  rank_grows : (j : ℕ) → ((state j).rank ≤ (state (j + 1)).rank) × ((state (j + 1)).rank ≤ (state j).rank + 1)
  rank_grows j = either (keeps_from high wide j (state j) (own_norm j)) (ap (λ y. y.rank) (done_next j) ∙ column_of_rank high wide j (state j) (own_norm j) refl)
    where
      either : (b : Bool) → (state (j + 1)).rank ≡ cond b ((state j).rank + 1) (state j).rank → ((state j).rank ≤ (state (j + 1)).rank) × ((state (j + 1)).rank ≤ (state j).rank + 1)
      either true e = (omega arith, omega arith)
      either false e = (omega arith, omega arith)

  rank_none : (state 0).rank ≡ 0
  rank_none = ap (λ y. y.rank) done_none

  rank_seen : (j : ℕ) → (state j).rank ≤ j
  rank_seen zero = let e = rank_none in omega arith
  rank_seen (suc j) = let e = rank_grows j in let h = rank_seen j in rw (← add-one j) (omega (arith, e.1))

  rank_later : (i j : ℕ) → i ≤ j → (state i).rank ≤ (state j).rank
  rank_later i zero h = let e : i ≡ 0 = omega arith in rw e (le_refl _)
  rank_later i (suc j) h =
      ⊎_elim
      (λ (e : i ≡ suc j). rw e (le_refl _))
      (λ (l : i < suc j). let g = rank_grows j in let m = rank_later i j (omega arith) in rw (← add-one j) (omega (arith, g.0)))
      (eq-or-lt_of_le h)

  rank_last : (qr high wide a).rank ≡ max 1 (state wide).rank
  rank_last = ap (λ y. y.rank) qr_done ∙ either (state wide).rank refl
    where
      either : (n : ℕ) → (state wide).rank ≡ n → (raised high (state wide)).rank ≡ max 1 (state wide).rank
      either zero e = ap (λ y. y.rank) (raised_none high (state wide) e) ∙ omega arith
      either (suc n) e = ap (λ y. y.rank) (raised_some high (state wide) (omega arith)) ∙ omega arith

  module _ (tall : 1 ≤ high) (broad : 1 ≤ wide) (len : length a ≡ 2 * (wide * high)) where
    done_length : (j : ℕ) → length (state j).w ≡ 2 * (wide * high + min high wide * wide)
    unfolding done
    done_length j =
        each_keeps (λ (y : Kept). length y.w ≡ length start) j (column_of high wide (min high wide)) (λ i y l e. column_of_length high wide i y _ refl ∙ e) (kept 0 start) refl
        ∙ length-append a (replicate (2 * (min high wide * wide)) zero_f)
        ∙ omega (arith, length-replicate (2 * (min high wide * wide)) zero_f)

    -- column j is as given until its passes: the columns before it write themselves and columns of q, which stand no later
    given : (j r : ℕ) → j < wide → r < high → at (state j).w (j * high + r) ≡ at a (j * high + r)
    given j r hj hr =
        let b = cell_below high wide j r hr hj in
        done_since (λ y. at y.w (j * high + r)) 0 j (omega arith)
        (λ c lo hi.
        let seen = rank_seen c in
        column_of_other high wide c (state c) (own_norm c) refl (j * high + r) (λ q hq e. let z = cell_column high j r c q hr hq e in omega arith) (λ i l. omega arith)
        (λ room q hq e. let z = cell_column high j r (state c).rank q hr hq e in omega arith) (λ room. omega arith))
        ∙ ap (λ y. at y.w (j * high + r)) done_none
        ∙ at_left a (replicate (2 * (min high wide * wide)) zero_f) (j * high + r) (omega arith)

    norm_given : (j : ℕ) → j < wide → own_norm j ≡ l2_norm a (j * high) high
    norm_given j hj = l2_norm_same (state j).w a (j * high) high (λ r hr. given j r hj hr)

    rank_next : (j : ℕ) → j < wide → rank_of high wide a (j + 1) ≡ cond (keeps high wide a j) (rank_of high wide a j + 1) (rank_of high wide a j)
    rank_next j hj = ap (λ y. y.rank) (done_next j) ∙ column_of_rank high wide j (state j) (l2_norm a (j * high) high) (norm_given j hj)

    -- an entry is 0 at first
    start_entry : (i j : ℕ) → i < min high wide → j < wide → at start (entry_at high wide i j) ≡ zero_c
    start_entry i j hi hj =
        let b = cell_below wide (min high wide) i j hj hi in
        at_right a (replicate (2 * (min high wide * wide)) zero_f) (wide * high) (i * wide + j) len ∙ at_zeros (min high wide * wide) (i * wide + j) b
      where
        at_zeros : (n k : ℕ) → k < n → at (replicate (2 * n) zero_f) k ≡ zero_c
        at_zeros n k h t = unfold at in record { re = get_or-replicate (2 * n) (2 * k) zero_f nan (omega arith) t; im = get_or-replicate (2 * n) (2 * k + 1) zero_f nan (omega arith) t }

    -- .. until its column, and from there on as its column left it
    entry_before : (i j : ℕ) → j < wide → at (state j).w (entry_at high wide i j) ≡ at start (entry_at high wide i j)
    entry_before i j hj =
        done_since (λ y. at y.w (entry_at high wide i j)) 0 j (omega arith) (λ c l m. entry_other high wide c (state c) (own_norm c) refl (omega arith) i j hj (omega arith))
        ∙ ap (λ y. at y.w (entry_at high wide i j)) done_none

    entry_after : (i j : ℕ) → j < wide → r_at high wide a i j ≡ at (column_of high wide (min high wide) j (state j)).w (entry_at high wide i j)
    entry_after i j hj =
        ap (λ y. at y.w (entry_at high wide i j)) qr_done
        ∙ raised_entry high wide tall broad i j (state wide)
        ∙ done_since (λ y. at y.w (entry_at high wide i j)) (j + 1) wide (omega arith) (λ c l m. entry_other high wide c (state c) (own_norm c) refl m i j hj (omega arith))
        ∙ ap (λ y. at y.w (entry_at high wide i j)) (done_next j)

    -- ---- R

    on_staircase : (j : ℕ) → j < wide → keeps high wide a j ≡ true → r_at high wide a (rank_of high wide a j) j ≡ real (passes_at high wide a j).residual
    on_staircase j hj h =
        let l = done_length j in
        entry_after (state j).rank j hj ∙ entry_kept high wide j (state j) (l2_norm a (j * high) high) (norm_given j hj) hj (omega arith) h

    below_staircase : (i j : ℕ) → i < min high wide → j < wide → rank_of high wide a (j + 1) ≤ i → r_at high wide a i j ≡ zero_c
    below_staircase i j hi hj h =
        let e = ap (λ y. y.rank) (done_next j) in
        entry_after i j hj ∙ entry_below high wide j (state j) (own_norm j) refl hj i (omega arith) ∙ entry_before i j hj ∙ start_entry i j hi hj

    above_staircase : (i j : ℕ) → j < wide → i < rank_of high wide a j → r_at high wide a i j ≡ at (passes_at high wide a j).w (entry_at high wide i j)
    above_staircase i j hj h = entry_after i j hj ∙ entry_above high wide j (state j) (l2_norm a (j * high) high) (norm_given j hj) hj i h

    below_diagonal : (i j : ℕ) → i < min high wide → j < i → r_at high wide a i j ≡ zero_c
    below_diagonal i j hi h = let s = rank_seen (j + 1) in below_staircase i j hi (omega arith) (omega arith)

    -- ---- q

    q_column : (j r : ℕ) → j < wide → r < high → keeps high wide a j ≡ true
        → q_at high wide a r (rank_of high wide a j) ≡ scale_c (at (passes_at high wide a j).w (j * high + r)) (div binary64 one_f (passes_at high wide a j).residual)
    q_column j r hj hr h =
        let l = done_length j in
        let seen = rank_seen j in
        let grown = rank_next j hj in
        let room = keeps_room high wide j (state j) (l2_norm a (j * high) high) (norm_given j hj) h in
        let b = cell_below high wide (state j).rank r hr (omega arith) in
        let more : (state (j + 1)).rank ≡ (state j).rank + 1 = rw h at grown in
        let final = rank_later (j + 1) wide (omega arith) in
        ap (λ y. at y.w ((state j).rank * high + r)) (qr_done ∙ raised_some high (state wide) (omega arith))
        ∙ done_since (λ y. at y.w ((state j).rank * high + r)) (j + 1) wide (omega arith)
        (λ c lo hi.
        let later = rank_later (j + 1) c lo in
        column_of_other high wide c (state c) (own_norm c) refl ((state j).rank * high + r) (λ q hq e. let z = cell_column high (state j).rank r c q hr hq e in omega arith) (λ i li. omega arith)
        (λ m q hq e. let z = cell_column high (state j).rank r (state c).rank q hr hq e in omega arith) (λ m. omega arith))
        ∙ ap (λ y. at y.w ((state j).rank * high + r)) (done_next j)
        ∙ column_kept high wide j (state j) (l2_norm a (j * high) high) (norm_given j hj) hj (omega arith) h r hr seen

    q_none : rank_of high wide a wide ≡ 0 → (q_at high wide a 0 0 ≡ real one_f) × ((r : ℕ) → 0 < r → r < high → q_at high wide a r 0 ≡ zero_c)
    q_none e =
        let l = done_length wide in
        let m = length_zeroed 0 high (state wide).w in
        let past = mul-le-mul_right high broad in (
          is 0 ∙ at_store_same (zeroed 0 high (state wide).w) 0 (real one_f) (omega arith),
          λ r lo hi. is r ∙ at_store_other (zeroed 0 high (state wide).w) 0 (0 + r) (real one_f) (omega arith) ∙ at_zeroed 0 high (state wide).w r hi (omega arith),
        )
      where
        is : (r : ℕ) → q_at high wide a r 0 ≡ at (store (zeroed 0 high (state wide).w) 0 (real one_f)) (0 + r)
        is r = let i : 0 * high + r ≡ 0 + r = omega arith in ap (at (qr high wide a).w) i ∙ ap (λ y. at y.w (0 + r)) (qr_done ∙ raised_none high (state wide) e)

-- ---- the statements of Factorings.antt

pub gram_schmidt_law : GramSchmidtLaw
unfolding GramSchmidtLaw
gram_schmidt_law high wide j i w before hj hi room = record {
  long = length_projected_on high wide j i w;
  column = at_projected_on_column high wide j i w before hj hi room;
  entry = at_projected_on_entry high wide j i w before hj hi room;
  others = at_projected_on_other high wide j i w;
}

pub pass_law : PassLaw
unfolding PassLaw pass_of
pass_law high wide rank j w seen hj most room i hi =
    let e = entry_at high wide i j in
    let before = each i (projected_on high wide j) w in
    let l = each_length i (projected_on high wide j) w (λ c ys h. length_projected_on high wide j c ys) in
    each_once (λ ys. at ys e) (projected_on high wide j) w i rank hi
    (λ c lo h. at_projected_on_other high wide j c (each c (projected_on high wide j) w) e (entry_off high wide i j j hj) (entry_row high wide i j c hj (omega arith)))
    ∙ at_projected_on_entry high wide j i before (omega arith) hj (omega arith) (omega arith)
    ∙ ap (λ z. add_c z (dot before (i * high) (j * high) high))
    (each_apart i (projected_on high wide j) w e (λ c ys h. at_projected_on_other high wide j c ys e (entry_off high wide i j j hj) (entry_row high wide i j c hj (omega arith))))

pub qr_law : QrLaw
unfolding QrLaw
qr_law high wide a tall broad len = record {
  given = given high wide a tall broad len;
  rank_first = rank_none high wide a;
  rank_next = rank_next high wide a tall broad len;
  rank_last = rank_last high wide a;
  on_staircase = on_staircase high wide a tall broad len;
  below_staircase = below_staircase high wide a tall broad len;
  above_staircase = above_staircase high wide a tall broad len;
  below_diagonal = below_diagonal high wide a tall broad len;
  q_column = q_column high wide a tall broad len;
  q_none = q_none high wide a tall broad len;
}
