-- Laws of Svd.antt: what the normalising of a column writes, and the whole. `value_law`, `svd_law` and `transpose_law` prove the statements of Factorings.antt.
use Rattle.std.specs.Prelude.{◌≡◌, ◌≢◌, ◌⊎◌, Bool, true, false, cond, ℕ, ◌+◌, ◌*◌, ◌≤◌, ◌<◌, Float}
use Rattle.std.proofs.Math.Path.{ap}
use Rattle.std.proofs.Common.{◌∙◌, inl, inr, ⊎_elim, mul-le-mul_right, arith, lt-ltb, le-ltb}
use mathlib.Core.List.{List, ◌++◌}
use Rattle.std.proofs.Math.ListN.{length, replicate, length-append, length-replicate}
use Rattle.std.specs.Float.Ieee.{binary64, div, lt}
use Rattle.complex.specs.Complex.{real, scale_c, zero_c, zero_f, one_f}
use Rattle.complex.specs.Loops.{each}
use Rattle.complex.specs.Matrix.{cell_below, cell_column}
use Rattle.complex.specs.Numbers.{count, at, store, length_store, at_store_same, at_store_other, each_length, each_apart}
use Rattle.model.specs.Columns.{l2_norm, scaled_to, zeroed}
use Rattle.model.specs.Svd.{values_at, identity_at, normalised, factored, Svd, raw_value, any_nan, column_at, value_at, ordered, svd}
use Rattle.model.specs.Statements.Factorings.{Converged, Exhausted, Settled, unswept_of, swept_of, column_norm, ValueLaw, Decomposed, SvdLaw, TransposeLaw}
use Rattle.model.proofs.Laws.ColumnLaws.{each_once, l2_norm_same, length_scaled_to, at_scaled_to, at_scaled_to_other, length_zeroed, at_zeroed, at_zeroed_other}
use Rattle.model.proofs.Laws.JacobiLaws.{length_sweeps, sweeps_settled, sweeps_end}
use Rattle.model.proofs.Laws.OrderLaws.{order_below, order_one, order_downward, order_stable}
use Rattle.model.proofs.Laws.Tests.{either_way}

-- ---- one column

module _ (high wide : ℕ) (clamp : Float) (j : ℕ) (w : List Float) where
  abbrev norm : Float
  norm = l2_norm w (j * high) high

  -- the list with the value written
  abbrev valued : List Float
  valued = store w (values_at high wide + j) (real norm)

  abbrev choice : Bool → List Float
  choice b = cond b (scaled_to (j * high) (j * high) high (div binary64 one_f norm) valued) (zeroed (j * high) high valued)

  pub length_normalised : length (normalised high wide clamp j w) ≡ length w
  unfolding normalised
  length_normalised =
      let long = length_store w (values_at high wide + j) (real norm) in
      either_way (λ (y : List Float). length y ≡ length w) (lt clamp norm) _ _ (length_scaled_to (j * high) (j * high) high (div binary64 one_f norm) valued ∙ long) (length_zeroed (j * high) high valued ∙ long)

  -- outside column j the list is the one with the value written
  outside : (k : ℕ) → ((r : ℕ) → r < high → k ≢ j * high + r) → at (normalised high wide clamp j w) k ≡ at valued k
  unfolding normalised
  outside k apart =
      either_way (λ (y : List Float). at y k ≡ at valued k) (lt clamp norm) _ _ (at_scaled_to_other (j * high) (j * high) high (div binary64 one_f norm) valued k apart) (at_zeroed_other (j * high) high valued k apart)

  -- any number but column j's and value j
  pub at_normalised_other : (k : ℕ) → k ≢ values_at high wide + j → ((r : ℕ) → r < high → k ≢ j * high + r) → at (normalised high wide clamp j w) k ≡ at w k
  at_normalised_other k a apart = outside k apart ∙ at_store_other w (values_at high wide + j) k (real norm) a

  module _ (hj : j < wide) where
    pub at_normalised_value : values_at high wide + j < count w → at (normalised high wide clamp j w) (values_at high wide + j) ≡ real (l2_norm w (j * high) high)
    at_normalised_value room =
        outside (values_at high wide + j) (λ r h e. let z = cell_below high wide j r h hj in omega arith) ∙ at_store_same w (values_at high wide + j) (real norm) room

    pub at_normalised_column : (r : ℕ) → r < high → wide * high ≤ count w
        → at (normalised high wide clamp j w) (j * high + r) ≡ cond (lt clamp (l2_norm w (j * high) high)) (scale_c (at w (j * high + r)) (div binary64 one_f (l2_norm w (j * high) high))) zero_c
    unfolding normalised
    at_normalised_column r h room = either (lt clamp norm)
      where
        long : length valued ≡ length w
        long = length_store w (values_at high wide + j) (real norm)

        fits : j * high + high ≤ count valued
        fits = omega (arith, long, mul-le-mul_right high hj)

        old : at valued (j * high + r) ≡ at w (j * high + r)
        old = at_store_other w (values_at high wide + j) (j * high + r) (real norm) (let z = cell_below high wide j r h hj in omega arith)

        either : (b : Bool) → at (choice b) (j * high + r) ≡ cond b (scale_c (at w (j * high + r)) (div binary64 one_f norm)) zero_c
        either true = at_scaled_to (j * high) (j * high) high (div binary64 one_f norm) valued r h (omega arith) fits ∙ ap (λ x. scale_c x (div binary64 one_f norm)) old
        either false = at_zeroed (j * high) high valued r h fits

-- ---- the whole

module _ (high wide : ℕ) (clamp : Float) (a : List Float) (len : length a ≡ 2 * (wide * high)) where
  pub length_swept_of : length (swept_of high wide a) ≡ 2 * (values_at high wide + wide)
  unfolding swept_of unswept_of identity_at
  length_swept_of =
      length_sweeps high wide 100 _
      ∙ each_length wide _ (a ++ replicate (2 * (wide * wide + wide)) zero_f) (λ i ys h. length_store ys (wide * high + (i * wide + i)) (real one_f))
      ∙ length-append a (replicate (2 * (wide * wide + wide)) zero_f)
      ∙ omega (arith, length-replicate (2 * (wide * wide + wide)) zero_f)

  swept : List Float
  swept = swept_of high wide a

  before : ℕ → List Float
  before j = each j (normalised high wide clamp) swept

  long : (j : ℕ) → length (before j) ≡ 2 * (values_at high wide + wide)
  unfolding before swept
  long j = each_length j (normalised high wide clamp) swept (λ i ys h. length_normalised high wide clamp i ys) ∙ length_swept_of

  -- column j is as the sweeps left it until step j
  column_before : (j r : ℕ) → j < wide → r < high → at (before j) (j * high + r) ≡ at swept (j * high + r)
  unfolding before
  column_before j r hj hr =
      each_apart j (normalised high wide clamp) swept (j * high + r) (λ i ys h.
      at_normalised_other high wide clamp i ys (j * high + r) (let z = cell_below high wide j r hr hj in omega arith)
      (λ q hq e. let z = cell_column high j r i q hr hq e in omega arith))

  norm_before : (j : ℕ) → j < wide → l2_norm (before j) (j * high) high ≡ l2_norm swept (j * high) high
  norm_before j hj = l2_norm_same (before j) swept (j * high) high (λ r hr. column_before j r hj hr)

  pub factored_value : (j : ℕ) → j < wide → at (factored high wide clamp a) (values_at high wide + j) ≡ real (l2_norm (swept_of high wide a) (j * high) high)
  unfolding factored swept_of unswept_of before swept
  factored_value j hj =
      each_once (λ ys. at ys (values_at high wide + j)) (normalised high wide clamp) swept j wide hj
      (λ i x y. at_normalised_other high wide clamp i (before i) (values_at high wide + j) (omega arith) (λ r hr e. let z = cell_below high wide i r hr y in omega arith))
      ∙ at_normalised_value high wide clamp j (before j) hj (let l = long j in omega arith)
      ∙ ap real (norm_before j hj)

  pub factored_column : (j r : ℕ) → j < wide → r < high
      → at (factored high wide clamp a) (j * high + r)
      ≡ cond (lt clamp (l2_norm (swept_of high wide a) (j * high) high)) (scale_c (at (swept_of high wide a) (j * high + r)) (div binary64 one_f (l2_norm (swept_of high wide a) (j * high) high))) zero_c
  unfolding factored swept_of unswept_of before swept
  factored_column j r hj hr =
      let e = norm_before j hj in
      let c = column_before j r hj hr in
      each_once (λ ys. at ys (j * high + r)) (normalised high wide clamp) swept j wide hj
      (λ i x y. at_normalised_other high wide clamp i (before i) (j * high + r) (let z = cell_below high wide j r hr hj in omega arith) (λ q hq d. let z = cell_column high j r i q hr hq d in omega arith))
      ∙ at_normalised_column high wide clamp j (before j) hj r hr (let l = long j in omega arith)
      ∙ rw (e, c)

  pub factored_turn : (k : ℕ) → k < wide * wide → at (factored high wide clamp a) (wide * high + k) ≡ at (swept_of high wide a) (wide * high + k)
  unfolding factored swept_of unswept_of swept
  factored_turn k h =
      each_apart wide (normalised high wide clamp) swept (wide * high + k) (λ i ys l.
      at_normalised_other high wide clamp i ys (wide * high + k) (omega arith) (λ r hr e. let z = cell_below high wide i r hr l in omega arith))

  pub raw_value_norm : (adjoint : Bool) (j : ℕ) → j < wide → raw_value (ordered adjoint high wide (factored high wide clamp a)) j ≡ l2_norm (swept_of high wide a) (j * high) high
  raw_value_norm adjoint j hj = ap (λ z. z.re) (factored_value j hj)

settled : (high wide : ℕ) (a : List Float) → Settled high wide (swept_of high wide a) ⊎ Exhausted high wide 100 (unswept_of high wide a)
unfolding swept_of
settled high wide a =
    ⊎_elim
    (λ (c : Converged high wide 100 (unswept_of high wide a)). inl (sweeps_settled high wide 100 (unswept_of high wide a) c))
    (λ (h : Exhausted high wide 100 (unswept_of high wide a)). inr h)
    (sweeps_end high wide 100 (unswept_of high wide a))

pub value_law : ValueLaw
unfolding ValueLaw
value_law high wide clamp a len = record { settled = settled high wide a; value = factored_value high wide clamp a len; column = factored_column high wide clamp a len; turns = factored_turn high wide clamp a len }

-- ---- the decomposition

module _ (adjoint : Bool) (high wide : ℕ) (clamp : Float) (a : List Float) (len : length a ≡ 2 * (wide * high)) (room : wide ≤ 256) where
  abbrev d : Svd
  d = ordered adjoint high wide (factored high wide clamp a)

  decomposed : any_nan wide (raw_value d) ≡ false → Decomposed high wide clamp a d
  decomposed none = record {
    columns_below = below;
    columns_one = order_one wide (raw_value d) none room;
    norms = norms;
    downward = order_downward wide (raw_value d) none room;
    stable = order_stable wide (raw_value d) none room;
    directions = λ g r hg hr. let n = norms g hg in rw n (factored_column high wide clamp a len (column_at d g) r (below g hg) hr);
    rotations = λ g r hg hr. factored_turn high wide clamp a len (column_at d g * wide + r) (cell_below wide wide (column_at d g) r hr (below g hg));
  }
    where
      below : (g : ℕ) → g < wide → column_at d g < wide
      below = order_below wide (raw_value d) none room

      norms : (g : ℕ) → g < wide → value_at d g ≡ column_norm high wide a (column_at d g)
      norms g hg = raw_value_norm high wide clamp a len adjoint (column_at d g) (below g hg)

pub svd_law : SvdLaw
unfolding SvdLaw
svd_law = decomposed

pub transpose_law : TransposeLaw
unfolding TransposeLaw svd
transpose_law clamp m n straight adjoint = (λ h. let e = lt-ltb m n h in rw e, λ h. let e = le-ltb m n h in rw e)
