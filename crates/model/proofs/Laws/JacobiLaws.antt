-- Laws of Jacobi.antt: what stands at each number after a rotation, lengths, sweeps without a rotation, and how sweeps end. `rotation_law`, `pair_law`, `quiet_law` and
-- `sweep_law` prove the statements of Factorings.antt.
use Rattle.std.specs.Prelude.{◌≡◌, ◌≢◌, ◌⊎◌, Bool, cond, Float}
use Rattle.std.proofs.Math.Path.{refl, sym, ap}
use Rattle.std.proofs.Common.{◌∙◌, inl, inr, true≢false, eq-or-lt_of_le, le_of_suc-le-suc, not-suc-le-zero, zero-add}
use Rattle.std.proofs.Math.Logic.{⊎_elim}
use Rattle.std.proofs.Math.Bool.{true, false}
use mathlib.Core.List.{List}
use Prim.Native.Nat.{ℕ, zero, suc, ◌+◌, ◌-◌, ◌*◌, ◌≤◌, ◌<◌}
use native.Mathlib.Omega.{arith}
use Rattle.std.proofs.Math.ListN.{length}
use Rattle.complex.specs.Loops.{each, between}
use Rattle.complex.specs.Matrix.{cell_below, cell_column}
use Rattle.complex.specs.Numbers.{count, at, store, length_store, at_store_same, at_store_other, each_length, each_apart}
use Rattle.model.specs.declared.Rotation.{Rotation}
use Rattle.model.specs.Jacobi.{gram, skipped, rotation, rotated_p, rotated_q, rotated_pair, rotated, Swept, swept, pair_step, row_of_pairs, sweep, sweeps}
use Rattle.model.specs.Statements.Factorings.{RotationLaw, Turned, PairLaw, swept_times, Converged, Exhausted, Settled, SweepLaw, QuietLaw}
use Rattle.model.proofs.Laws.ColumnLaws.{each_since, each_once, each_fixed}
use Rattle.model.proofs.Laws.Tests.{either_way}

-- ---- two numbers rotated

module _ (t : Rotation) (i j : ℕ) (w : List Float) where
  pub length_rotated_pair : length (rotated_pair t i j w) ≡ length w
  unfolding rotated_pair
  length_rotated_pair = length_store (store w i _) j _ ∙ length_store w i _

  pub at_rotated_pair_first : i ≢ j → i < count w → at (rotated_pair t i j w) i ≡ rotated_p t (at w i) (at w j)
  unfolding rotated_pair
  at_rotated_pair_first apart room = at_store_other (store w i _) j i _ apart ∙ at_store_same w i _ room

  pub at_rotated_pair_second : j < count w → at (rotated_pair t i j w) j ≡ rotated_q t (at w i) (at w j)
  unfolding rotated_pair
  at_rotated_pair_second room = at_store_same (store w i _) j _ (omega (arith, length_store w i (rotated_p t (at w i) (at w j))))

  pub at_rotated_pair_other : (k : ℕ) → k ≢ i → k ≢ j → at (rotated_pair t i j w) k ≡ at w k
  unfolding rotated_pair
  at_rotated_pair_other k a b = at_store_other (store w i _) j k _ b ∙ at_store_other w i k _ a

-- ---- two columns rotated

module _ (t : Rotation) (base m p q : ℕ) (w : List Float) where
  pub length_rotated : length (rotated t base m p q w) ≡ length w
  unfolding rotated
  length_rotated = each_length m _ w (λ r ys h. length_rotated_pair t (base + (p * m + r)) (base + (q * m + r)) ys)

  -- a number outside both columns
  pub at_rotated_other : (k : ℕ) → ((r : ℕ) → r < m → k ≢ base + (p * m + r)) → ((r : ℕ) → r < m → k ≢ base + (q * m + r)) → at (rotated t base m p q w) k ≡ at w k
  unfolding rotated
  at_rotated_other k a b = each_apart m _ w k (λ r ys h. at_rotated_pair_other t (base + (p * m + r)) (base + (q * m + r)) ys k (a r h) (b r h))

  -- the numbers of row r, of a matrix of n columns from base on
  module _ (n r : ℕ) (apart : p ≢ q) (hp : p < n) (hq : q < n) (hr : r < m) (room : base + n * m ≤ count w) where
    step : ℕ → List Float → List Float
    step i = rotated_pair t (base + (p * m + i)) (base + (q * m + i))

    before : List Float
    before = each r step w

    cross : (i : ℕ) → i < m → base + (p * m + r) ≢ base + (q * m + i)
    cross i h e = apart (cell_column m p r q i hr h (omega arith))

    cross' : (i : ℕ) → i < m → base + (q * m + r) ≢ base + (p * m + i)
    cross' i h e = apart (sym (cell_column m q r p i hr h (omega arith)))

    long : length before ≡ length w
    unfolding before step
    long = each_length r step w (λ i ys h. length_rotated_pair t (base + (p * m + i)) (base + (q * m + i)) ys)

    old_p : at before (base + (p * m + r)) ≡ at w (base + (p * m + r))
    unfolding before step
    old_p = each_apart r step w _ (λ i ys h. at_rotated_pair_other t _ _ ys _ (omega arith) (cross i (omega arith)))

    old_q : at before (base + (q * m + r)) ≡ at w (base + (q * m + r))
    unfolding before step
    old_q = each_apart r step w _ (λ i ys h. at_rotated_pair_other t _ _ ys _ (cross' i (omega arith)) (omega arith))

    pub at_rotated_p : at (rotated t base m p q w) (base + (p * m + r)) ≡ rotated_p t (at w (base + (p * m + r))) (at w (base + (q * m + r)))
    unfolding rotated before step
    at_rotated_p =
        each_once (λ ys. at ys (base + (p * m + r))) step w r m hr (λ i a b. at_rotated_pair_other t _ _ (each i step w) _ (omega arith) (cross i b))
        ∙ at_rotated_pair_first t _ _ before (cross r hr) (omega (arith, long, cell_below m n p r hr hp))
        ∙ rw (old_p, old_q)

    pub at_rotated_q : at (rotated t base m p q w) (base + (q * m + r)) ≡ rotated_q t (at w (base + (p * m + r))) (at w (base + (q * m + r)))
    unfolding rotated before step
    at_rotated_q =
        each_once (λ ys. at ys (base + (q * m + r))) step w r m hr (λ i a b. at_rotated_pair_other t _ _ (each i step w) _ (cross' i b) (omega arith))
        ∙ at_rotated_pair_second t _ _ before (omega (arith, long, cell_below m n q r hr hq))
        ∙ rw (old_p, old_q)

-- ---- a pair of columns

pair_step_turned : (high wide p q : ℕ) (x : Swept) → skipped (gram x.w high p q) ≡ false
    → pair_step high wide p q x ≡ (let t = rotation (gram x.w high p q) in swept true (rotated t (wide * high) wide p q (rotated t 0 high p q x.w)))
unfolding pair_step
pair_step_turned high wide p q x h = rw h

module _ (high wide p q : ℕ) (t : Rotation) (w : List Float) (apart : p ≢ q) (hp : p < wide) (hq : q < wide) (room : wide * high + wide * wide ≤ count w) where
  -- the list with the matrix's columns rotated, and with the product's too
  abbrev one : List Float
  one = rotated t 0 high p q w

  abbrev both : List Float
  both = rotated t (wide * high) wide p q one

  rotated_twice : Turned high wide p q t w both
  rotated_twice = record {
    long = length_rotated t (wide * high) wide p q one ∙ length_rotated t 0 high p q w;
    first = λ r hr. below (p * high + r) (cell_below high wide p r hr hp) ∙ (rw (zero-add (p * high + r), zero-add (q * high + r)) at (at_rotated_p t 0 high p q w wide r apart hp hq hr (omega arith)));
    second = λ r hr. below (q * high + r) (cell_below high wide q r hr hq) ∙ (rw (zero-add (p * high + r), zero-add (q * high + r)) at (at_rotated_q t 0 high p q w wide r apart hp hq hr (omega arith)));
    product_first = λ r hr. at_rotated_p t (wide * high) wide p q one wide r apart hp hq hr (omega (arith, length_rotated t 0 high p q w)) ∙ rw (above (p * wide + r), above (q * wide + r));
    product_second = λ r hr. at_rotated_q t (wide * high) wide p q one wide r apart hp hq hr (omega (arith, length_rotated t 0 high p q w)) ∙ rw (above (p * wide + r), above (q * wide + r));
    others = λ k a b. at_rotated_other t (wide * high) wide p q one k (λ r hr. (b r hr).0) (λ r hr. (b r hr).1) ∙ at_rotated_other t 0 high p q w k (λ r hr. let d = (a r hr).0 in omega arith) (λ r hr. let d = (a r hr).1 in omega arith);
  }
    where
      below : (k : ℕ) → k < wide * high → at both k ≡ at one k
      below k h = at_rotated_other t (wide * high) wide p q one k (λ r hr. omega arith) (λ r hr. omega arith)

      above : (k : ℕ) → at one (wide * high + k) ≡ at w (wide * high + k)
      above k = at_rotated_other t 0 high p q w (wide * high + k) (λ r hr. omega (arith, cell_below high wide p r hr hp)) (λ r hr. omega (arith, cell_below high wide q r hr hq))

-- ---- the list keeps its length

module _ (high wide : ℕ) where
  pub length_pair_step : (p q : ℕ) (x : Swept) → length (pair_step high wide p q x).w ≡ length x.w
  unfolding pair_step
  length_pair_step p q x =
      let t = rotation (gram x.w high p q) in
      either_way (λ (y : Swept). length y.w ≡ length x.w) (skipped (gram x.w high p q)) _ _ refl
      (length_rotated t (wide * high) wide p q (rotated t 0 high p q x.w) ∙ length_rotated t 0 high p q x.w)

  pub length_row_of_pairs : (p : ℕ) (x : Swept) → length (row_of_pairs high wide p x).w ≡ length x.w
  unfolding row_of_pairs between each
  length_row_of_pairs p x = each_since (λ y. length y.w) (λ k. pair_step high wide p (p + 1 + k)) x 0 (wide - (p + 1)) (omega arith) (λ i a b. length_pair_step p (p + 1 + i) _)

  pub length_sweep : (w : List Float) → length (sweep high wide w).w ≡ length w
  unfolding sweep each
  length_sweep w = each_since (λ y. length y.w) (row_of_pairs high wide) (swept false w) 0 wide (omega arith) (λ i a b. length_row_of_pairs i _)

  pub length_sweeps : (limit : ℕ) (w : List Float) → length (sweeps high wide limit w) ≡ length w
  unfolding sweeps
  length_sweeps zero w = refl
  length_sweeps (suc k) w = either_way (λ (y : List Float). length y ≡ length w) (sweep high wide w).turned _ _ (length_sweeps k (sweep high wide w).w ∙ length_sweep w) (length_sweep w)

-- ---- a sweep without a rotation

-- loops of steps that change nothing where they leave `turned` false
module _ (f : ℕ → Swept → Swept) (quiet : (k : ℕ) (x : Swept) → (f k x).turned ≡ false → f k x ≡ x) where
  each_quiet : (n : ℕ) (x : Swept) → (each n f x).turned ≡ false → each n f x ≡ x
  unfolding each
  each_quiet zero x h = refl
  each_quiet (suc n) x h = let e = quiet n (each n f x) h in e ∙ each_quiet n x (sym (ap (λ y. y.turned) e) ∙ h)

  each_quiet_step : (n : ℕ) (x : Swept) → (each n f x).turned ≡ false → (k : ℕ) → k < n → (f k x).turned ≡ false
  unfolding each
  each_quiet_step zero x h k l = absurd (not-suc-le-zero l)
  each_quiet_step (suc n) x h k l =
      let e = quiet n (each n f x) h in
      let before : (each n f x).turned ≡ false = sym (ap (λ y. y.turned) e) ∙ h in
      ⊎_elim
      (λ (i : k ≡ n). rw i (sym (ap (λ y. (f n y).turned) (each_quiet n x before)) ∙ h))
      (λ (i : k < n). each_quiet_step n x before k i)
      (eq-or-lt_of_le (le_of_suc-le-suc l))

module _ (high wide : ℕ) where
  pair_step_skipped : (p q : ℕ) (x : Swept) → (pair_step high wide p q x).turned ≡ false → skipped (gram x.w high p q) ≡ true
  unfolding pair_step
  pair_step_skipped p q x = either (skipped (gram x.w high p q)) _
    where
      either : (b : Bool) (y : List Float) → (cond b x (swept true y)).turned ≡ false → b ≡ true
      either true y h = refl
      either false y h = absurd (true≢false h)

  pair_step_settled : (p q : ℕ) (x : Swept) → skipped (gram x.w high p q) ≡ true → pair_step high wide p q x ≡ x
  unfolding pair_step
  pair_step_settled p q x h = rw h

  pair_step_quiet : (p q : ℕ) (x : Swept) → (pair_step high wide p q x).turned ≡ false → pair_step high wide p q x ≡ x
  pair_step_quiet p q x h = pair_step_settled p q x (pair_step_skipped p q x h)

  row_of_pairs_quiet : (p : ℕ) (x : Swept) → (row_of_pairs high wide p x).turned ≡ false → row_of_pairs high wide p x ≡ x
  unfolding row_of_pairs between
  row_of_pairs_quiet p x h = each_quiet (λ k. pair_step high wide p (p + 1 + k)) (λ k. pair_step_quiet p (p + 1 + k)) (wide - (p + 1)) x h

  row_of_pairs_skipped : (p : ℕ) (x : Swept) → (row_of_pairs high wide p x).turned ≡ false → (q : ℕ) → p < q → q < wide → skipped (gram x.w high p q) ≡ true
  unfolding row_of_pairs between
  row_of_pairs_skipped p x h q a b =
      let e : p + 1 + (q - (p + 1)) ≡ q = omega arith in
      let s = each_quiet_step (λ k. pair_step high wide p (p + 1 + k)) (λ k. pair_step_quiet p (p + 1 + k)) (wide - (p + 1)) x h (q - (p + 1)) (omega arith) in
      pair_step_skipped p q x (rw e at s)

  -- it leaves the list as it was, and every pair passed the test
  pub sweep_quiet : (w : List Float) → (sweep high wide w).turned ≡ false → sweep high wide w ≡ swept false w
  unfolding sweep
  sweep_quiet w h = each_quiet (row_of_pairs high wide) row_of_pairs_quiet wide (swept false w) h

  pub sweep_settled : (w : List Float) → (sweep high wide w).turned ≡ false → Settled high wide w
  unfolding sweep
  sweep_settled w h p q a b = row_of_pairs_skipped p (swept false w) (each_quiet_step (row_of_pairs high wide) row_of_pairs_quiet wide (swept false w) h p (omega arith)) q a b

  -- the other way round: where every pair passes the test, a sweep leaves the list as it was
  row_of_pairs_settled : (p : ℕ) (w : List Float) → Settled high wide w → row_of_pairs high wide p (swept false w) ≡ swept false w
  unfolding row_of_pairs between
  row_of_pairs_settled p w h =
      each_fixed (wide - (p + 1)) (λ k. pair_step high wide p (p + 1 + k)) (swept false w) (λ k l. pair_step_settled p (p + 1 + k) (swept false w) (h p (p + 1 + k) (omega arith) (omega arith)))

  pub settled_quiet : (w : List Float) → Settled high wide w → sweep high wide w ≡ swept false w
  unfolding sweep
  settled_quiet w h = each_fixed wide (row_of_pairs high wide) (swept false w) (λ p l. row_of_pairs_settled p w h)

-- ---- sweeps

module _ (high wide : ℕ) where
  abbrev next : List Float → List Float
  next w = (sweep high wide w).w

  -- the first of k + 1 sweeps, then the others
  swept_times_first : (k : ℕ) (w : List Float) → swept_times high wide (suc k) w ≡ swept_times high wide k (next w)
  unfolding swept_times each
  swept_times_first zero w = refl
  swept_times_first (suc k) w = ap next (swept_times_first k w)

  swept_times_quiet : (k : ℕ) (w : List Float) → (sweep high wide w).turned ≡ false → swept_times high wide k w ≡ w
  unfolding swept_times each
  swept_times_quiet zero w h = refl
  swept_times_quiet (suc k) w h = ap next (swept_times_quiet k w h) ∙ ap (λ y. y.w) (sweep_quiet high wide w h)

  sweeps_more : (limit : ℕ) (w : List Float) → (sweep high wide w).turned ≡ true → sweeps high wide (suc limit) w ≡ sweeps high wide limit (next w)
  unfolding sweeps
  sweeps_more limit w h = rw h

  sweeps_last : (limit : ℕ) (w : List Float) → (sweep high wide w).turned ≡ false → sweeps high wide (suc limit) w ≡ w
  unfolding sweeps
  sweeps_last limit w h = rw h (ap (λ y. y.w) (sweep_quiet high wide w h))

  -- where a sweep after k others makes no rotation, the sweeps end with what the k left
  pub sweeps_stop : (limit k : ℕ) (w : List Float) → k < limit → (sweep high wide (swept_times high wide k w)).turned ≡ false → sweeps high wide limit w ≡ swept_times high wide k w
  sweeps_stop zero k w l h = absurd (not-suc-le-zero l)
  sweeps_stop (suc limit) k w l h = either (sweep high wide w).turned refl k l h (sweeps_stop limit)
    where
      either : (b : Bool) → (sweep high wide w).turned ≡ b → (k : ℕ) → k < suc limit → (sweep high wide (swept_times high wide k w)).turned ≡ false
          → ((k : ℕ) (w : List Float) → k < limit → (sweep high wide (swept_times high wide k w)).turned ≡ false → sweeps high wide limit w ≡ swept_times high wide k w)
          → sweeps high wide (suc limit) w ≡ swept_times high wide k w
      either false e k l h more = sweeps_last limit w e ∙ sym (swept_times_quiet k w e)
      either true e zero l h more = absurd (true≢false (sym e ∙ (unfold swept_times each in h)))
      either true e (suc k) l h more =
          let s = swept_times_first k w in
          sweeps_more limit w e ∙ more k (next w) (le_of_suc-le-suc l) (rw s at h) ∙ sym s

  pub sweeps_settled : (limit : ℕ) (w : List Float) → Converged high wide limit w → Settled high wide (sweeps high wide limit w)
  sweeps_settled limit w c = let e = sweeps_stop limit c.0 w c.1 c.2 in rw e (sweep_settled high wide (swept_times high wide c.0 w) c.2)

  pub sweeps_exhausted : (limit : ℕ) (w : List Float) → Exhausted high wide limit w → sweeps high wide limit w ≡ swept_times high wide limit w
  sweeps_exhausted zero w h = unfold sweeps swept_times each in refl
  sweeps_exhausted (suc limit) w h =
      sweeps_more limit w (unfold swept_times each in h 0 (omega arith))
      ∙ sweeps_exhausted limit (next w) (λ k l. ap (λ y. (sweep high wide y).turned) (sym (swept_times_first k w)) ∙ h (suc k) (omega arith))
      ∙ sym (swept_times_first limit w)

  pub sweeps_end : (limit : ℕ) (w : List Float) → Converged high wide limit w ⊎ Exhausted high wide limit w
  sweeps_end zero w = inr (λ k l. absurd (not-suc-le-zero l))
  sweeps_end (suc limit) w =
      ⊎_elim
      (λ (c : Converged high wide limit w). inl (c.0, omega arith, c.2))
      (λ (h : Exhausted high wide limit w). either h (sweep high wide (swept_times high wide limit w)).turned refl)
      (sweeps_end limit w)
    where
      either : Exhausted high wide limit w → (b : Bool) → (sweep high wide (swept_times high wide limit w)).turned ≡ b → Converged high wide (suc limit) w ⊎ Exhausted high wide (suc limit) w
      either h false e = inl (limit, omega arith, e)
      either h true e = inr (λ k l. ⊎_elim (λ (i : k ≡ limit). rw i e) (λ (i : k < limit). h k i) (eq-or-lt_of_le (le_of_suc-le-suc l)))

-- ---- the statements of Factorings.antt

pub rotation_law : RotationLaw
unfolding RotationLaw
rotation_law t base m n p q w apart hp hq room = record {
  long = length_rotated t base m p q w;
  first = λ r hr. at_rotated_p t base m p q w n r apart hp hq hr room;
  second = λ r hr. at_rotated_q t base m p q w n r apart hp hq hr room;
  others = λ k off. at_rotated_other t base m p q w k (λ r hr. (off r hr).0) (λ r hr. (off r hr).1);
}

pub pair_law : PairLaw
unfolding PairLaw
pair_law high wide p q x lt hq room h =
    let e = pair_step_turned high wide p q x h in
    rw e (refl, rotated_twice high wide p q (rotation (gram x.w high p q)) x.w (omega arith) (omega arith) hq room)

pub quiet_law : QuietLaw
unfolding QuietLaw
quiet_law high wide w = (sweep_settled high wide w, settled_quiet high wide w)

pub sweep_law : SweepLaw
unfolding SweepLaw
sweep_law high wide limit w =
    ⊎_elim
    (λ (c : Converged high wide limit w). inl (c, sweeps_settled high wide limit w c))
    (λ (h : Exhausted high wide limit w). inr (h, sweeps_exhausted high wide limit w h))
    (sweeps_end high wide limit w)
