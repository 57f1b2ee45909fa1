-- Laws of the order of Svd.antt, of n values without a NaN: `place n s` counts the columns ahead, which are ordered strictly and totally, so it is a permutation, and
-- `order_of n s` begins with its inverse. `order_law` proves the statement of Factorings.antt.
use Rattle.std.specs.Prelude.{◌≡◌, refl, ◌≢◌, ◌⊎◌, Bool, true, false, cond, ◌&&◌, ◌||◌, ℕ, zero, suc, ◌≤◌, ◌<◌, ◌+◌, T, eqb, ltb, List, set, replicate, Float}
use Rattle.std.proofs.Math.Path.{sym, ap}
use Rattle.std.proofs.Common.{◌∙◌, inl, inr, ⊎_elim, le_refl, eq-or-lt_of_le, le_of_suc-le-suc, not-suc-le-zero, arith, ltb→lt, eqb-true, lt-ltb, le-ltb, add-one}
use Rattle.std.proofs.Math.Bool.{or-false}
use Rattle.std.proofs.Math.Nat.{add-zero}
use Rattle.std.proofs.lemmas.Bool.{eqb-false}
use Rattle.std.proofs.Math.ListN.{length, get_or, length-set, length-replicate}
use Rattle.std.proofs.Math.Seq.{get_or-set_same, get_or-set_other}
use Rattle.std.specs.Float.Ieee.{lt, le, is_nan}
use Rattle.complex.specs.Loops.{each, each_none, each_more, between_none, between_more, each_same}
use Rattle.model.specs.Svd.{tallied, earlier, later, place, order_of, any_nan}
use Rattle.model.specs.Statements.Factorings.{order_at, OrderLaw}
use Rattle.model.proofs.Laws.ColumnLaws.{each_since, each_once}
use Rattle.model.proofs.Laws.FloatOrder.{le_transitive, le_reflexive, lt_le, le_total, le_lt_false, le_lt_trans, lt_le_trans}
use Rattle.model.proofs.Laws.Tests.{any_nan_none, trichotomy}

abbrev pub count_of : ℕ → (ℕ → Bool) → ℕ
count_of n p = each n (λ k. tallied (p k)) 0

-- ---- a test that implies another has no greater count, and a smaller one if some number passes only the other

tallied_le : (a b : Bool) (c d : ℕ) → (T a → T b) → c ≤ d → tallied a c ≤ tallied b d
tallied_le false false c d i h = h
tallied_le false true c d i h = omega arith
tallied_le true false c d i h = absurd (i tt)
tallied_le true true c d i h = omega arith

pub count_le : (n : ℕ) (p q : ℕ → Bool) → ((k : ℕ) → k < n → T (p k) → T (q k)) → count_of n p ≤ count_of n q
unfolding each
count_le zero p q i = le_refl 0
count_le (suc n) p q i = tallied_le (p n) (q n) (count_of n p) (count_of n q) (i n (le_refl (suc n))) (count_le n p q (λ k h. i k (omega arith)))

tallied_once : (a b : Bool) (c d : ℕ) → T b → (T a → ⊥) → c ≤ d → tallied a c < tallied b d
tallied_once a false c d h k l = absurd h
tallied_once true true c d h k l = absurd (k tt)
tallied_once false true c d h k l = omega arith

tallied_lt : (a b : Bool) (c d : ℕ) → (T a → T b) → c < d → tallied a c < tallied b d
tallied_lt false false c d i h = h
tallied_lt false true c d i h = omega arith
tallied_lt true false c d i h = absurd (i tt)
tallied_lt true true c d i h = omega arith

pub count_lt : (n : ℕ) (p q : ℕ → Bool) → ((k : ℕ) → k < n → T (p k) → T (q k)) → (j : ℕ) → j < n → T (q j) → (T (p j) → ⊥) → count_of n p < count_of n q
unfolding each
count_lt zero p q i j l a b = absurd (not-suc-le-zero l)
count_lt (suc n) p q i j l a b =
    ⊎_elim
    (λ (e : j ≡ n). tallied_once (p n) (q n) (count_of n p) (count_of n q) (rw e at a) (rw e at b) (count_le n p q (λ k h. i k (omega arith))))
    (λ (h : j < n). tallied_lt (p n) (q n) (count_of n p) (count_of n q) (i n (le_refl (suc n))) (count_lt n p q (λ k m. i k (omega arith)) j h a b))
    (eq-or-lt_of_le (le_of_suc-le-suc l))

pub count_all : (n : ℕ) → count_of n (λ k. true) ≡ n
unfolding each
count_all zero = refl
count_all (suc n) = omega (arith, count_all n)

-- ---- a one to one map of the numbers below n into themselves

abbrev pub Into : ℕ → (ℕ → ℕ) → Type 0
Into n f = (j : ℕ) → j < n → f j < n

abbrev pub OneToOne : ℕ → (ℕ → ℕ) → Type 0
OneToOne n f = (j k : ℕ) → j < n → k < n → f j ≡ f k → j ≡ k

-- f on the numbers below n, where f n stands for n
module _ (n : ℕ) (f : ℕ → ℕ) (into : Into (suc n) f) (one : OneToOne (suc n) f) where
  abbrev shrunk : ℕ → ℕ
  shrunk j = cond (eqb (f j) n) (f n) (f j)

  -- f j is n, and shrunk j is f n; or f j is not n, and shrunk j is f j
  shrunk_of : (j : ℕ) → ((f j ≡ n) × (shrunk j ≡ f n)) ⊎ ((f j ≢ n) × (shrunk j ≡ f j))
  shrunk_of j = either (eqb (f j) n) refl
    where
      either : (b : Bool) → eqb (f j) n ≡ b → ((f j ≡ n) × (shrunk j ≡ f n)) ⊎ ((f j ≢ n) × (shrunk j ≡ f j))
      either true e = inl (eqb-true (f j) n e, rw e)
      either false e = inr (eqb-false (f j) n e, rw e)

  not_last : (j : ℕ) → j < n → f j ≢ f n
  not_last j h e = let i = one j n (omega arith) (omega arith) e in omega arith

  shrunk_within : Into n shrunk
  shrunk_within j h =
      ⊎_elim
      (λ (c : (f j ≡ n) × (shrunk j ≡ f n)). let a = into n (omega arith) in let b = not_last j h in omega (arith, c.0, c.1))
      (λ (c : (f j ≢ n) × (shrunk j ≡ f j)). let a = into j (omega arith) in omega (arith, c.0, c.1))
      (shrunk_of j)

  shrunk_one : OneToOne n shrunk
  shrunk_one j k hj hk e = both (shrunk_of j) (shrunk_of k)
    where
      both : ((f j ≡ n) × (shrunk j ≡ f n)) ⊎ ((f j ≢ n) × (shrunk j ≡ f j)) → ((f k ≡ n) × (shrunk k ≡ f n)) ⊎ ((f k ≢ n) × (shrunk k ≡ f k)) → j ≡ k
      both (inl a) (inl b) = one j k (omega arith) (omega arith) (a.0 ∙ sym b.0)
      both (inl a) (inr b) = absurd (not_last k hk (sym b.1 ∙ sym e ∙ a.1))
      both (inr a) (inl b) = absurd (not_last j hj (sym a.1 ∙ e ∙ b.1))
      both (inr a) (inr b) = one j k (omega arith) (omega arith) (sym a.1 ∙ e ∙ b.1)

  -- if shrunk reaches every number below n, f reaches every number below n + 1
  from_shrunk : ((g : ℕ) → g < n → (j : ℕ) × (j < n) × (shrunk j ≡ g)) → (g : ℕ) → g < suc n → (j : ℕ) × (j < suc n) × (f j ≡ g)
  from_shrunk reach g h = last (eqb (f n) g) refl
    where
      -- g is below n and f does not take n to it
      inner : f n ≢ g → g < n → (j : ℕ) × (j < suc n) × (f j ≡ g)
      inner d l =
          let r = reach g l in
          ⊎_elim
          (λ (c : (f r.0 ≡ n) × (shrunk r.0 ≡ f n)). absurd (d (sym c.1 ∙ r.2)))
          (λ (c : (f r.0 ≢ n) × (shrunk r.0 ≡ f r.0)). (r.0, omega (arith, r.1), sym c.1 ∙ r.2))
          (shrunk_of r.0)

      -- g is n and f does not take n to it: the number that shrunk takes to f n
      outer : f n ≢ g → g ≡ n → (j : ℕ) × (j < suc n) × (f j ≡ g)
      outer d e =
          let a = into n (omega arith) in
          let r = reach (f n) (omega arith) in
          ⊎_elim
          (λ (c : (f r.0 ≡ n) × (shrunk r.0 ≡ f n)). (r.0, omega (arith, r.1), c.0 ∙ sym e))
          (λ (c : (f r.0 ≢ n) × (shrunk r.0 ≡ f r.0)). absurd (not_last r.0 r.1 (sym c.1 ∙ r.2)))
          (shrunk_of r.0)

      last : (b : Bool) → eqb (f n) g ≡ b → (j : ℕ) × (j < suc n) × (f j ≡ g)
      last true e = (n, le_refl (suc n), eqb-true (f n) g e)
      last false e = ⊎_elim (λ (i : g ≡ n). outer (eqb-false (f n) g e) i) (λ (i : g < n). inner (eqb-false (f n) g e) i) (eq-or-lt_of_le (le_of_suc-le-suc h))

pub pigeonhole : (n : ℕ) (f : ℕ → ℕ) → Into n f → OneToOne n f → (g : ℕ) → g < n → (j : ℕ) × (j < n) × (f j ≡ g)
pigeonhole zero f into one g h = absurd (not-suc-le-zero h)
pigeonhole (suc n) f into one g h = from_shrunk n f into one (pigeonhole n (shrunk n f into one) (shrunk_within n f into one) (shrunk_one n f into one)) g h

-- ---- column k comes before column j: it is of lower index and its value is no less, or it is of higher index and its value is greater

abbrev pub ahead : (ℕ → Float) → ℕ → ℕ → Bool
ahead s k j = ltb k j && le (s j) (s k) || ltb j k && lt (s j) (s k)

module _ (s : ℕ → Float) where
  ahead_lower : (k j : ℕ) → k < j → ahead s k j ≡ le (s j) (s k)
  ahead_lower k j h = rw (lt-ltb k j h, le-ltb j k (omega arith)) (or-false (le (s j) (s k)))

  ahead_higher : (k j : ℕ) → j < k → ahead s k j ≡ lt (s j) (s k)
  ahead_higher k j h = rw (le-ltb k j (omega arith), lt-ltb j k h)

  ahead_self : (j : ℕ) → ahead s j j ≡ false
  ahead_self j = rw (le-ltb j j (le_refl j))

  -- the place is the count of those ahead
  earlier_count : (j : ℕ) → earlier s j ≡ count_of j (λ k. ahead s k j)
  unfolding earlier
  earlier_count j = each_same j (λ k. tallied (le (s j) (s k))) (λ k. tallied (ahead s k j)) 0 (λ k h. ap (λ b. tallied b (count_of k (λ i. ahead s i j))) (sym (ahead_lower k j h)))

  place_last : (j : ℕ) → place (j + 1) s j ≡ count_of (j + 1) (λ k. ahead s k j)
  unfolding later
  place_last j =
      ap (λ c. earlier s j + c) (between_none (j + 1) (λ k. tallied (lt (s j) (s k))) 0) ∙ add-zero (earlier s j) ∙ earlier_count j
      ∙ sym (each_more j (λ k. tallied (ahead s k j)) 0 ∙ ap (λ b. tallied b (count_of j (λ k. ahead s k j))) (ahead_self j))

  tallied_add : (b : Bool) (a c : ℕ) → a + tallied b c ≡ tallied b (a + c)
  tallied_add true a c = omega arith
  tallied_add false a c = refl

  place_more : (n j : ℕ) → j < n → place (n + 1) s j ≡ tallied (ahead s n j) (place n s j)
  unfolding later
  place_more n j h =
      ap (λ c. earlier s j + c) (between_more (j + 1) n (λ k. tallied (lt (s j) (s k))) 0 (omega arith))
      ∙ tallied_add (lt (s j) (s n)) (earlier s j) (later n s j)
      ∙ ap (λ b. tallied b (place n s j)) (sym (ahead_higher n j h))

  place_count : (n j : ℕ) → j < n → place n s j ≡ count_of n (λ k. ahead s k j)
  place_count zero j h = absurd (not-suc-le-zero h)
  place_count (suc n) j h =
      rw (← add-one n)
      (⊎_elim
      (λ (e : j ≡ n). rw (← e) (place_last j))
      (λ (l : j < n). place_more n j l ∙ ap (tallied (ahead s n j)) (place_count n j l) ∙ sym (each_more n (λ k. tallied (ahead s k j)) 0))
      (eq-or-lt_of_le (le_of_suc-le-suc h)))

-- a place is below the number of columns
pub place_below : (n : ℕ) (s : ℕ → Float) → Into n (place n s)
place_below n s j h =
    let a = place_count s n j h in
    let b = count_all n in
    let e = ahead_self s j in
    let c = count_lt n (λ k. ahead s k j) (λ k. true) (λ k l t. tt) j h tt (λ t. let f : T false = rw e at t in f) in
    omega arith

-- ---- `ahead` is a strict total order of the columns

module _ (n : ℕ) (s : ℕ → Float) (none : any_nan n s ≡ false) where
  real : (k : ℕ) → k < n → is_nan (s k) ≡ false
  real = any_nan_none n s none

  -- its two parts: the value is no less; and the index is lower or the value greater
  ahead_le : (k j : ℕ) → T (ahead s k j) → T (le (s j) (s k))
  ahead_le k j t = either (ltb k j) (le (s j) (s k)) (ltb j k) (lt (s j) (s k)) (lt_le (s j) (s k)) t
    where
      either : (a b c d : Bool) → (T d → T b) → T (a && b || c && d) → T b
      either a true c d i t = tt
      either true false true true i t = i tt
      either true false true false i t = t
      either true false false d i t = t
      either false false true d i t = i t
      either false false false d i t = t

  ahead_or : (k j : ℕ) → T (ahead s k j) → (k < j) ⊎ T (lt (s j) (s k))
  ahead_or k j t = either (ltb k j) (le (s j) (s k)) (ltb j k) (lt (s j) (s k)) (ltb→lt k j) t
    where
      either : (a b c d : Bool) → (T a → k < j) → T (a && b || c && d) → (k < j) ⊎ T d
      either true b c d i t = inl (i tt)
      either false b true d i t = inr t
      either false b false d i t = absurd t

  ahead_by_index : (k j : ℕ) → k < j → T (le (s j) (s k)) → T (ahead s k j)
  ahead_by_index k j h l = let e = ahead_lower s k j h in rw e l

  ahead_by_value : (k j : ℕ) → k < n → j < n → T (lt (s j) (s k)) → T (ahead s k j)
  ahead_by_value k j hk hj l =
      ⊎_elim
      (λ (h : k < j). ahead_by_index k j h (lt_le (s j) (s k) l))
      (⊎_elim
      (λ (h : k ≡ j). absurd (le_lt_false (s j) (s j) (real j hj) (real j hj) (le_reflexive (s j) (real j hj)) (rw h at l)))
      (λ (h : j < k). let e = ahead_higher s k j h in rw e l))
      (trichotomy k j)

  ahead_trans : (i k j : ℕ) → i < n → k < n → j < n → T (ahead s i k) → T (ahead s k j) → T (ahead s i j)
  ahead_trans i k j hi hk hj a b =
      ⊎_elim
      (λ (p : i < k).
      ⊎_elim
      (λ (q : k < j). ahead_by_index i j (omega arith) (le_transitive (s j) (s k) (s i) (ahead_le k j b) (ahead_le i k a)))
      (λ (q : T (lt (s j) (s k))). ahead_by_value i j hi hj (lt_le_trans (s j) (s k) (s i) (real j hj) (real k hk) (real i hi) q (ahead_le i k a)))
      (ahead_or k j b))
      (λ (p : T (lt (s k) (s i))). ahead_by_value i j hi hj (le_lt_trans (s j) (s k) (s i) (real j hj) (real k hk) (real i hi) (ahead_le k j b) p))
      (ahead_or i k a)

  ahead_total : (k j : ℕ) → k < n → j < n → k < j → T (ahead s k j) ⊎ T (ahead s j k)
  ahead_total k j hk hj h =
      ⊎_elim
      (λ (l : T (le (s j) (s k))). inl (ahead_by_index k j h l))
      (λ (l : T (lt (s k) (s j))). inr (ahead_by_value j k hj hk l))
      (le_total (s j) (s k) (real j hj) (real k hk))

  -- what is ahead has the lower place, and places in order are of columns in order
  place_ahead : (k j : ℕ) → k < n → j < n → T (ahead s k j) → place n s k < place n s j
  place_ahead k j hk hj a =
      let p = place_count s n k hk in
      let q = place_count s n j hj in
      let e = ahead_self s k in
      let c = count_lt n (λ i. ahead s i k) (λ i. ahead s i j) (λ i l t. ahead_trans i k j l hk hj t a) k hk a (λ t. let f : T false = rw e at t in f) in
      omega arith

  ahead_place : (k j : ℕ) → k < n → j < n → place n s k < place n s j → T (ahead s k j)
  ahead_place k j hk hj l =
      ⊎_elim
      (λ (h : k < j). ⊎_elim (λ (a : T (ahead s k j)). a) (λ (a : T (ahead s j k)). let z = place_ahead j k hj hk a in absurd (omega arith)) (ahead_total k j hk hj h))
      (⊎_elim
      (λ (h : k ≡ j). let z = ap (place n s) h in absurd (omega arith))
      (λ (h : j < k). ⊎_elim (λ (a : T (ahead s j k)). let z = place_ahead j k hj hk a in absurd (omega arith)) (λ (a : T (ahead s k j)). a) (ahead_total j k hj hk h)))
      (trichotomy k j)

  -- no two columns have one place
  pub place_one : OneToOne n (place n s)
  place_one j k hj hk e =
      ⊎_elim
      (λ (h : j < k). absurd (apart j k hj hk e (ahead_total j k hj hk h)))
      (⊎_elim (λ (h : j ≡ k). h) (λ (h : k < j). absurd (apart k j hk hj (sym e) (ahead_total k j hk hj h))))
      (trichotomy j k)
    where
      apart : (j k : ℕ) → j < n → k < n → place n s j ≡ place n s k → T (ahead s j k) ⊎ T (ahead s k j) → ⊥
      apart j k hj hk e (inl a) = let z = place_ahead j k hj hk a in omega arith
      apart j k hj hk e (inr a) = let z = place_ahead k j hk hj a in omega arith

  -- ---- the list of the columns in that order

  module _ (room : n ≤ 256) where
    step : ℕ → List ℕ → List ℕ
    step j o = set o (place n s j) j

    long : (k : ℕ) → length (each k step (replicate 256 0)) ≡ 256
    unfolding step
    long k = each_since length step (replicate 256 0) 0 k (omega arith) (λ i a b. length-set (each i step (replicate 256 0)) (place n s i) i) ∙ ap length (each_none step (replicate 256 0)) ∙ length-replicate {A = ℕ} 256 0

    pub order_of_place : (j : ℕ) → j < n → order_at n s (place n s j) ≡ j
    unfolding order_of step
    order_of_place j h =
        each_once (λ o. get_or o (place n s j) 0) step (replicate 256 0) j n h
        (λ i a b. get_or-set_other (each i step (replicate 256 0)) (place n s i) (place n s j) i 0 (λ e. let z = place_one j i h b e in omega arith))
        ∙ get_or-set_same (each j step (replicate 256 0)) (place n s j) j 0 (let a = long j in let b = place_below n s j h in omega arith)

    -- each place g has its column
    held : (g : ℕ) → g < n → (j : ℕ) × (j < n) × (place n s j ≡ g)
    held = pigeonhole n (place n s) (place_below n s) place_one

    order_is : (g : ℕ) (l : g < n) → order_at n s g ≡ (held g l).0
    order_is g l = let h = held g l in let e = sym h.2 in ap (order_at n s) e ∙ order_of_place h.0 h.1

    pub order_below : Into n (order_at n s)
    order_below g l = let e = order_is g l in let b = (held g l).1 in omega arith

    pub place_of_order : (g : ℕ) → g < n → place n s (order_at n s g) ≡ g
    place_of_order g l = ap (place n s) (order_is g l) ∙ (held g l).2

    pub order_one : OneToOne n (order_at n s)
    order_one g h lg lh e = sym (place_of_order g lg) ∙ ap (place n s) e ∙ place_of_order h lh

    module _ (g h : ℕ) (lo : g < h) (hi : h < n) where
      in_order : T (ahead s (order_at n s g) (order_at n s h))
      in_order =
          let lg : g < n = omega arith in
          let a = place_of_order g lg in
          let b = place_of_order h hi in
          ahead_place (order_at n s g) (order_at n s h) (order_below g lg) (order_below h hi) (omega arith)

      -- downward
      pub order_downward : T (le (s (order_at n s h)) (s (order_at n s g)))
      order_downward = ahead_le (order_at n s g) (order_at n s h) in_order

      -- and equal values by lower column first
      pub order_stable : T (le (s (order_at n s g)) (s (order_at n s h))) → order_at n s g < order_at n s h
      order_stable equal =
          let lg : g < n = omega arith in
          ⊎_elim
          (λ (l : order_at n s g < order_at n s h). l)
          (λ (l : T (lt (s (order_at n s h)) (s (order_at n s g)))). absurd (le_lt_false (s (order_at n s g)) (s (order_at n s h)) (real (order_at n s g) (order_below g lg)) (real (order_at n s h) (order_below h hi)) equal l))
          (ahead_or (order_at n s g) (order_at n s h) in_order)

-- ---- the statement of Factorings.antt

pub order_law : OrderLaw
unfolding OrderLaw
order_law n s none room = record {
  place_below = place_below n s;
  place_one = place_one n s none;
  order_below = order_below n s none room;
  order_one = order_one n s none room;
  order_of_place = order_of_place n s none room;
  place_of_order = place_of_order n s none room;
  downward = order_downward n s none room;
  stable = order_stable n s none room;
}
