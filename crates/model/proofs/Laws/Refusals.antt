-- Each call answers the number that its table gives.
use Rattle.std.specs.Prelude.{ℕ, zero, suc, ◌<◌, ◌≡◌, ◌≢◌, ◌⊎◌, Bool, true, false, not, ◌&&◌, ◌||◌, cond, T, leb, ltb, eqb, length, Float, Ok, Err}
use Rattle.std.proofs.Common.{arith, sym, ◌∙◌, subst, inl, inr, leb-false, ne_eqb}
use Rattle.std.proofs.Math.Path.{refl}
use Rattle.std.proofs.lemmas.Bool.{false≢true, eqb-false, not-false}
use mathlib.Core.List.{List, [], ◌∷◌, ◌++◌}
use Rattle.std.specs.Float.{nan, inf, fin, binary64}
use Rattle.std.specs.Float.Ieee.{div, le, lt}
use Rattle.std.specs.Float.Ieee.Fits.{and_l, and_r}
use Rattle.std.specs.Float.Ieee.Scale.{finite}
use Rattle.complex.specs.Complex.{zero_f, one_f}
use Rattle.complex.specs.declared.Complex.{Complex}
use Rattle.gates.specs.Gate.{entry}
use Rattle.gates.specs.Finite.{finite_c, all_finite}
use Rattle.model.specs.declared.Chain.{Chain}
use Rattle.model.specs.declared.Reason.{Reason}
use Rattle.model.specs.declared.Projected.{Projected}
use Rattle.model.specs.declared.Projected.TheVariants as projected
use Rattle.model.specs.Chain.{site_of}
use Rattle.model.specs.Slots.{State, store_room}
use Rattle.model.specs.Sound.{sound, share01, settings_fit}
use Rattle.model.specs.Answers.{Answer, Measured, view_answer, view_applied, view_projected, view_measured, view_contracted}
use Rattle.model.specs.Born.{weight_at, total_at, readied}
use Rattle.model.specs.Environment.{Env, left_env, right_env}
use Rattle.model.specs.Start.{fresh_chain, fresh_store, zero_chain}
use Rattle.model.specs.Calls.{After, applied_of, first_among, first_of, short, outside, cleared, started, start_call, gate_refusal, project_refusal, project_answer, project_run, project_call, measure_refusal, measure_run, measure_call, reset_refusal, reset_run, reset_call, Walked, env_refusal, env_run, env_after, left_environment_call, right_environment_call}
use Rattle.model.specs.Statements.Demand1.{Early, Late}
use Rattle.model.specs.Statements.Pinned.{late}
use Rattle.model.specs.Statements.Table.{Row, ◌when◌, FirstGround, OutOfRange, ShortStore, ShortSlice, Unsound, NoQubit, NotFinite, NoGate, NoDraw, start_table, project_table, measure_table, reset_table, environment_table}
use Rattle.model.specs.Statements.Soundness.{Sound}
use Rattle.model.proofs.Laws.SoundFacts.{settings_facts, facts_settings, sound_facts, facts_sound}
use Rattle.model.proofs.Laws.Tests.{not_and, Decides, by_test, decides_as, decides_below, decides_both, decides_either, decides_equal, decides_least, decides_not, decides_self, decides_some, neither}

-- ---- the first of the rows

-- a table gives one number
pub first_unique : (rs : List Row) (k m : ℕ) → FirstGround rs k → FirstGround rs m → k ≡ m
first_unique [] k m a b = a ∙ sym b
first_unique (r ∷ rs) k m (inl a) (inl b) = a.1 ∙ sym b.1
first_unique (r ∷ rs) k m (inl a) (inr b) = absurd (b.0 a.0)
first_unique (r ∷ rs) k m (inr a) (inl b) = absurd (a.0 b.0)
first_unique (r ∷ rs) k m (inr a) (inr b) = first_unique rs k m a.1 b.1

-- rows whose grounds are tested in turn, and the number of the first test that holds
pub data Tested : List Row → ℕ → Type 1 where
  untested : Tested [] 0
  test : {b : Bool} {P : Type 0} {rs : List Row} {n : ℕ} (k : ℕ) → Decides b P → Tested rs n → Tested (k when P ∷ rs) (cond b k n)

tested_first : {rs : List Row} {n : ℕ} → Tested rs n → FirstGround rs n
tested_first untested = refl
tested_first (test {b = true} k d x) = inl (d.holds tt, refl)
tested_first (test {b = false} k d x) = inr (d.fails, tested_first x)

-- no row has the number n
abbrev pub without : ℕ → List Row → Bool
without n [] = true
without n (r ∷ rs) = not (eqb r.number n) && without n rs

-- rows after rows, which count where none of those before holds; m is what they give
pub first_then : (rs ts : List Row) (k m : ℕ) → T (without 0 rs) → FirstGround rs k → (k ≡ 0 → FirstGround ts m) → FirstGround (rs ++ ts) (cond (eqb k 0) m k)
first_then [] ts k m w e rest = rw e (rest e)
first_then (r ∷ rs) ts k m w (inl a) rest =
    let some : k ≢ 0 = λ z. subst (λ (i : ℕ). T (not (eqb i 0))) (sym a.1 ∙ z) (and_l (not (eqb r.number 0)) (without 0 rs) w) in
    inl (a.0, rw (ne_eqb k 0 some) a.1)
first_then (r ∷ rs) ts k m w (inr a) rest = inr (a.0, first_then rs ts k m (and_r (not (eqb r.number 0)) (without 0 rs) w) a.1 rest)

-- the number of what a call leaves, the run being taken where its refusal is 0
number_picked : {A : Type 0} (f : A → ℕ) (k m : ℕ) (x y : A) → f x ≡ m → f y ≡ k → f (cond (eqb k 0) x y) ≡ cond (eqb k 0) m k
number_picked f k m x y p q = pick (eqb k 0)
  where
    pick : (b : Bool) → f (cond b x y) ≡ cond b m k
    pick true = p
    pick false = q

-- a call that its first rows refuse, or else its run answers: m is what the run does, by the rows after
pub table_answered : {A : Type 0} (f : A → ℕ) (rs ts : List Row) (k m : ℕ) (x y : A) → f x ≡ m → f y ≡ k → T (without 0 rs) → Tested rs k → (k ≡ 0 → FirstGround ts m)
    → FirstGround (rs ++ ts) (f (cond (eqb k 0) x y))
table_answered f rs ts k m x y p q w g rest = subst (FirstGround (rs ++ ts)) (sym (number_picked f k m x y p q)) (first_then rs ts k m w (tested_first g) rest)

pub applied_number : (reason : Reason) (k : ℕ) → (view_applied (applied_of reason k)).number ≡ k
applied_number reason zero = refl
applied_number reason (suc k) = refl

-- ---- the grounds that a call tests before it runs

decides_finite : (x : Float) → Decides (not (finite x)) (NotFinite x)
decides_finite nan = record { holds = λ t. tt; fails = λ t. tt }
decides_finite (inf s) = record { holds = λ t. tt; fails = λ t. tt }
decides_finite (fin s m k) = record { holds = λ t. t; fails = λ t. t }

decides_number : (z : Complex) → Decides (not (finite_c z)) (NotFinite z.re ⊎ NotFinite z.im)
unfolding finite_c
decides_number z = rw (not_and (finite z.re) (finite z.im)) (decides_either (decides_finite z.re) (decides_finite z.im))

pub decides_gate : (gate : List (List Complex)) → Decides (not (all_finite gate)) (NoGate gate)
unfolding all_finite
decides_gate gate = decides_some 4 _ _ (λ r. decides_some 4 _ _ (λ c. decides_number (entry gate r c)))

pub decides_draw : (draw : Float) → Decides (not (share01 draw)) (NoDraw draw)
decides_draw draw = decides_not (decides_both (decides_self (le zero_f draw)) (decides_self (lt draw one_f)))

pub decides_short : (c : Chain) (store work : List Float) → Decides (short c store work) (ShortSlice c store work)
decides_short c store work =
    decides_either (decides_as (decides_below (length store) _) (λ l. omega arith) (λ l. omega arith)) (decides_below (length work) _)

pub decides_unsound : (c : Chain) → Decides (not (sound c)) (Unsound c)
decides_unsound c = decides_not {b = sound c} (record { holds = sound_facts c; fails = facts_sound c })

pub passes_sound : (c : Chain) → not (sound c) ≡ false → Sound c
passes_sound c e = sound_facts c (subst T (sym (not-false (sound c) e)) tt)

-- a qubit of the chain
pub not_outside : (c : Chain) (q : ℕ) → outside c q ≡ false → q < c.num_qubits
not_outside c q e = leb-false c.num_qubits q e

-- two qubits of a chain of n sites
pub two_qubits : (n q0 q1 : ℕ) → (leb n q0 || leb n q1 || eqb q0 q1) ≡ false → (q0 < n) × (q1 < n) × (q0 ≢ q1)
two_qubits n q0 q1 e =
    let x = neither (leb n q0 || leb n q1) (eqb q0 q1) e in
    let y = neither (leb n q0) (leb n q1) x.0 in
    (leb-false n q0 y.0, leb-false n q1 y.1, eqb-false q0 q1 x.1)

-- ---- whether a number is one under which something may be written

pub decides_late : (k : ℕ) → Decides (late k) (Late k)
decides_late k = decides_as (decides_either (decides_either (decides_equal k 0) (decides_equal k 6)) (decides_equal k 7)) to back
  where
    to : ((k ≡ 0) ⊎ (k ≡ 6)) ⊎ (k ≡ 7) → Late k
    to (inl (inl e)) = inl e
    to (inl (inr e)) = inr (inl e)
    to (inr e) = inr (inr e)

    back : Late k → ((k ≡ 0) ⊎ (k ≡ 6)) ⊎ (k ≡ 7)
    back (inl e) = inl (inl e)
    back (inr (inl e)) = inl (inr e)
    back (inr (inr e)) = inr e

-- ---- the tests in the order 3, 2, 4, 9, 5

-- the number of a call that does not run: one under which nothing is written
pub first_among_early : (b3 b2 b4 b9 b5 : Bool) → eqb (first_among b3 b2 b4 b9 b5) 0 ≡ false → Early (first_among b3 b2 b4 b9 b5)
first_among_early true b2 b4 b9 b5 e = (decides_late 3).fails
first_among_early false true b4 b9 b5 e = (decides_late 2).fails
first_among_early false false true b9 b5 e = (decides_late 4).fails
first_among_early false false false true b5 e = (decides_late 9).fails
first_among_early false false false false true e = (decides_late 5).fails
first_among_early false false false false false e = absurd (false≢true (sym e))

pub first_of_early : (b3 b2 b4 b5 : Bool) → eqb (first_of b3 b2 b4 b5) 0 ≡ false → Early (first_of b3 b2 b4 b5)
first_of_early b3 b2 b4 b5 = first_among_early b3 b2 b4 false b5

pub gate_early : (s : State) (work : List Float) (q0 q1 : ℕ) (gate : List (List Complex)) → eqb (gate_refusal s work q0 q1 gate) 0 ≡ false → Early (gate_refusal s work q0 q1 gate)
gate_early s work q0 q1 gate =
    first_of_early (not (sound s.chain)) (short s.chain s.store work) (outside s.chain q0 || outside s.chain q1 || eqb q0 q1) (not (all_finite gate))

-- none of the tests holds where no ground refuses
pub record Passes (b3 b2 b4 b9 b5 : Bool) : Type 0 where
  pub three : b3 ≡ false
  pub two : b2 ≡ false
  pub four : b4 ≡ false
  pub nine : b9 ≡ false
  pub five : b5 ≡ false

pub first_among_none : (b3 b2 b4 b9 b5 : Bool) → eqb (first_among b3 b2 b4 b9 b5) 0 ≡ true → Passes b3 b2 b4 b9 b5
first_among_none true b2 b4 b9 b5 e = absurd (false≢true e)
first_among_none false true b4 b9 b5 e = absurd (false≢true e)
first_among_none false false true b9 b5 e = absurd (false≢true e)
first_among_none false false false true b5 e = absurd (false≢true e)
first_among_none false false false false true e = absurd (false≢true e)
first_among_none false false false false false e = record { three = refl; two = refl; four = refl; nine = refl; five = refl }

pub first_of_none : (b3 b2 b4 b5 : Bool) → eqb (first_of b3 b2 b4 b5) 0 ≡ true → Passes b3 b2 b4 false b5
first_of_none b3 b2 b4 b5 = first_among_none b3 b2 b4 false b5

-- ---- numbers: refused before anything is written, or else run

-- a call answers its refusal k, under which nothing is written, or else what its run does: another number is the run's
pub run_late : {A : Type 0} (f : A → ℕ) (k : ℕ) (x y : A) → f y ≡ k → (eqb k 0 ≡ false → Early k) → Late (f (cond (eqb k 0) x y)) → eqb k 0 ≡ true
run_late f k x y turned early = by_test (λ (a : _). Late (f a) → eqb k 0 ≡ true) (eqb k 0) x y (λ e l. e) (λ e l. absurd (early e (subst Late turned l)))

-- ---- what a projection, a measurement or a reset that is not refused has: a sound record, long slices and a qubit of the chain

pub record AcceptedReading (s : State) (work : List Float) (q : ℕ) : Type 0 where
  pub sound : Sound s.chain
  pub long : short s.chain s.store work ≡ false
  pub below : q < s.chain.num_qubits
  pub site_below : site_of s.chain q < s.chain.num_qubits

module _ (s : State) (work : List Float) (q : ℕ) where
  reading_accepted : {four five : Bool} → (four ≡ false → outside s.chain q ≡ false) → Passes (not (sound s.chain)) (short s.chain s.store work) four false five → AcceptedReading s work q
  reading_accepted inside p =
      let h = passes_sound s.chain p.three in
      let l = not_outside s.chain q (inside p.four) in
      record { sound = h; long = p.two; below = l; site_below = h.sites.below q l }

  pub project_passes : eqb (project_refusal s work q) 0 ≡ true → AcceptedReading s work q
  project_passes e = reading_accepted (λ z. z) (first_of_none (not (sound s.chain)) (short s.chain s.store work) (outside s.chain q) false e)

  pub measure_passes : (flag : ℕ) (draw : Float) → eqb (measure_refusal s work q flag draw) 0 ≡ true → AcceptedReading s work q
  measure_passes flag draw e =
      reading_accepted (λ z. (neither (outside s.chain q) (leb 64 flag) z).0) (first_of_none (not (sound s.chain)) (short s.chain s.store work) (outside s.chain q || leb 64 flag) (not (share01 draw)) e)

  pub reset_passes : (draw : Float) → eqb (reset_refusal s work q draw) 0 ≡ true → AcceptedReading s work q
  reset_passes draw e = reading_accepted (λ z. z) (first_of_none (not (sound s.chain)) (short s.chain s.store work) (outside s.chain q) (not (share01 draw)) e)

-- ---- start, and the calls without a cut

pub start_refusals : (n d : ℕ) (epsilon clamp : Float) (exponent : ℕ) (store : List Float)
    → FirstGround (start_table n d epsilon clamp exponent store) (view_answer (start_call n d epsilon clamp exponent store).answer).number
unfolding start_call
start_refusals n d epsilon clamp exponent store =
    go (settings_fit n d epsilon clamp exponent) (ltb (length store) (store_room n d))
    (decides_not {b = settings_fit n d epsilon clamp exponent} (record { holds = settings_facts n d epsilon clamp exponent; fails = facts_settings n d epsilon clamp exponent }))
    (decides_as (decides_below (length store) (store_room n d)) (λ l. omega arith) (λ l. omega arith))
  where
    go : (fit few : Bool) → Decides (not fit) (OutOfRange n d epsilon clamp exponent) → Decides few (ShortStore n d store)
        → FirstGround (start_table n d epsilon clamp exponent store) (view_answer
        (cond (not fit) (started (Err 1) zero_chain store) (cond few (started (Err 2) zero_chain store) (started (Ok tt) (fresh_chain n d epsilon clamp exponent) (fresh_store n d store)))).answer).number
    go false few p q = inl (p.holds tt, refl)
    go true true p q = inr (p.fails, inl (q.holds tt, refl))
    go true false p q = inr (p.fails, inr (q.fails, refl))

pub project_accepted : (k : ℕ) (o : Bool) (t : State) → (view_projected (project_answer k o t)).number ≡ 0
project_accepted k o t = either (le (weight_at k o t) t.chain.norm_clamp_min) (div binary64 (weight_at k o t) (total_at k t))
  where
    either : (b : Bool) (w : Float) → (view_projected (cond b projected.Nothing (projected.Kept w))).number ≡ 0
    either true w = refl
    either false w = refl

module _ (s : State) (work : List Float) where
  decides_3 : Decides (not (sound s.chain)) (Unsound s.chain)
  decides_3 = decides_unsound s.chain

  decides_2 : Decides (short s.chain s.store work) (ShortSlice s.chain s.store work)
  decides_2 = decides_short s.chain s.store work

  decides_qubit : (q : ℕ) → Decides (outside s.chain q) (NoQubit s.chain q)
  decides_qubit q = decides_least s.chain.num_qubits q

  pub project_refusals : (q : ℕ) (o : Bool) → FirstGround (project_table s work q) (view_projected (project_call s work q o).answer).number
  unfolding project_call
  project_refusals q o =
      table_answered (λ (a : After Projected). (view_projected a.answer).number) (project_table s work q) [] (project_refusal s work q) 0 (project_run (site_of s.chain q) o s (cleared s.chain work)) _
      (project_accepted (site_of s.chain q) o (readied (site_of s.chain q) s)) refl tt
      (test 3 decides_3 (test 2 decides_2 (test 4 (decides_qubit q) untested))) (λ z. refl)

  pub measure_refusals : (q flag : ℕ) (draw : Float) → FirstGround (measure_table s work q flag draw) (view_measured (measure_call s work q flag draw).answer).number
  unfolding measure_call
  measure_refusals q flag draw =
      table_answered (λ (a : After Measured). (view_measured a.answer).number) (measure_table s work q flag draw) [] (measure_refusal s work q flag draw) 0 (measure_run (site_of s.chain q) flag draw s (cleared s.chain work)) _
      refl refl tt
      (test 3 decides_3 (test 2 decides_2 (test 4 (decides_either (decides_qubit q) (decides_least 64 flag)) (test 5 (decides_draw draw) untested)))) (λ z. refl)

  pub reset_refusals : (q : ℕ) (draw : Float) → FirstGround (reset_table s work q draw) (view_answer (reset_call s work q draw).answer).number
  unfolding reset_call
  reset_refusals q draw =
      table_answered (λ (a : After Answer). (view_answer a.answer).number) (reset_table s work q draw) [] (reset_refusal s work q draw) 0 (reset_run (site_of s.chain q) draw s (cleared s.chain work)) _
      refl refl tt
      (test 3 decides_3 (test 2 decides_2 (test 4 (decides_qubit q) (test 5 (decides_draw draw) untested)))) (λ z. refl)

  module _ (out : List Float) where
    environment_refusals : (end site : ℕ) (e : Env) → FirstGround (environment_table s work out end site) (view_contracted (env_after (env_refusal s work out end site) e s work out).answer).number
    environment_refusals end site e =
        table_answered (λ (a : Walked). (view_contracted a.answer).number) (environment_table s work out end site) [] (env_refusal s work out end site) 0 (env_run e s.chain work out) _
        refl refl tt
        (test 3 decides_3 (test 2 (decides_either decides_2 (decides_below (length out) _)) (test 4 (decides_either (decides_qubit end) (decides_below _ site)) untested))) (λ z. refl)

    pub left_environment_refusals : (from site : ℕ) → FirstGround (environment_table s work out from site) (view_contracted (left_environment_call s work out from site).answer).number
    unfolding left_environment_call
    left_environment_refusals from site = environment_refusals from site (left_env from site s)

    pub right_environment_refusals : (site to : ℕ) → FirstGround (environment_table s work out to site) (view_contracted (right_environment_call s work out site to).answer).number
    unfolding right_environment_call
    right_environment_refusals site to = environment_refusals to site (right_env site to s)
