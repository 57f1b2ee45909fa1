-- A fresh chain: its record is sound, its store has one slot for each site; and what start leaves, accepted or refused.
use Rattle.std.specs.Prelude.{ℕ, zero, suc, ◌+◌, ◌-◌, ◌*◌, ◌≤◌, ◌<◌, refl, Bool, true, false, not, cond, List, [], ◌∷◌, ◌++◌, T, ltb, length, take, drop, Float, Ok, Err}
use Rattle.std.proofs.Math.Path.{◌≡◌, sym, ap}
use Rattle.std.proofs.Common.{◌∙◌, subst, ⊎_elim, append_assoc, ltb-false, lt-ltb, le-ltb, length-append, length-drop, take_at}
use Rattle.std.proofs.Math.Decide.{ℕ_discrete}
use native.Mathlib.Omega.{arith}
use Rattle.std.proofs.lemmas.Bool.{not-false}
use Rattle.std.proofs.Math.ListN.{get_or, length-replicate, get_or-eq_default}
use Rattle.std.proofs.lemmas.List.{get_or-replicate}
use Rattle.std.proofs.Math.Seq.{drop_at}
use Rattle.std.specs.Float.Ieee.{nan, of_bits, to_bits}
use Rattle.std.specs.Float.{binary64}
use Rattle.complex.specs.Complex.{zero_f, one_f}
use Rattle.complex.specs.Loops.{length_tabulate, get_d_tabulate}
use Rattle.complex.specs.Parts.{part}
use Rattle.complex.specs.Matrix.{rows, length_rows}
use Rattle.model.specs.declared.Chain.{Chain}
use Rattle.model.specs.Slots.{slot_room, store_room, slot_of, filled}
use Rattle.model.specs.Sound.{settings_fit}
use Rattle.model.specs.Start.{up_to, fresh_chain, fresh_store, zero_chain}
use Rattle.model.specs.Answers.{view_answer}
use Rattle.model.specs.Calls.{started, start_call}
use Rattle.model.specs.Statements.Demand1.{StartLeaves}
use Rattle.model.specs.Statements.Soundness.{Settings, Undone, Sound}
use Rattle.model.proofs.Laws.SoundFacts.{settings_facts}
use Rattle.model.proofs.Laws.MoveLaws.{length_filled, slot_four}
use Rattle.model.proofs.Laws.Tests.{below_or_past}

-- ---- the record

module _ (n : ℕ) (f : ℕ → ℕ) where
  length_up_to : length (up_to n f) ≡ 64
  length_up_to = length_tabulate 64 _

  up_to_within : n ≤ 64 → (i : ℕ) → i < n → get_or (up_to n f) i 0 ≡ f i
  up_to_within most i l = get_d_tabulate 64 _ 0 i (omega arith) ∙ ap (λ (b : Bool). cond b (f i) 0) (lt-ltb i n l)

  up_to_past : (i : ℕ) → n ≤ i → get_or (up_to n f) i 0 ≡ 0
  up_to_past i l = ⊎_elim
      (λ (m : i < 64). get_d_tabulate 64 _ 0 i m ∙ ap (λ (b : Bool). cond b (f i) 0) (le-ltb i n l))
      (λ (m : 64 ≤ i). get_or-eq_default (up_to n f) 0 (rw length_up_to m))
      (below_or_past i 64)

up_to_undone : (n : ℕ) → n ≤ 64 → Undone n (up_to n (λ i. i)) (up_to n (λ i. i))
up_to_undone n most = record {
  below = λ i l. rw (up_to_within n (λ i. i) most i l) l;
  undone = λ i l. rw (up_to_within n (λ i. i) most i l) (up_to_within n (λ i. i) most i l);
  past = up_to_past n (λ i. i);
}

module _ (n d : ℕ) (epsilon clamp : Float) (exponent : ℕ) where
  pub fresh_sound : Settings n d epsilon clamp exponent → Sound (fresh_chain n d epsilon clamp exponent)
  unfolding fresh_chain of_bits to_bits
  fresh_sound h =
      let some : 1 ≤ n = h.qubits.0 in
      let most : n ≤ 64 = h.qubits.1 in
      let one : (k : ℕ) → k < n → get_or (up_to n (λ i. 1)) k 0 ≡ 1 = up_to_within n (λ i. 1) most in
      let range : (k : ℕ) → k < n → (1 ≤ get_or (up_to n (λ i. 1)) k 0) × (get_or (up_to n (λ i. 1)) k 0 ≤ 1) = λ k l. let e = one k l in (omega arith, omega arith) in
      record {
        settings = h;
        high_water = (omega arith, h.cap.0);
        bonds = record {
          first = one 0 some;
          last = one (n - 1) (omega arith);
          neighbours = λ i l. one i (omega arith) ∙ sym (one (i + 1) l);
          left_range = range;
          right_range = range;
          left_past = up_to_past n (λ i. 1);
          right_past = up_to_past n (λ i. 1);
        };
        sites = up_to_undone n most;
        qubits = up_to_undone n most;
        centre = λ k e. let z : ◌≡◌ {A = ℕ} 0 1 = cc in absurd (omega arith);
        past_last_bond = λ k l m. ap (to_bits binary64) (get_or-replicate 63 k zero_f nan m);
        sizes = record {
          lefts = length_up_to n (λ i. 1);
          rights = length_up_to n (λ i. 1);
          sites = length_up_to n (λ i. i);
          qubits = length_up_to n (λ i. i);
          bits = length-replicate 64 false;
          by_bond = length-replicate 63 zero_f;
        };
      }

-- ---- the store

abbrev pub fresh_slot : ℕ → List Float
fresh_slot d = filled (slot_room d) (one_f ∷ zero_f ∷ zero_f ∷ zero_f ∷ [])

-- row k of rows that are w long
part_rows : (w : ℕ) (f : ℕ → List Float) → ((k : ℕ) → length (f k) ≡ w) → ((n : ℕ) → length (rows n f) ≡ n * w) → (n : ℕ) (rest : List Float) (k : ℕ) → k < n → part (k * w) (k * w + w) (rows n f ++ rest) ≡ f k
unfolding rows
part_rows w f len whole zero rest k h = absurd (omega arith)
part_rows w f len whole (suc n) rest k h = ap (part (k * w) (k * w + w)) (append_assoc (rows n f) (f n) rest) ∙ go (ℕ_discrete k n) (part_rows w f len whole n (f n ++ rest) k)
  where
    go : Dec (k ≡ n) → (k < n → part (k * w) (k * w + w) (rows n f ++ (f n ++ rest)) ≡ f k) → part (k * w) (k * w + w) (rows n f ++ (f n ++ rest)) ≡ f k
    go (yes e) r =
        ap (λ (j : ℕ). part (j * w) (j * w + w) (rows n f ++ (f n ++ rest))) e
        ∙ ap (take (n * w + w - n * w)) (drop_at (rows n f) (f n ++ rest) (n * w) (whole n))
        ∙ take_at (f n) rest (n * w + w - n * w) (len n ∙ omega arith)
        ∙ ap f (sym e)
    go (no m) r = r (omega arith)

module _ (n d : ℕ) (store : List Float) (h : 1 ≤ d) where
  slot_length : length (fresh_slot d) ≡ slot_room d
  slot_length = length_filled (slot_room d) (one_f ∷ zero_f ∷ zero_f ∷ zero_f ∷ []) (slot_four d h)

  slots_length : (n : ℕ) → length (rows n (λ k. fresh_slot d)) ≡ store_room n d
  slots_length n = length_rows (2 * d * d) _ (λ k. slot_length ∙ omega arith) n ∙ omega arith

  fresh_past : drop (store_room n d) (fresh_store n d store) ≡ drop (store_room n d) store
  unfolding fresh_store
  fresh_past = drop_at (rows n (λ k. fresh_slot d)) (drop (store_room n d) store) (store_room n d) (slots_length n)

  pub fresh_length : store_room n d ≤ length store → length (fresh_store n d store) ≡ length store
  unfolding fresh_store
  fresh_length room = simp (length-append, slots_length, length-drop) (omega arith)

  pub fresh_slot_lem : (k : ℕ) → k < n → slot_of d k (fresh_store n d store) ≡ fresh_slot d
  unfolding fresh_store
  fresh_slot_lem k l = part_rows (slot_room d) (λ k. fresh_slot d) (λ k. slot_length) slots_length n (drop (store_room n d) store) k l

-- ---- the call

-- an answer that is Ok says that neither test refused
unrefused : (a b : Bool) (c c' c'' : Chain) (x x' x'' : List Float) → (cond a (started (Err 1) c x) (cond b (started (Err 2) c' x') (started (Ok tt) c'' x''))).answer ≡ Ok tt
    → (a ≡ false) × (b ≡ false)
unrefused false false c c' c'' x x' x'' e = (refl, refl)
unrefused false true c c' c'' x x' x'' e = absurd (let z : ◌≡◌ {A = ℕ} 0 1 = cc in omega arith)
unrefused true b c c' c'' x x' x'' e = absurd (let z : ◌≡◌ {A = ℕ} 0 1 = cc in omega arith)

-- an accepted start: its settings, its room, and what it leaves
pub record Accepted (n d : ℕ) (epsilon clamp : Float) (exponent : ℕ) (store : List Float) : Type 0 where
  pub settings : Settings n d epsilon clamp exponent
  pub room : store_room n d ≤ length store
  pub is : start_call n d epsilon clamp exponent store ≡ started (Ok tt) (fresh_chain n d epsilon clamp exponent) (fresh_store n d store)

pub start_accepted : (n d : ℕ) (epsilon clamp : Float) (exponent : ℕ) (store : List Float) → (start_call n d epsilon clamp exponent store).answer ≡ Ok tt → Accepted n d epsilon clamp exponent store
unfolding start_call
start_accepted n d epsilon clamp exponent store e =
    let fits = settings_fit n d epsilon clamp exponent in
    let f = fresh_chain n d epsilon clamp exponent in
    let x = unrefused (not fits) (ltb (length store) (store_room n d)) zero_chain zero_chain f store store (fresh_store n d store) e in
    record {
      settings = settings_facts n d epsilon clamp exponent (subst (λ (b : Bool). T b) (sym (not-false fits x.0)) tt);
      room = ltb-false (length store) (store_room n d) x.1;
      is = λ i. cond (x.0 i) (started (Err 1) zero_chain store) (cond (x.1 i) (started (Err 2) zero_chain store) (started (Ok tt) f (fresh_store n d store)));
    }

-- an accepted start's record is sound
pub start_sound : (n d : ℕ) (epsilon clamp : Float) (exponent : ℕ) (store : List Float) → (start_call n d epsilon clamp exponent store).answer ≡ Ok tt
    → Sound (start_call n d epsilon clamp exponent store).chain
start_sound n d epsilon clamp exponent store done =
    let x = start_accepted n d epsilon clamp exponent store done in
    rw x.is (fresh_sound n d epsilon clamp exponent x.settings)

pub start_leaves : (n d : ℕ) (epsilon clamp : Float) (exponent : ℕ) (store : List Float)
    → (let a = start_call n d epsilon clamp exponent store in StartLeaves n d (view_answer a.answer).number store a)
unfolding start_call
start_leaves n d epsilon clamp exponent store = pick (settings_fit n d epsilon clamp exponent) (ltb (length store) (store_room n d)) (settings_facts n d epsilon clamp exponent) (ltb-false (length store) (store_room n d))
  where
    turned : (k : ℕ) → StartLeaves n d k store (started (Err k) zero_chain store)
    turned k = record { unaltered = λ l. (refl, refl); past = refl; long = refl }

    pick : (fit few : Bool) → (T fit → Settings n d epsilon clamp exponent) → (few ≡ false → store_room n d ≤ length store)
        → (let a = cond (not fit) (started (Err 1) zero_chain store) (cond few (started (Err 2) zero_chain store) (started (Ok tt) (fresh_chain n d epsilon clamp exponent) (fresh_store n d store))) in
        StartLeaves n d (view_answer a.answer).number store a)
    pick false few f room = turned 1
    pick true true f room = turned 2
    pick true false f room =
        let some : 1 ≤ d = (f tt).cap.0 in
        let e : store_room n d ≡ 4 * n * d * d = omega arith in
        record { unaltered = λ l. absurd (omega arith); past = rw (← e) (fresh_past n d store some); long = fresh_length n d store some (room refl) }
