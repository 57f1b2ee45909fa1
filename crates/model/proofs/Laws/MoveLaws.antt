-- What a move of the centre leaves as it was: no bond grows, only the bonds and the slots between its two ends change, and of the record nothing else but the centre.
use Prim.Native.Nat.{ℕ, zero, suc, ◌+◌, ◌-◌, ◌*◌, ◌≤◌, ◌<◌, min, max}
use Rattle.std.specs.Prelude.{◌≡◌, ◌⊎◌, List, leb, length, Float, Option, None, Some}
use Rattle.std.proofs.Math.Path.{refl}
use Rattle.std.proofs.Common.{sym, ap, ◌∙◌, ⊎_elim, inl, inr, mul-le-mul, mul-le-mul_right, arith, length-append, get_or-set_other}
use Rattle.std.proofs.lemmas.List.{length-replicate}
use Rattle.complex.specs.Parts.{length_put, part_put_before, part_put_after, drop_put}
use Rattle.complex.specs.Numbers.{numbers, length_numbers}
use Rattle.complex.specs.Matrix.{rows, length_rows}
use Rattle.complex.specs.declared.Complex.{Complex}
use Rattle.model.specs.declared.Chain.{Chain}
use Rattle.model.specs.Chain.{with_center, with_bond}
use Rattle.model.specs.Slots.{State, held, lefts, rights, site_at, slot_room, store_room, filled, with_site}
use Rattle.model.specs.Qr.{Kept, qr}
use Rattle.model.specs.Pair.{isometry_site, vt_site}
use Rattle.model.specs.Moves.{right_matrix, left_matrix, absorbed_right, absorbed_left, step_right, step_left, walk_right, walk_left, centered, moved, established, centered_on, Prepared, prepared_on}
use Rattle.model.specs.Cut.{keeps_centre, prepared_for}
use Rattle.model.specs.Born.{readied}
use Rattle.model.specs.Statements.Soundness.{Sound}
pub use Rattle.model.specs.Statements.CutsAndMoves.{AsBefore, Narrowed, Apart}
use Rattle.model.specs.Statements.CutsAndMoves.{MoveLaw, EstablishLaw}
use Rattle.model.proofs.Laws.SoundFacts.{left_most, right_most}
use Rattle.model.proofs.Laws.SoundChanges.{after_set, center_sound, bond_sound, qr_rank_least, qr_rank_most}
use Rattle.model.proofs.Laws.Tests.{either_way}

-- ---- the laws

-- ---- no change, and one change after another

as_before : (c : Chain) → AsBefore c c
as_before c = record { settings = refl; labels = refl; bits = refl; totals = refl }

as_before_then : {a b c : Chain} → AsBefore a b → AsBefore b c → AsBefore a c
as_before_then x y = record { settings = y.settings ∙ x.settings; labels = y.labels ∙ x.labels; bits = y.bits ∙ x.bits; totals = y.totals ∙ x.totals }

-- the two settings that sizes are made of
module _ {lo hi : ℕ} {c c' : Chain} (x : Narrowed lo hi c c') where
  pub narrowed_qubits : c'.num_qubits ≡ c.num_qubits
  narrowed_qubits = λ i. (x.rest.settings i).qubits

  pub narrowed_cap : c'.max_bond_dim ≡ c.max_bond_dim
  narrowed_cap = λ i. (x.rest.settings i).cap

pub narrowed_none : (lo hi : ℕ) (c : Chain) → Sound c → Narrowed lo hi c c
narrowed_none lo hi c h = record {
  sound = h;
  rest = as_before c;
  left_most = λ k. omega arith;
  right_most = λ k. omega arith;
  left_apart = λ k l. refl;
  right_apart = λ k l. refl;
}

pub apart_none : (n d lo hi : ℕ) (x : List Float) → Apart n d lo hi x x
apart_none n d lo hi x = record { slots = λ k l. refl; past = refl; long = refl }

-- the same stores, the chain's size and cap being written otherwise
pub apart_at : {n d n' d' lo hi : ℕ} {x y : List Float} → n ≡ n' → d ≡ d' → Apart n d lo hi x y → Apart n' d' lo hi x y
apart_at en ed a = rw (en, ed) at a

-- an index outside a range is outside each range within it
outside : {lo hi lo' hi' : ℕ} → lo ≤ lo' → hi' ≤ hi → (k : ℕ) → (k < lo) ⊎ (hi < k) → (k < lo') ⊎ (hi' < k)
outside l m k o = ⊎_elim (λ (z : k < _). inl (omega arith)) (λ (z : _ < k). inr (omega arith)) o

module _ (lo hi : ℕ) {p q p' q' : ℕ} (l : lo ≤ p) (m : q ≤ hi) (l' : lo ≤ p') (m' : q' ≤ hi) where
  pub narrowed_then : {a b c : Chain} → Narrowed p q a b → Narrowed p' q' b c → Narrowed lo hi a c
  narrowed_then x y = record {
    sound = y.sound;
    rest = as_before_then x.rest y.rest;
    left_most = λ k. omega (arith, x.left_most k, y.left_most k);
    right_most = λ k. omega (arith, x.right_most k, y.right_most k);
    left_apart = λ k o. y.left_apart k (⊎_elim (λ (z : k ≤ lo). inl (omega arith)) (λ (z : hi < k). inr (omega arith)) o)
        ∙ x.left_apart k (⊎_elim (λ (z : k ≤ lo). inl (omega arith)) (λ (z : hi < k). inr (omega arith)) o);
    right_apart = λ k o. y.right_apart k (⊎_elim (λ (z : k < lo). inl (omega arith)) (λ (z : hi ≤ k). inr (omega arith)) o)
        ∙ x.right_apart k (⊎_elim (λ (z : k < lo). inl (omega arith)) (λ (z : hi ≤ k). inr (omega arith)) o);
  }

  pub apart_then : {n d : ℕ} {x y z : List Float} → Apart n d p q x y → Apart n d p' q' y z → Apart n d lo hi x z
  apart_then a b = record {
    slots = λ k o. b.slots k (outside l' m' k o) ∙ a.slots k (outside l m k o);
    past = b.past ∙ a.past;
    long = b.long ∙ a.long;
  }

-- ---- one bond set

module _ (s : State) (h : Sound s.chain) (k : ℕ) (inside : k + 1 < s.chain.num_qubits) where
  pub bond_narrowed : (bond : ℕ) → 1 ≤ bond → bond ≤ rights s k → Narrowed k (k + 1) s.chain (with_bond s.chain k bond)
  bond_narrowed bond low high =
      let agree : rights s k ≡ lefts s (k + 1) = h.bonds.neighbours k inside in
      let ll : k + 1 < length s.chain.bond_left = omega arith in
      let lr : k < length s.chain.bond_right = omega arith in
      record {
        sound = bond_sound s.chain h k bond inside low (omega (arith, (h.bonds.right_range k (omega arith)).1));
        rest = record { settings = refl; labels = refl; bits = refl; totals = refl };
        left_most = λ j. after_set (λ (x : ℕ). x ≤ lefts s j) s.chain.bond_left (k + 1) j bond ll (λ e. rw e (omega arith)) (λ e. omega arith);
        right_most = λ j. after_set (λ (x : ℕ). x ≤ rights s j) s.chain.bond_right k j bond lr (λ e. rw e high) (λ e. omega arith);
        left_apart = λ j o. get_or-set_other s.chain.bond_left (k + 1) j bond 0 (λ e. ⊎_elim (λ (z : j ≤ k). omega arith) (λ (z : k + 1 < j). omega arith) o);
        right_apart = λ j o. get_or-set_other s.chain.bond_right k j bond 0 (λ e. ⊎_elim (λ (z : j < k). omega arith) (λ (z : k + 1 ≤ j). omega arith) o);
      }

-- ---- one site, and two, written into their slots

-- xs filled up to n numbers has n
pub length_filled : (n : ℕ) (xs : List Float) → length xs ≤ n → length (filled n xs) ≡ n
unfolding filled
length_filled n xs h = simp (length-append, length-replicate) (omega arith)

pub slot_four : (d : ℕ) → 1 ≤ d → 4 ≤ slot_room d
slot_four d h = omega (arith, mul-le-mul h h)

pub site_apart : (n d k : ℕ) (xs store : List Float) → k < n → store_room n d ≤ length store → length xs ≤ slot_room d → Apart n d k k store (with_site d k xs store)
site_apart n d k xs store inside room fits =
    let r = slot_room d in
    let below : (i j : ℕ) → i < j → i * r + r ≤ j * r = λ i j l. omega (arith, mul-le-mul_right {m = suc i} {n = j} r l) in
    let order : k * r ≤ k * r + r = omega arith in
    let end : k * r + r ≤ length store = omega (arith, below k n inside) in
    let whole : length (filled r xs) ≡ k * r + r - k * r = length_filled r xs fits ∙ omega arith in
    record {
      slots = λ j o. ⊎_elim
          (λ (z : j < k). part_put_before (k * r) (k * r + r) store order end (filled r xs) whole (j * r) (j * r + r) (omega arith) (below j k z))
          (λ (z : k < j). part_put_after (k * r) (k * r + r) store order end (filled r xs) whole (j * r) (j * r + r) (below k j z))
          o;
      past = drop_put (k * r) (k * r + r) store order end (filled r xs) whole (store_room n d) (below k n inside);
      long = length_put (k * r) (k * r + r) store order end (filled r xs) whole;
    }

pub pair_apart : (n d k : ℕ) (left right store : List Float) → k + 1 < n → store_room n d ≤ length store → length left ≤ slot_room d → length right ≤ slot_room d
    → Apart n d k (k + 1) store (with_site d (k + 1) right (with_site d k left store))
pair_apart n d k left right store inside room hl hr =
    let first = site_apart n d k left store (omega arith) room hl in
    apart_then k (k + 1) (omega arith) (omega arith) (omega arith) (omega arith) first (site_apart n d (k + 1) right (with_site d k left store) inside (omega (arith, first.long)) hr)

-- ---- one step

-- a site whose bonds are within the cap is within its slot: by rows of its left index and bit, and by rows of its left index
pub rows_fit : (d a b : ℕ) (f : ℕ → ℕ → Complex) → a ≤ d → b ≤ d → length (rows (2 * a) (λ r. numbers b (f r))) ≤ slot_room d
rows_fit d a b f ha hb = rw (length_rows b _ (λ r. length_numbers b (f r)) (2 * a)) (omega (arith, mul-le-mul ha hb))

pub wide_rows_fit : (d a b : ℕ) (f : ℕ → ℕ → Complex) → a ≤ d → b ≤ d → length (rows a (λ r. numbers (2 * b) (f r))) ≤ slot_room d
wide_rows_fit d a b f ha hb = rw (length_rows (2 * b) _ (λ r. length_numbers (2 * b) (f r)) a) (omega (arith, mul-le-mul ha hb))

module _ (k : ℕ) (s : State) (h : Sound s.chain) (inside : k + 1 < s.chain.num_qubits) where
  -- the factoring that a step makes
  abbrev factors_right : Kept
  factors_right = qr (2 * lefts s k) (rights s k) (right_matrix (lefts s k) (rights s k) (site_at s k))

  abbrev factors_left : Kept
  factors_left = qr (2 * rights s (k + 1)) (lefts s (k + 1)) (left_matrix (lefts s (k + 1)) (rights s (k + 1)) (site_at s (k + 1)))

  -- the new bond is at least 1 and at most the old one
  rank_right : (1 ≤ factors_right.rank) × (factors_right.rank ≤ rights s k)
  rank_right =
      let l = (h.bonds.left_range k (omega arith)).0 in
      let r = (h.bonds.right_range k (omega arith)).0 in
      (qr_rank_least _ _ _, omega (arith, qr_rank_most (2 * lefts s k) (rights s k) (right_matrix (lefts s k) (rights s k) (site_at s k)) (omega arith) r))

  rank_left : (1 ≤ factors_left.rank) × (factors_left.rank ≤ rights s k)
  rank_left =
      let l = (h.bonds.left_range (k + 1) inside).0 in
      let r = (h.bonds.right_range (k + 1) inside).0 in
      let e = h.bonds.neighbours k inside in
      (qr_rank_least _ _ _, omega (arith, qr_rank_most (2 * rights s (k + 1)) (lefts s (k + 1)) (left_matrix (lefts s (k + 1)) (rights s (k + 1)) (site_at s (k + 1))) (omega arith) l))

  pub step_right_narrowed : Narrowed k (k + 1) s.chain (step_right k s).chain
  unfolding step_right
  step_right_narrowed = bond_narrowed s h k inside factors_right.rank rank_right.0 rank_right.1

  pub step_left_narrowed : Narrowed k (k + 1) s.chain (step_left k s).chain
  unfolding step_left
  step_left_narrowed = bond_narrowed s h k inside factors_left.rank rank_left.0 rank_left.1

  module _ (room : store_room s.chain.num_qubits s.chain.max_bond_dim ≤ length s.store) where
    pub step_right_apart : Apart s.chain.num_qubits s.chain.max_bond_dim k (k + 1) s.store (step_right k s).store
    unfolding step_right isometry_site absorbed_right
    step_right_apart =
        let d = s.chain.max_bond_dim in
        let bl : lefts s k ≤ d = left_most s.chain h k (omega arith) in
        let bond : rights s k ≤ d = right_most s.chain h k (omega arith) in
        let br : rights s (k + 1) ≤ d = right_most s.chain h (k + 1) inside in
        let f : factors_right.rank ≤ d = omega (arith, rank_right.1) in
        pair_apart s.chain.num_qubits d k _ _ s.store inside room
        (rows_fit d (lefts s k) factors_right.rank _ bl f)
        (wide_rows_fit d factors_right.rank (rights s (k + 1)) _ f br)

    pub step_left_apart : Apart s.chain.num_qubits s.chain.max_bond_dim k (k + 1) s.store (step_left k s).store
    unfolding step_left vt_site absorbed_left
    step_left_apart =
        let d = s.chain.max_bond_dim in
        let bl : lefts s k ≤ d = left_most s.chain h k (omega arith) in
        let bond : rights s k ≤ d = right_most s.chain h k (omega arith) in
        let br : rights s (k + 1) ≤ d = right_most s.chain h (k + 1) inside in
        let f : factors_left.rank ≤ d = omega (arith, rank_left.1) in
        pair_apart s.chain.num_qubits d k _ _ s.store inside room
        (rows_fit d (lefts s k) factors_left.rank _ bl f)
        (wide_rows_fit d factors_left.rank (rights s (k + 1)) _ f br)

-- ---- walks

pub walk_right_narrowed : (m k : ℕ) (s : State) → Sound s.chain → k + m < s.chain.num_qubits → Narrowed k (k + m) s.chain (walk_right m k s).chain
unfolding walk_right
walk_right_narrowed zero k s h inside = narrowed_none k (k + 0) s.chain h
walk_right_narrowed (suc m) k s h inside =
    let one = step_right_narrowed k s h (omega arith) in
    narrowed_then k (k + suc m) (omega arith) (omega arith) (omega arith) (omega arith) one
    (walk_right_narrowed m (k + 1) (step_right k s) one.sound (omega (arith, narrowed_qubits one)))

pub walk_left_narrowed : (m k : ℕ) (s : State) → Sound s.chain → m ≤ k → k < s.chain.num_qubits → Narrowed (k - m) k s.chain (walk_left m k s).chain
unfolding walk_left
walk_left_narrowed zero k s h enough inside = narrowed_none (k - 0) k s.chain h
walk_left_narrowed (suc m) k s h enough inside =
    let one = step_left_narrowed (k - 1) s h (omega arith) in
    narrowed_then (k - suc m) k (omega arith) (omega arith) (omega arith) (omega arith) one
    (walk_left_narrowed m (k - 1) (step_left (k - 1) s) one.sound (omega arith) (omega (arith, narrowed_qubits one)))

module _ (n d : ℕ) where
  pub walk_right_apart : (m k : ℕ) (s : State) → Sound s.chain → s.chain.num_qubits ≡ n → s.chain.max_bond_dim ≡ d → k + m < n → store_room n d ≤ length s.store
      → Apart n d k (k + m) s.store (walk_right m k s).store
  unfolding walk_right
  walk_right_apart zero k s h en ed inside room = apart_none n d k (k + 0) s.store
  walk_right_apart (suc m) k s h en ed inside room =
      let one = step_right_narrowed k s h (omega arith) in
      let first : Apart n d k (k + 1) s.store (step_right k s).store = apart_at en ed (step_right_apart k s h (omega arith) (rw (en, ed) room)) in
      apart_then k (k + suc m) (omega arith) (omega arith) (omega arith) (omega arith) first
      (walk_right_apart m (k + 1) (step_right k s) one.sound (narrowed_qubits one ∙ en) (narrowed_cap one ∙ ed) (omega arith) (omega (arith, first.long)))

  pub walk_left_apart : (m k : ℕ) (s : State) → Sound s.chain → s.chain.num_qubits ≡ n → s.chain.max_bond_dim ≡ d → m ≤ k → k < n → store_room n d ≤ length s.store
      → Apart n d (k - m) k s.store (walk_left m k s).store
  unfolding walk_left
  walk_left_apart zero k s h en ed enough inside room = apart_none n d (k - 0) k s.store
  walk_left_apart (suc m) k s h en ed enough inside room =
      let one = step_left_narrowed (k - 1) s h (omega arith) in
      let first : Apart n d (k - 1) (k - 1 + 1) s.store (step_left (k - 1) s).store = apart_at en ed (step_left_apart (k - 1) s h (omega arith) (rw (en, ed) room)) in
      apart_then (k - suc m) k (omega arith) (omega arith) (omega arith) (omega arith) first
      (walk_left_apart m (k - 1) (step_left (k - 1) s) one.sound (narrowed_qubits one ∙ en) (narrowed_cap one ∙ ed) (omega arith) (omega arith) (omega (arith, first.long)))

-- ---- moves

centered_narrowed : (lo hi : ℕ) (a b : Chain) (to : ℕ) → to < b.num_qubits → Narrowed lo hi a b → Narrowed lo hi a (with_center b (Some to))
centered_narrowed lo hi a b to inside x = record {
  sound = center_sound b x.sound (Some to) (λ k e. let same : to ≡ k = cc in omega arith);
  rest = record { settings = x.rest.settings; labels = x.rest.labels; bits = x.rest.bits; totals = x.rest.totals };
  left_most = x.left_most;
  right_most = x.right_most;
  left_apart = x.left_apart;
  right_apart = x.right_apart;
}

module _ (from to : ℕ) (s : State) where
  -- the centre is where it was moved to
  pub moved_centre : (moved from to s).chain.center ≡ Some to
  unfolding moved
  moved_centre = refl

  module _ (h : Sound s.chain) (hf : from < s.chain.num_qubits) (ht : to < s.chain.num_qubits) where
    walked_right : Narrowed from (from + (to - from)) s.chain (walk_right (to - from) from s).chain
    walked_right = walk_right_narrowed (to - from) from s h (omega arith)

    walked_left : Narrowed (from - (from - to)) from (walk_right (to - from) from s).chain (walk_left (from - to) from (walk_right (to - from) from s)).chain
    walked_left = walk_left_narrowed (from - to) from (walk_right (to - from) from s) walked_right.sound (omega arith) (omega (arith, narrowed_qubits walked_right))

    pub moved_narrowed : Narrowed (min from to) (max from to) s.chain (moved from to s).chain
    unfolding moved
    moved_narrowed =
        centered_narrowed (min from to) (max from to) s.chain _ to (omega (arith, narrowed_qubits walked_right, narrowed_qubits walked_left))
        (narrowed_then (min from to) (max from to) (omega arith) (omega arith) (omega arith) (omega arith) walked_right walked_left)

    pub moved_apart : store_room s.chain.num_qubits s.chain.max_bond_dim ≤ length s.store
        → Apart s.chain.num_qubits s.chain.max_bond_dim (min from to) (max from to) s.store (moved from to s).store
    unfolding moved
    moved_apart room =
        let n = s.chain.num_qubits in
        let d = s.chain.max_bond_dim in
        let first = walk_right_apart n d (to - from) from s h refl refl (omega arith) room in
        apart_then (min from to) (max from to) (omega arith) (omega arith) (omega arith) (omega arith) first
        (walk_left_apart n d (from - to) from (walk_right (to - from) from s) walked_right.sound (narrowed_qubits walked_right) (narrowed_cap walked_right) (omega arith) hf (omega (arith, first.long)))

-- a move to where the centre is: no step, and the centre set to what it is
pub moved_still : (k : ℕ) (s : State) → s.chain.center ≡ Some k → moved k k s ≡ s
unfolding moved walk_left walk_right
moved_still k s e =
    let z : k - k ≡ 0 = omega arith in
    ap (λ (n : ℕ). centered k (walk_left n k (walk_right n k s))) z ∙ ap (λ (at : Option ℕ). held (with_center s.chain at) s.store) (sym e)

abbrev pub last_site : State → ℕ
last_site s = s.chain.num_qubits - 1

-- a centre established crosses every site
module _ (to : ℕ) (s : State) where
  pub established_centre : (established to s).chain.center ≡ Some to
  unfolding established
  established_centre =
      either_way (λ (t : State). t.chain.center ≡ Some to) (leb (2 * to) (last_site s)) _ _ (moved_centre 0 to (moved (last_site s) 0 s)) (moved_centre (last_site s) to (moved 0 (last_site s) s))

  module _ (h : Sound s.chain) (ht : to < s.chain.num_qubits) where
    twice_narrowed : (a b : ℕ) → a ≤ last_site s → b ≤ last_site s → Narrowed 0 (last_site s) s.chain (moved b to (moved a b s)).chain
    twice_narrowed a b ha hb =
        let first = moved_narrowed a b s h (omega arith) (omega arith) in
        narrowed_then 0 (last_site s) (omega arith) (omega arith) (omega arith) (omega arith) first
        (moved_narrowed b to (moved a b s) first.sound (omega (arith, narrowed_qubits first)) (omega (arith, narrowed_qubits first)))

    pub established_narrowed : Narrowed 0 (last_site s) s.chain (established to s).chain
    unfolding established
    established_narrowed =
        either_way (λ (t : State). Narrowed 0 (last_site s) s.chain t.chain) (leb (2 * to) (last_site s)) _ _ (twice_narrowed (last_site s) 0 (omega arith) (omega arith)) (twice_narrowed 0 (last_site s) (omega arith) (omega arith))

    module _ (room : store_room s.chain.num_qubits s.chain.max_bond_dim ≤ length s.store) where
      twice_apart : (a b : ℕ) → a ≤ last_site s → b ≤ last_site s → Apart s.chain.num_qubits s.chain.max_bond_dim 0 (last_site s) s.store (moved b to (moved a b s)).store
      twice_apart a b ha hb =
          let first = moved_narrowed a b s h (omega arith) (omega arith) in
          let kept = moved_apart a b s h (omega arith) (omega arith) room in
          apart_then 0 (last_site s) (omega arith) (omega arith) (omega arith) (omega arith) kept
          (apart_at (narrowed_qubits first) (narrowed_cap first)
          (moved_apart b to (moved a b s) first.sound (omega (arith, narrowed_qubits first)) (omega (arith, narrowed_qubits first)) (rw (narrowed_qubits first, narrowed_cap first, kept.long) room)))

      pub established_apart : Apart s.chain.num_qubits s.chain.max_bond_dim 0 (last_site s) s.store (established to s).store
      unfolding established
      established_apart =
          either_way (λ (t : State). Apart s.chain.num_qubits s.chain.max_bond_dim 0 (last_site s) s.store t.store) (leb (2 * to) (last_site s)) _ _
          (twice_apart (last_site s) 0 (omega arith) (omega arith)) (twice_apart 0 (last_site s) (omega arith) (omega arith))

-- ---- what holds however the centre is brought to a site, and to a pair

module _ (P : State → Type 0) (k : ℕ) (s : State) where
  centered_on_by : (at : Option ℕ) → (at ≡ None → P (established k s)) → ((from : ℕ) → at ≡ Some from → P (moved from k s)) → P (centered_on k at s)
  centered_on_by None e m = e refl
  centered_on_by (Some from) e m = m from refl

  pub readied_by : (s.chain.center ≡ None → P (established k s)) → ((from : ℕ) → s.chain.center ≡ Some from → P (moved from k s)) → P (readied k s)
  readied_by = centered_on_by s.chain.center

  prepared_on_by : (at : Option ℕ) → (at ≡ None → P (established k s)) → ((from to : ℕ) → at ≡ Some from → k ≤ to → to ≤ k + 1 → P (moved from to s)) → P (prepared_on k at s).state
  prepared_on_by None e m = e refl
  prepared_on_by (Some from) e m = either_way (λ (p : Prepared). P p.state) (leb from k) _ _ (m from k refl (omega arith) (omega arith)) (m from (k + 1) refl (omega arith) (omega arith))

  -- the pair as a cut takes it: as it stands, or with the centre on it
  pub prepared_by_lem : P s → (s.chain.center ≡ None → P (established k s)) → ((from to : ℕ) → s.chain.center ≡ Some from → k ≤ to → to ≤ k + 1 → P (moved from to s)) → P (prepared_for k s).state
  prepared_by_lem as_it_is e m = either_way (λ (p : Prepared). P p.state) (keeps_centre k s) _ _ (prepared_on_by s.chain.center e m) as_it_is

-- ---- the statements

pub move_law : MoveLaw
unfolding MoveLaw
move_law from to s h hf ht = record { centre = moved_centre from to s; chain = moved_narrowed from to s h hf ht; store = moved_apart from to s h hf ht }

pub establish_law : EstablishLaw
unfolding EstablishLaw
establish_law to s h ht = record { centre = established_centre to s; chain = established_narrowed to s h ht; store = established_apart to s h ht }
