-- What a move needs of the chain and the two slices, and that every step, walk and move leaves it.
use Rattle.std.specs.Prelude.{ℕ, ◌+◌, ◌≤◌, ◌<◌, ◌≡◌, refl, List, length, Float}
use Rattle.std.proofs.Common.{ap, ◌∙◌, arith, mul-le-mul_right}
use Rattle.model.specs.declared.Chain.{Chain}
use Rattle.model.specs.declared.Bonds.{Bonds}
use Rattle.model.specs.Chain.{bond_left, bond_right, with_bond}
use Rattle.model.specs.Slots.{State, held, slot_of, slot_room, store_room, work_room}
use Rattle.model.specs.Moves.{step_right, step_left, moved}
use Rattle.model.specs.Statements.Soundness.{Sound}
use Rattle.moves.specs.Bonds.{pair_bonds}
use Rattle.moves.specs.Steps.{Pair, factors_right, factors_left, stored_right, stored_left}
use Rattle.model.proofs.Laws.MoveLaws.{Narrowed, narrowed_qubits, narrowed_cap, Apart, step_right_narrowed, step_right_apart, step_left_narrowed, step_left_apart, moved_narrowed, moved_apart}

-- a sound record, with a store of its size and room to work
pub record Ready (c : Chain) (store work : List Float) : Type 0 where
  pub sound : Sound c
  pub store_room_lem : store_room c.num_qubits c.max_bond_dim ≤ length store
  pub work_room_lem : work_room c.max_bond_dim ≤ length work

module _ {c : Chain} {store work : List Float} (h : Ready c store work) (k : ℕ) (l : k + 1 < c.num_qubits) (b : Bonds) (e : b ≡ pair_bonds c k) where
  -- a chain that is ready has room for a step between each two neighbours
  pub pair_ready : Pair c.max_bond_dim k b.left b.mid b.right store work
  pair_ready =
      let s = h.sound in
      let x = s.bonds.left_range k (omega arith) in
      let y = s.bonds.right_range k (omega arith) in
      let z = s.bonds.right_range (k + 1) l in
      rw e (record {
        cap = s.settings.cap.1;
        place = omega (arith, s.settings.qubits);
        left = record { least = omega (arith, x.0); most = omega (arith, x.1, s.high_water.1) };
        middle = record { least = omega (arith, y.0); most = omega (arith, y.1, s.high_water.1) };
        right = record { least = omega (arith, z.0); most = omega (arith, z.1, s.high_water.1) };
        store_room_lem = omega (arith, h.store_room_lem, mul-le-mul_right (slot_room c.max_bond_dim) l);
        work_room_lem = h.work_room_lem;
      })

  -- the bond between the sites is read at either of them
  pub left_bonds : b ≡ record { left = bond_left c k; mid = bond_left c (k + 1); right = bond_right c (k + 1) }
  left_bonds = rw (e, h.sound.bonds.neighbours k l) refl

-- what a step writes, with the bond, is the model's step: to the right with the bond read at site k, to the left at site k + 1
module _ (c r : Chain) (store out : List Float) (k : ℕ) (b : Bonds) (chi : ℕ) (er : r ≡ with_bond c k chi) where
  abbrev cap : ℕ
  cap = c.max_bond_dim

  pub stepped_right : b ≡ pair_bonds c k → chi ≡ (factors_right cap k b.left b.mid store).rank
      → out ≡ stored_right cap k b.left b.mid b.right (factors_right cap k b.left b.mid store) (slot_of cap (k + 1) store) store → held r out ≡ step_right k (held c store)
  unfolding step_right
  stepped_right e ec eo = rw (er, eo, ec, e) refl

  pub stepped_left : b ≡ record { left = bond_left c k; mid = bond_left c (k + 1); right = bond_right c (k + 1) } → chi ≡ (factors_left cap k b.mid b.right store).rank
      → out ≡ stored_left cap k b.left b.mid b.right (factors_left cap k b.mid b.right store) (slot_of cap k store) store → held r out ≡ step_left k (held c store)
  unfolding step_left
  stepped_left e ec eo = rw (er, eo, ec, e) refl

-- what a call leaves as it was: number of sites, cap, lengths of the slices
pub record Stays (c r : Chain) (store out work room : List Float) : Type 0 where
  pub sound : Sound r
  pub qubits : r.num_qubits ≡ c.num_qubits
  pub cap : r.max_bond_dim ≡ c.max_bond_dim
  pub store_length : length out ≡ length store
  pub work_length : length room ≡ length work

pub ready_after : {c r : Chain} {store out work room : List Float} → Ready c store work → Stays c r store out work room → Ready r out room
ready_after h s = record {
  sound = s.sound;
  store_room_lem = rw (s.qubits, s.cap, s.store_length) h.store_room_lem;
  work_room_lem = rw (s.cap, s.work_length) h.work_room_lem;
}

-- from the laws of the model
stays : {lo hi n d : ℕ} (c r : Chain) (store out work room : List Float) (s : State) → Narrowed lo hi c s.chain → Apart n d lo hi store s.store → held r out ≡ s → length room ≡ length work
    → Stays c r store out work room
stays c r store out work room s x y e l =
    let ec : r ≡ s.chain = ap (λ (t : State). t.chain) e in
    let eo : out ≡ s.store = ap (λ (t : State). t.store) e in
    record {
      sound = rw ec x.sound;
      qubits = ap (λ (t : Chain). t.num_qubits) ec ∙ narrowed_qubits x;
      cap = ap (λ (t : Chain). t.max_bond_dim) ec ∙ narrowed_cap x;
      store_length = ap length eo ∙ y.long;
      work_length = l;
    }

module _ {c r : Chain} {store out work room : List Float} (h : Ready c store work) (n : length room ≡ length work) where
  pub right_stays : (k : ℕ) → k + 1 < c.num_qubits → held r out ≡ step_right k (held c store) → Stays c r store out work room
  right_stays k l e = stays c r store out work room _ (step_right_narrowed k (held c store) h.sound l) (step_right_apart k (held c store) h.sound l h.store_room_lem) e n

  pub left_stays : (k : ℕ) → k + 1 < c.num_qubits → held r out ≡ step_left k (held c store) → Stays c r store out work room
  left_stays k l e = stays c r store out work room _ (step_left_narrowed k (held c store) h.sound l) (step_left_apart k (held c store) h.sound l h.store_room_lem) e n

  pub moved_stays : (from to : ℕ) → from < c.num_qubits → to < c.num_qubits → held r out ≡ moved from to (held c store) → Stays c r store out work room
  moved_stays from to l m e = stays c r store out work room _ (moved_narrowed from to (held c store) h.sound l m) (moved_apart from to (held c store) h.sound l m h.store_room_lem) e n
