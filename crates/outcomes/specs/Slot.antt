-- What the state becomes where site k is projected on an outcome, or reset from it: itself where the weight is at most the clamp, else another site in its slot.
use Rattle.std.specs.Prelude.{◌≡◌, Bool, true, false, cond, ℕ, ◌+◌, ◌*◌, ◌<◌, ◌≤◌, List, length, Float}
use Rattle.std.proofs.Common.{sym, ap, ◌∙◌, arith, mul-le-mul, mul-le-mul_right}
use Rattle.std.specs.Float.Ieee.{le}
use Rattle.complex.specs.Numbers.{count}
use Rattle.complex.specs.Parts.{put, length_part}
use Rattle.model.specs.Slots.{State, held, slot_room, slot_of, filled, lefts, rights, site_at, with_site}
use Rattle.model.specs.Born.{projected_site, reset_site, weight_at, projected_at, reset_at}
use Rattle.model.proofs.Laws.RunLaws.{projected_at_apart, reset_at_apart}
use Rattle.moves.specs.declared.Mps.{Mps}
use Rattle.moves.specs.Mps.{state, Becomes, itself}

-- ---- a slot within the store

module _ (d k : ℕ) (store : List Float) (within : k * slot_room d + slot_room d ≤ length store) where
  pub slot_length : length (slot_of d k store) ≡ slot_room d
  slot_length = length_part (k * slot_room d) (k * slot_room d + slot_room d) store (omega arith) within ∙ omega arith

  -- a site of bonds up to d is within it
  pub slot_fits : (bl br : ℕ) → bl ≤ d → br ≤ d → bl * (2 * br) ≤ count (slot_of d k store)
  slot_fits bl br hl hr = omega (arith, slot_length, mul-le-mul hl hr)

-- ---- reset where zero, else projected

clamped_state : (zero : Bool) (k : ℕ) (o : Bool) (s : State) → le (weight_at k o s) s.chain.norm_clamp_min ≡ true → cond zero (reset_at k o s) (projected_at k o s) ≡ s
unfolding projected_at reset_at
clamped_state true k o s h = rw h
clamped_state false k o s h = rw h

collapsed_state : (zero : Bool) (k : ℕ) (o : Bool) (s : State) → le (weight_at k o s) s.chain.norm_clamp_min ≡ false
    → cond zero (reset_at k o s) (projected_at k o s)
    ≡ held s.chain (with_site s.chain.max_bond_dim k (cond zero (reset_site (lefts s k) (rights s k) o (site_at s k)) (projected_site (lefts s k) (rights s k) o (site_at s k))) s.store)
unfolding projected_at reset_at
collapsed_state true k o s h = rw h
collapsed_state false k o s h = rw h

-- it is written into the slot alone
collapsed_long : (zero : Bool) (k : ℕ) (o : Bool) (m : Mps) → k < m.chain.now.num_qubits → length (cond zero (reset_at k o (state m)) (projected_at k o (state m))).store ≡ length m.store.now
collapsed_long true k o m l = (reset_at_apart (state m) m.ready.sound m.ready.store_room_lem k l o).long
collapsed_long false k o m l = (projected_at_apart (state m) m.ready.sound m.ready.store_room_lem k l o).long

module _ (zero : Bool) (k : ℕ) (o : Bool) (w : Float) (m : Mps) (e : w ≡ weight_at k o (state m)) where
  abbrev s : State
  s = state m

  abbrev d : ℕ
  d = s.chain.max_bond_dim

  pub clamped : le w s.chain.norm_clamp_min ≡ true → Becomes (cond zero (reset_at k o s) (projected_at k o s)) m m
  clamped h = record { value = sym (clamped_state zero k o s (rw e at h)); place = itself m }

  site_length : k < s.chain.num_qubits → length (site_at s k) ≡ slot_room d
  site_length l = slot_length d k s.store (omega (arith, m.ready.store_room_lem, mul-le-mul_right (slot_room d) l))

  pub collapsed : (new : Mps) → k < s.chain.num_qubits → le w s.chain.norm_clamp_min ≡ false
      → new.chain ≡ m.chain → new.work ≡ m.work → new.store.ghost_name ≡ m.store.ghost_name
      → new.store.now ≡ put (k * slot_room d) (k * slot_room d + slot_room d) s.store (filled (length (site_at s k)) (cond zero (reset_site (lefts s k) (rights s k) o (site_at s k)) (projected_site (lefts s k) (rights s k) o (site_at s k))))
      → Becomes (cond zero (reset_at k o s) (projected_at k o s)) m new
  collapsed new l h ec ew eg es =
      let v : state new ≡ cond zero (reset_at k o s) (projected_at k o s) = rw (ec, es, site_length l) (sym (collapsed_state zero k o s (rw e at h))) in
      record {
        value = v;
        place = record {
          stays = record {
            sound = rw ec m.ready.sound;
            qubits = rw ec;
            cap = rw ec;
            store_length = ap (λ (t : State). length t.store) v ∙ collapsed_long zero k o m l;
            work_length = rw ew;
          };
          chain_lent = rw ec;
          store_lent = eg;
          work_lent = rw ew;
        };
      }
