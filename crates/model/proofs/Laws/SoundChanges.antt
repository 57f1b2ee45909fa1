-- Changes of one group of a record's fields that keep it sound; and ranks, which become bonds: they are from 1 to their caps, whatever numbers are factored.
use Prim.Native.Nat.{ℕ, ◌+◌, ◌-◌, ◌≤◌, ◌<◌, min}
use Rattle.std.specs.Prelude.{◌≡◌, refl, ◌≢◌, Bool, ◌&&◌, List, length, get_or, set, Float, ltb, eqb, T, Option, Some}
use Rattle.std.proofs.Common.{sym, ap, ◌∙◌, subst, length-set, get_or-set_same, get_or-set_other, ltb→lt}
use Rattle.std.proofs.Math.Decide.{ℕ_discrete}
use native.Mathlib.Omega.{arith}
use Rattle.std.specs.Float.{nan, binary64}
use Rattle.std.specs.Float.Ieee.{lt, mul, to_bits}
use borrow.Author.Tests.{eqb-false}
use Rattle.std.specs.Float.Ieee.Fits.{and_l}
use Rattle.complex.specs.Loops.{each_keeps}
use Rattle.model.specs.declared.Chain.{Chain}
use Rattle.model.specs.Chain.{with_center, with_bond, with_bits, labels_of}
use Rattle.model.specs.Routing.{relabelled}
use Rattle.model.specs.Qr.{Passed, Kept, kept_of, column_of, raised, qr, rank_tolerance}
use Rattle.model.specs.Truncation.{rank}
use Rattle.model.specs.Cut.{cut_recorded}
use Rattle.model.specs.Statements.Soundness.{Bonds, Sound}
use Rattle.model.proofs.Laws.Labels.{sound_maps, exchanged_maps}
use Rattle.model.proofs.Laws.Tests.{either_way, by_test}

-- ---- what a list holds after a store

pub after_set : (P : ℕ → Type 0) (l : List ℕ) (i j b : ℕ) → i < length l → (j ≡ i → P b) → (j ≢ i → P (get_or l j 0)) → P (get_or (set l i b) j 0)
after_set P l i j b h here there = choose (ℕ_discrete j i)
  where
    choose : Dec (j ≡ i) → P (get_or (set l i b) j 0)
    choose (yes e) = let v : get_or (set l i b) j 0 ≡ b = ap (λ (m : ℕ). get_or (set l i b) m 0) e ∙ get_or-set_same l i b 0 h in rw v (here e)
    choose (no e) = rw (get_or-set_other l i j b 0 e) (there e)

-- ---- the centre, and the flags

module _ (c : Chain) (h : Sound c) where
  pub center_sound : (at : Option ℕ) → ((k : ℕ) → at ≡ Some k → k < c.num_qubits) → Sound (with_center c at)
  center_sound at l = record {
    settings = h.settings;
    high_water = h.high_water;
    bonds = h.bonds;
    sites = h.sites;
    qubits = h.qubits;
    centre = l;
    past_last_bond = h.past_last_bond;
    sizes = record { lefts = h.sizes.lefts; rights = h.sizes.rights; sites = h.sizes.sites; qubits = h.sizes.qubits; bits = h.sizes.bits; by_bond = h.sizes.by_bond };
  }

  pub bits_sound : (bits : List Bool) → length bits ≡ 64 → Sound (with_bits c bits)
  bits_sound bits l = record {
    settings = h.settings;
    high_water = h.high_water;
    bonds = h.bonds;
    sites = h.sites;
    qubits = h.qubits;
    centre = h.centre;
    past_last_bond = h.past_last_bond;
    sizes = record { lefts = h.sizes.lefts; rights = h.sizes.rights; sites = h.sizes.sites; qubits = h.sizes.qubits; bits = l; by_bond = h.sizes.by_bond };
  }

-- ---- what a cut of the bond between k and k + 1 records

-- the widest bond raised, and the discarded weights with the shares; those past the last bond are not touched
pub recorded_sound : (c : Chain) → Sound c → (k chi : ℕ) (shares : List Float) → k + 1 < c.num_qubits → chi ≤ c.max_bond_dim → Sound (cut_recorded k chi shares c)
recorded_sound c h k chi shares inside most = record {
  settings = h.settings;
  high_water = (omega (arith, h.high_water.0), omega (arith, h.high_water.1));
  bonds = record {
    first = h.bonds.first;
    last = h.bonds.last;
    neighbours = h.bonds.neighbours;
    left_range = λ i below. ((h.bonds.left_range i below).0, omega (arith, (h.bonds.left_range i below).1));
    right_range = λ i below. ((h.bonds.right_range i below).0, omega (arith, (h.bonds.right_range i below).1));
    left_past = h.bonds.left_past;
    right_past = h.bonds.right_past;
  };
  sites = h.sites;
  qubits = h.qubits;
  centre = h.centre;
  past_last_bond = λ j l m. ap (to_bits binary64) (get_or-set_other c.bond_discarded k j _ nan (omega arith)) ∙ h.past_last_bond j l m;
  sizes = record {
    lefts = h.sizes.lefts;
    rights = h.sizes.rights;
    sites = h.sizes.sites;
    qubits = h.sizes.qubits;
    bits = h.sizes.bits;
    by_bond = rw length-set h.sizes.by_bond;
  };
}

-- ---- the bond between two sites of the chain

module _ (n high : ℕ) (left right : List ℕ) (h : Bonds n high left right) (ll : n ≤ length left) (lr : n ≤ length right) (k : ℕ) (inside : k + 1 < n) (bond : ℕ) (range : (1 ≤ bond) × (bond ≤ high)) where
  abbrev InRange : ℕ → Type 0
  InRange x = (1 ≤ x) × (x ≤ high)

  bond_set : Bonds n high (set left (k + 1) bond) (set right k bond)
  bond_set = record {
    first = get_or-set_other left (k + 1) 0 bond 0 (omega arith) ∙ h.first;
    last = get_or-set_other right k (n - 1) bond 0 (omega arith) ∙ h.last;
    neighbours = λ i l. after_set (λ (x : ℕ). x ≡ get_or (set left (k + 1) bond) (i + 1) 0) right k i bond (omega arith)
        (λ e. after_set (λ (x : ℕ). bond ≡ x) left (k + 1) (i + 1) bond (omega arith) (λ e'. refl) (λ e'. absurd (omega arith)))
        (λ e. sym (get_or-set_other left (k + 1) (i + 1) bond 0 (omega arith) ∙ sym (h.neighbours i l)));
    left_range = λ i l. after_set InRange left (k + 1) i bond (omega arith) (λ e. range) (λ e. h.left_range i l);
    right_range = λ i l. after_set InRange right k i bond (omega arith) (λ e. range) (λ e. h.right_range i l);
    left_past = λ i l. get_or-set_other left (k + 1) i bond 0 (omega arith) ∙ h.left_past i l;
    right_past = λ i l. get_or-set_other right k i bond 0 (omega arith) ∙ h.right_past i l;
  }

pub bond_sound : (c : Chain) → Sound c → (k bond : ℕ) → k + 1 < c.num_qubits → 1 ≤ bond → bond ≤ c.bond_high_water → Sound (with_bond c k bond)
bond_sound c h k bond inside low high = record {
  settings = h.settings;
  high_water = h.high_water;
  bonds = bond_set c.num_qubits c.bond_high_water c.bond_left c.bond_right h.bonds (omega arith) (omega arith) k inside bond (low, high);
  sites = h.sites;
  qubits = h.qubits;
  centre = h.centre;
  past_last_bond = h.past_last_bond;
  sizes = record { lefts = rw length-set h.sizes.lefts; rights = rw length-set h.sizes.rights; sites = h.sizes.sites; qubits = h.sizes.qubits; bits = h.sizes.bits; by_bond = h.sizes.by_bond };
}

-- ---- the labels of two neighbours exchanged

pub relabelled_sound : (c : Chain) → Sound c → (k : ℕ) → k + 1 < c.num_qubits → Sound (relabelled k c)
relabelled_sound c h k inside =
    let x = exchanged_maps c.num_qubits (labels_of c) (sound_maps c h) k inside in
    record {
      settings = h.settings;
      high_water = h.high_water;
      bonds = h.bonds;
      sites = x.sites;
      qubits = x.qubits;
      centre = h.centre;
      past_last_bond = h.past_last_bond;
      sizes = record {
        lefts = h.sizes.lefts;
        rights = h.sizes.rights;
        sites = rw (length-set, length-set) h.sizes.sites;
        qubits = rw (length-set, length-set) h.sizes.qubits;
        bits = h.sizes.bits;
        by_bond = h.sizes.by_bond;
      };
    }

-- ---- the QR factoring

-- a column is kept only where there is room for it
kept_of_rank : (high wide cap j : ℕ) (norm : Float) (r : ℕ) (x : Passed) → r ≤ cap → (kept_of high wide cap j norm r x).rank ≤ cap
unfolding kept_of
kept_of_rank high wide cap j norm r x h =
    by_test (λ (k : Kept). k.rank ≤ cap) (ltb r cap && lt (mul binary64 rank_tolerance norm) x.residual) _ _
    (λ e. let l = ltb→lt r cap (and_l (ltb r cap) _ (subst T (sym e) tt)) in omega arith) (λ e. h)

module _ (high : ℕ) (k : Kept) where
  raised_least : 1 ≤ (raised high k).rank
  unfolding raised
  raised_least = by_test (λ (x : Kept). 1 ≤ x.rank) (eqb k.rank 0) _ _ (λ e. omega arith) (λ e. let some = eqb-false k.rank 0 e in omega arith)

  raised_most : (room : ℕ) → 1 ≤ room → k.rank ≤ room → (raised high k).rank ≤ room
  unfolding raised
  raised_most room some h = either_way (λ (x : Kept). x.rank ≤ room) (eqb k.rank 0) _ _ some h

module _ (high wide : ℕ) (a : List Float) where
  pub qr_rank_least : 1 ≤ (qr high wide a).rank
  unfolding qr
  qr_rank_least = raised_least high _

  pub qr_rank_most : 1 ≤ high → 1 ≤ wide → (qr high wide a).rank ≤ min high wide
  unfolding qr column_of
  qr_rank_most tall broad =
      raised_most high _ (min high wide) (omega arith)
      (each_keeps (λ (k : Kept). k.rank ≤ min high wide) wide (column_of high wide (min high wide))
      (λ j k l h. kept_of_rank high wide (min high wide) j _ k.rank _ h) _ (omega arith))

-- ---- a cut

module _ (epsilon : Float) (cap : ℕ) (s : List Float) where
  pub cut_rank_least : 1 ≤ cap → 1 ≤ rank epsilon cap s
  unfolding rank
  cut_rank_least h = omega arith

  pub cut_rank_most : rank epsilon cap s ≤ cap
  unfolding rank
  cut_rank_most = omega arith
