-- A pair of neighbours: room to cut it, and the record after the cut.
use Rattle.std.specs.Prelude.{ℕ, ◌+◌, ◌*◌, ◌%◌, ◌^◌, ◌≤◌, ◌<◌, min, ◌≡◌, List, ltb, length, Float, Option}
use Rattle.std.proofs.Common.{ap, sym, ◌∙◌, mul-le-mul, mod-eq_of_lt, arith, le-ltb}
use Rattle.std.proofs.Math.Nat.{min-eq_right, pow-le-pow_right}
use Rattle.std.proofs.Math.Decide.{dec_lt}
use Rattle.complex.specs.Numbers.{count}
use Rattle.complex.specs.Parts.{put}
use Rattle.model.specs.declared.Chain.{Chain}
use Rattle.model.specs.Chain.{with_center, with_bond}
use Rattle.model.specs.Cut.{cut_recorded}
use Rattle.model.specs.Truncation.{workspace}
use Rattle.model.specs.Slots.{slot_room, slot_of}
use Rattle.model.proofs.Laws.SoundChanges.{center_sound, bond_sound, recorded_sound}
use Rattle.cutting.specs.Shape.{shape_of, room, room_fits}
use Rattle.model.specs.declared.Bonds.{Bonds}
use Rattle.moves.specs.Bonds.{Bytes}
use Rattle.moves.specs.Ready.{Ready}
use Rattle.moves.specs.Steps.{Pair, first_slot, second_slot, second_after}

-- the bond, the widest bond so far, the weights discarded so far, the chain's and the bond's, with a cut's shares added, and the centre
abbrev pub recorded_cut : Chain → ℕ → ℕ → List Float → Option ℕ → Chain
recorded_cut c k chi shares at = with_center (cut_recorded k chi shares (with_bond c k chi)) at

-- the record r after a cut that keeps chi values is ready for the next, with the store as written
pub cut_ready : (c r : Chain) (store out work : List Float) (k chi : ℕ) (shares : List Float) → Ready c store work → k + 1 < c.num_qubits → 1 ≤ chi → chi ≤ c.max_bond_dim
    → r ≡ recorded_cut c k chi shares c.center → length out ≡ length store → Ready r out work
cut_ready c r store out work k chi shares h l least most e n =
    let x = recorded_sound c h.sound k chi shares l most in
    let y = bond_sound (cut_recorded k chi shares c) x k chi l least (omega arith) in
    let z = center_sound (with_bond (cut_recorded k chi shares c) k chi) y c.center h.sound.centre in
    record { sound = rw e z; store_room_lem = rw (e, n) h.store_room_lem; work_room_lem = rw e h.work_room_lem }

-- the numbers that a cut of these bonds works in
abbrev needed : Bonds → ℕ
needed b = workspace b.left b.mid b.right

-- the products that they are made of, where the bonds are bytes
pub products_most : (b : Bonds) → Bytes b → (b.left * b.right ≤ 65025) × (b.mid * b.right ≤ 65025)
products_most b h = (mul-le-mul h.left h.right, mul-le-mul h.mid h.right)

-- so they are below 2 ^ 63, and 2 to the exponent can be cut off there: the machine can shift no further
pub shifted : (e m : ℕ) (b : Bonds) → m ≡ min e 63 → Bytes b → ltb (1 * 2 ^ m % 18446744073709551616) (needed b) ≡ ltb (2 ^ e) (needed b)
shifted e m b em h =
    let below : min e 63 ≤ 63 = omega arith in
    let most : 2 ^ min e 63 ≤ 2 ^ 63 = pow-le-pow_right {n = 2} (omega arith) below in
    rw em (ap (λ (x : ℕ). ltb x (needed b)) (mod-eq_of_lt (omega arith) ∙ omega arith) ∙ either (dec_lt e 63))
  where
    either : Dec (e < 63) → ltb (2 ^ min e 63) (needed b) ≡ ltb (2 ^ e) (needed b)
    either (yes m) = ap (λ (x : ℕ). ltb (2 ^ x) (needed b)) (omega arith)
    either (no m) =
        let past : 63 ≤ e = omega arith in
        let more : 2 ^ 63 ≤ 2 ^ e = pow-le-pow_right {n = 2} (omega arith) past in
        let l : needed b ≤ 2 ^ 63 = omega (arith, products_most b h) in
        rw (min-eq_right past) (le-ltb (2 ^ 63) (needed b) l ∙ sym (le-ltb (2 ^ e) (needed b) (omega arith)))

module _ (d k bl mid br : ℕ) (store work : List Float) (p : Pair d k bl mid br store work) where
  -- another bond within the cap between them, and a work slice of the same length
  pub pair_with : (after : List Float) (bond : ℕ) → length after ≡ length work → 1 ≤ bond → bond ≤ d → Pair d k bl bond br store after
  pair_with after bond e l m = record {
    cap = p.cap;
    place = p.place;
    left = p.left;
    middle = record { least = l; most = m };
    right = p.right;
    store_room_lem = p.store_room_lem;
    work_room_lem = rw e p.work_room_lem;
  }

  pub work_enough : room (shape_of bl br) ≤ length work
  work_enough = omega (arith, room_fits bl br d p.left.most p.right.most, p.work_room_lem)

  -- the sites are within their slots
  pub left_numbers : bl * (2 * mid) ≤ count (slot_of d k store)
  left_numbers = omega (arith, first_slot d k store p.store_room_lem, mul-le-mul p.left.most p.middle.most)

  pub right_numbers : mid * (2 * br) ≤ count (slot_of d (k + 1) store)
  right_numbers = omega (arith, second_slot d k store p.store_room_lem, mul-le-mul p.middle.most p.right.most)

  pub left_fits : 2 * (2 * bl * mid) ≤ length (slot_of d k store)
  left_fits = omega (arith, first_slot d k store p.store_room_lem, mul-le-mul p.left.most p.middle.most)

  -- the right one also after the left one is written
  pub right_fits : (ys : List Float) → length ys ≡ length (slot_of d k store) → 2 * (mid * (2 * br)) ≤ length (slot_of d (k + 1) (put (k * slot_room d) (k * slot_room d + slot_room d) store ys))
  right_fits ys l = omega (arith, second_after d k store p.store_room_lem ys l, mul-le-mul p.middle.most p.right.most)
