-- Room for one step, and what it leaves in the two slots.
use Rattle.std.specs.Prelude.{ℕ, ◌+◌, ◌*◌, ◌≤◌, ◌<◌, min, ◌≡◌, List, ◌++◌, length, take, drop, Float}
use Rattle.std.proofs.Common.{ap, ◌∙◌, mul-le-mul, mul-le-mul_right, le_refl, le_trans, arith, length-append, length-drop, length-take-le, take_at, take-take, Fits}
use Rattle.std.proofs.Math.Nat.{min-le_right}
use Rattle.std.specs.Int.{w64}
use Rattle.complex.specs.Complex.{conj_c}
use Rattle.complex.specs.Numbers.{count}
use Rattle.complex.specs.Parts.{part, put, length_part, length_put}
use Rattle.model.specs.Slots.{slot_room, slot_of, work_room, filled, with_site}
use Rattle.model.specs.Qr.{Kept, kept, qr}
use Rattle.model.specs.Pair.{isometry_site, vt_site}
use Rattle.gauge.specs.Copies.{absorbed_right_copy, absorbed_left_copy}
use Rattle.model.specs.Moves.{q_at, right_matrix, left_matrix, absorbed_right, absorbed_left}
use Rattle.moves.specs.declared.Slots.{Slots}

-- ---- room

-- the floats that the factored list of a matrix takes
abbrev pub factored_room : ℕ → ℕ → ℕ
factored_room high cols = 2 * (cols * high + min high cols * cols)

-- a bond within the cap d
pub record Bond (d b : ℕ) : Type 0 where
  pub least : 1 ≤ b
  pub most : b ≤ d

-- two neighbours, k and k + 1, of bonds bl, bond and br within the cap d, and room for a step between them
pub record Pair (d k bl bond br : ℕ) (store work : List Float) : Type 0 where
  pub cap : d ≤ 128
  pub place : k < 64
  pub left : Bond d bl
  pub middle : Bond d bond
  pub right : Bond d br
  pub store_room_lem : (k + 1) * slot_room d + slot_room d ≤ length store
  pub work_room_lem : work_room d ≤ length work

-- the site of bonds a and b is within a slot
site_fits : {d a b : ℕ} → Bond d a → Bond d b → 4 * (a * b) ≤ slot_room d
site_fits ha hb = omega (arith, mul-le-mul ha.most hb.most)

-- the factored list of a site of bonds a and b, and a neighbour of bonds b and e, are within the work slice
work_fits : {d a b e : ℕ} → Bond d a → Bond d b → Bond d e → factored_room (2 * a) b + 4 * (b * e) ≤ work_room d
work_fits {d} {a} {b} {e} ha hb he =
    let m : min (2 * a) b ≤ d = omega (arith, hb.most) in
    omega (arith, mul-le-mul hb.most ha.most, mul-le-mul m hb.most, mul-le-mul hb.most he.most)

-- The factors of a site of bonds a and b, of which chi columns are kept, in the first q floats, and the neighbour, of bonds b and e:
-- what is read of q and r is within those floats, what is written is within a slot, and the neighbour's copy is within the work slice.
record FactorsFit (d a b e chi q : ℕ) (work : List Float) : Type 0 where
  rank_most : chi ≤ 128
  columns_in : chi * (2 * a) ≤ count (take q work)
  rows_in : b * (2 * a) + chi * b ≤ count (take q work)
  site_in : 4 * (a * chi) ≤ slot_room d
  neighbour_in : 4 * (chi * e) ≤ slot_room d
  copy_in : q + 4 * (b * e) ≤ length work

factors_fit : {d a b e chi q : ℕ} (work : List Float) → d ≤ 128 → Bond d a → Bond d b → Bond d e → chi ≤ min (2 * a) b → q ≡ factored_room (2 * a) b → work_room d ≤ length work → FactorsFit d a b e chi q work
factors_fit {d} {a} {b} {e} {chi} {q} work cap ha hb he h eq room =
    let narrow : chi ≤ b = omega arith in
    let most : chi ≤ d = omega (arith, hb.most) in
    let copy : q + 4 * (b * e) ≤ length work = omega (arith, work_fits ha hb he) in
    let front : length (take q work) ≡ q = length-take-le q work (omega arith) in
    record {
      rank_most = omega arith;
      columns_in = rw front (omega (arith, mul-le-mul_right (2 * a) narrow));
      rows_in = rw front (omega (arith, mul-le-mul_right b h));
      site_in = omega (arith, mul-le-mul ha.most most);
      neighbour_in = omega (arith, mul-le-mul most he.most);
      copy_in = copy;
    }

-- ---- two neighbouring slots

-- r says where the slots of the sites k and k + 1 begin and end, under the cap d
pub record SlotsOf (d k : ℕ) (r : Slots) : Type 0 where
  pub left : r.left ≡ k * slot_room d
  pub left_end : r.left_end ≡ k * slot_room d + slot_room d
  pub right : r.right ≡ (k + 1) * slot_room d
  pub right_end : r.right_end ≡ (k + 1) * slot_room d + slot_room d

module _ (d k : ℕ) (store : List Float) (room : (k + 1) * slot_room d + slot_room d ≤ length store) where
  pub first_slot : length (slot_of d k store) ≡ slot_room d
  first_slot = length_part (k * slot_room d) (k * slot_room d + slot_room d) store (omega arith) (omega arith) ∙ omega arith

  pub second_slot : length (slot_of d (k + 1) store) ≡ slot_room d
  second_slot = length_part ((k + 1) * slot_room d) ((k + 1) * slot_room d + slot_room d) store (omega arith) room ∙ omega arith

  abbrev first_put : List Float → List Float
  first_put ys = put (k * slot_room d) (k * slot_room d + slot_room d) store ys

  module _ (ys : List Float) (l : length ys ≡ length (slot_of d k store)) where
    pub first_kept : length (first_put ys) ≡ length store
    first_kept = length_put (k * slot_room d) (k * slot_room d + slot_room d) store (omega arith) (omega arith) ys (l ∙ first_slot ∙ omega arith)

    pub second_after : length (slot_of d (k + 1) (first_put ys)) ≡ slot_room d
    second_after = length_part ((k + 1) * slot_room d) ((k + 1) * slot_room d + slot_room d) (first_put ys) (omega arith) (omega (arith, first_kept)) ∙ omega arith

    pub second_in : (k + 1) * slot_room d + slot_room d ≤ length (first_put ys)
    second_in = rw first_kept room

    pub second_kept : (zs : List Float) → length zs ≡ length (slot_of d (k + 1) (first_put ys)) → length (put ((k + 1) * slot_room d) ((k + 1) * slot_room d + slot_room d) (first_put ys) zs) ≡ length store
    second_kept zs n = length_put ((k + 1) * slot_room d) ((k + 1) * slot_room d + slot_room d) (first_put ys) (omega arith) (omega (arith, first_kept)) zs (n ∙ second_after ∙ omega arith) ∙ first_kept

    -- both written, each filled up
    pub pair_written : (zs u v : List Float) → ys ≡ filled (length (slot_of d k store)) u → zs ≡ filled (length (slot_of d (k + 1) (first_put ys))) v
        → put ((k + 1) * slot_room d) ((k + 1) * slot_room d + slot_room d) (first_put ys) zs ≡ with_site d (k + 1) v (with_site d k u store)
    pair_written zs u v ey ez =
        let z : zs ≡ filled (slot_room d) v = ez ∙ ap (λ (n : ℕ). filled n v) second_after in
        let y : ys ≡ filled (slot_room d) u = ey ∙ ap (λ (n : ℕ). filled n u) first_slot in
        ap (λ (t : List Float). put ((k + 1) * slot_room d) ((k + 1) * slot_room d + slot_room d) (first_put ys) t) z
        ∙ ap (λ (t : List Float). put ((k + 1) * slot_room d) ((k + 1) * slot_room d + slot_room d) (first_put t) (filled (slot_room d) v)) y

-- ---- what the calls of a step ask for

module _ {d k bl bond br : ℕ} {store work : List Float} (p : Pair d k bl bond br store work) where
  pub same_room : (out : List Float) → length out ≡ length work → Pair d k bl bond br store out
  same_room out l = record { cap = p.cap; place = p.place; left = p.left; middle = p.middle; right = p.right; store_room_lem = p.store_room_lem; work_room_lem = rw l p.work_room_lem }

  -- the site as a matrix, factored, and the neighbour's copy behind it
  pub right_factored : (0 < bl) × (bl ≤ 128) × (0 < bond) × (bond ≤ 128) × (2 * bl * bond ≤ count (slot_of d k store)) × (factored_room (2 * bl) bond ≤ length work)
  right_factored = (p.left.least, omega arith, p.middle.least, omega arith, rw (first_slot d k store p.store_room_lem) (omega (arith, site_fits p.left p.middle)), omega (arith, work_fits p.left p.middle p.right))

  pub left_factored : (0 < bond) × (bond ≤ 128) × (0 < br) × (br ≤ 128) × (2 * bond * br ≤ count (slot_of d (k + 1) store)) × (factored_room (2 * br) bond ≤ length work)
  left_factored = (p.middle.least, omega arith, p.right.least, omega arith, rw (second_slot d k store p.store_room_lem) (omega (arith, site_fits p.middle p.right)), omega (arith, work_fits p.right p.middle p.left))

  pub right_sizes : Fits w64 (2 * br) × Fits w64 (bond * (2 * br)) × Fits w64 (2 * (bond * (2 * br)))
  right_sizes = let h = mul-le-mul p.middle.most p.right.most in let g = mul-le-mul p.cap p.cap in (omega arith, omega arith, omega arith)

  pub left_sizes : Fits w64 (2 * bl) × Fits w64 (2 * bl * bond) × Fits w64 (2 * (2 * bl * bond))
  left_sizes = let h = mul-le-mul p.left.most p.middle.most in let g = mul-le-mul p.cap p.cap in (omega arith, omega arith, omega arith)

  module _ {q : ℕ} where
    pub right_copied : q ≡ factored_room (2 * bl) bond → (2 * (bond * (2 * br)) ≤ length (slot_of d (k + 1) store)) × (q + 2 * (bond * (2 * br)) ≤ length work)
    right_copied e = (rw (second_slot d k store p.store_room_lem) (omega (arith, site_fits p.middle p.right)), omega (arith, work_fits p.left p.middle p.right))

    pub left_copied : q ≡ factored_room (2 * br) bond → (2 * (2 * bl * bond) ≤ length (slot_of d k store)) × (q + 2 * (2 * bl * bond) ≤ length work)
    left_copied e = (rw (first_slot d k store p.store_room_lem) (omega (arith, site_fits p.left p.middle)), omega (arith, work_fits p.right p.middle p.left))

  -- both sites written, of the kept columns and the copy
  module _ {chi q : ℕ} (h : chi ≤ min (2 * bl) bond) (e : q ≡ factored_room (2 * bl) bond) where
    fits_right : FactorsFit d bl bond br chi q work
    fits_right = factors_fit work p.cap p.left p.middle p.right h e p.work_room_lem

    pub right_filled : (bl ≤ 128) × (chi ≤ 256) × (2 * (2 * bl * chi) ≤ length (slot_of d k store)) × (2 * bl ≤ 2 * bl) × (chi * (2 * bl) ≤ count (take q work))
    right_filled = let z = fits_right in (omega arith, omega (arith, z.rank_most), rw (first_slot d k store p.store_room_lem) (omega (arith, z.site_in)), le_refl _, z.columns_in)

    pub right_absorbed : (ys : List Float) → length ys ≡ length (slot_of d k store)
        → ((bl ≤ 128) × (bond ≤ 128) × (br ≤ 128) × (chi ≤ 128)) × ((bond * (2 * bl) + chi * bond ≤ count (take q work)) × (bond * (2 * br) ≤ count (part q (q + 2 * (bond * (2 * br))) work)) × (2 * (chi * (2 * br)) ≤ length (slot_of d (k + 1) (first_put d k store p.store_room_lem ys))))
    right_absorbed ys l =
        let z = fits_right in
        ((omega arith, omega arith, omega arith, z.rank_most), (z.rows_in, rw (length_part q (q + 2 * (bond * (2 * br))) work (omega arith) (omega (arith, z.copy_in))) (omega arith), rw (second_after d k store p.store_room_lem ys l) (omega (arith, z.neighbour_in))))

  module _ {chi q : ℕ} (h : chi ≤ min (2 * br) bond) (e : q ≡ factored_room (2 * br) bond) where
    fits_left : FactorsFit d br bond bl chi q work
    fits_left = factors_fit work p.cap p.right p.middle p.left h e p.work_room_lem

    pub left_absorbed : ((bl ≤ 128) × (bond ≤ 128) × (br ≤ 128) × (chi ≤ 128)) × ((bond * (2 * br) + chi * bond ≤ count (take q work)) × (2 * bl * bond ≤ count (part q (q + 2 * (2 * bl * bond)) work)) × (2 * (2 * bl * chi) ≤ length (slot_of d k store)))
    left_absorbed =
        let z = fits_left in
        ((omega arith, omega arith, omega arith, z.rank_most), (z.rows_in, rw (length_part q (q + 2 * (2 * bl * bond)) work (omega arith) (omega (arith, z.copy_in))) (omega arith), rw (first_slot d k store p.store_room_lem) (omega (arith, z.neighbour_in))))

    pub left_filled : (ys : List Float) → length ys ≡ length (slot_of d k store)
        → (chi ≤ 256) × (br ≤ 128) × (2 * (chi * (2 * br)) ≤ length (slot_of d (k + 1) (first_put d k store p.store_room_lem ys))) × (2 * br ≤ 2 * br) × (chi * (2 * br) ≤ count (take q work))
    left_filled ys l = let z = fits_left in (omega (arith, z.rank_most), omega arith, rw (second_after d k store p.store_room_lem ys l) (omega (arith, z.site_in)), le_refl _, z.columns_in)

-- ---- the factored list at the front of the work slice

pub front_length : (m : ℕ) (mat w : List Float) → m ≤ length w → length mat ≡ length (take m w) → length (mat ++ drop m w) ≡ length w
front_length m mat w h l = simp (length-append, length-drop) (omega (arith, length-take-le m w h))

-- a list of m floats is written at the front of w, then the first q floats are factored in place
pub front_factored : (f : List Float → Kept) (r m q room : ℕ) (mat w out : List Float) → q ≡ room → m ≤ q → length mat ≡ m → length out ≡ q
    → kept r out ≡ f (take m (take q (mat ++ drop m w))) → kept r (take room (out ++ drop q (mat ++ drop m w))) ≡ f mat
front_factored f r m q room mat w out e h l n t =
    ap (kept r) (take_at out (drop q (mat ++ drop m w)) room (n ∙ e)) ∙ t ∙ ap f (take-take m q (mat ++ drop m w) h ∙ take_at mat (drop m w) m l)

-- ---- the two slots after a step

abbrev pub factors_right : ℕ → ℕ → ℕ → ℕ → List Float → Kept
factors_right d k bl bond store = qr (2 * bl) bond (right_matrix bl bond (slot_of d k store))

abbrev pub factors_left : ℕ → ℕ → ℕ → ℕ → List Float → Kept
factors_left d k bond br store = qr (2 * br) bond (left_matrix bond br (slot_of d (k + 1) store))

abbrev pub stored_right : ℕ → ℕ → ℕ → ℕ → ℕ → Kept → List Float → List Float → List Float
stored_right d k bl bond br f next store = with_site d (k + 1) (absorbed_right bl bond br f next) (with_site d k (isometry_site bl f.rank (q_at (2 * bl) f)) store)

abbrev pub stored_left : ℕ → ℕ → ℕ → ℕ → ℕ → Kept → List Float → List Float → List Float
stored_left d k bl bond br f prev store = with_site d (k + 1) (vt_site f.rank br (λ g c. conj_c (q_at (2 * br) f c g))) (with_site d k (absorbed_left bl bond br f prev) store)

-- A step, from what its calls leave: w after the factoring, w' with the neighbour's copy behind it, and `out`, the store as written.
module _ (d k bl bond br chi q : ℕ) (w w' store out : List Float) (kept_front : take q w' ≡ take q w) where
  pub right_stepped : q ≡ factored_room (2 * bl) bond → chi ≤ min (2 * bl) bond → kept chi (take (factored_room (2 * bl) bond) w) ≡ factors_right d k bl bond store
      → part q (q + 2 * (bond * (2 * br))) w' ≡ take (2 * (bond * (2 * br))) (slot_of d (k + 1) store)
      → out ≡ stored_right d k bl bond br (kept chi (take q w')) (part q (q + 2 * (bond * (2 * br))) w') store
      → (chi ≡ (factors_right d k bl bond store).rank) × ((out ≡ stored_right d k bl bond br (factors_right d k bl bond store) (slot_of d (k + 1) store) store) × (chi ≤ bond))
  right_stepped e h f c o =
      let g = factors_right d k bl bond store in
      let same : kept chi (take q w') ≡ g = ap (kept chi) (kept_front ∙ ap (λ (j : ℕ). take j w) e) ∙ f in (
        ap (λ (x : Kept). x.rank) f,
        (
          o ∙ ap (λ (x : Kept). stored_right d k bl bond br x (part q (q + 2 * (bond * (2 * br))) w') store) same ∙ ap (λ (x : List Float). stored_right d k bl bond br g x store) c
              ∙ ap (λ (x : List Float). with_site d (k + 1) x (with_site d k (isometry_site bl g.rank (q_at (2 * bl) g)) store)) (absorbed_right_copy bl bond br _ g (slot_of d (k + 1) store) (le_refl _)),
          le_trans h (min-le_right (2 * bl) bond),
        ),
      )

  pub left_stepped : q ≡ factored_room (2 * br) bond → chi ≤ min (2 * br) bond → kept chi (take (factored_room (2 * br) bond) w) ≡ factors_left d k bond br store
      → part q (q + 2 * (2 * bl * bond)) w' ≡ take (2 * (2 * bl * bond)) (slot_of d k store)
      → out ≡ stored_left d k bl bond br (kept chi (take q w')) (part q (q + 2 * (2 * bl * bond)) w') store
      → (chi ≡ (factors_left d k bond br store).rank) × ((out ≡ stored_left d k bl bond br (factors_left d k bond br store) (slot_of d k store) store) × (chi ≤ bond))
  left_stepped e h f c o =
      let g = factors_left d k bond br store in
      let same : kept chi (take q w') ≡ g = ap (kept chi) (kept_front ∙ ap (λ (j : ℕ). take j w) e) ∙ f in (
        ap (λ (x : Kept). x.rank) f,
        (
          o ∙ ap (λ (x : Kept). stored_left d k bl bond br x (part q (q + 2 * (2 * bl * bond)) w') store) same ∙ ap (λ (x : List Float). stored_left d k bl bond br g x store) c
              ∙ ap (λ (x : List Float). with_site d (k + 1) (vt_site g.rank br (λ a b. conj_c (q_at (2 * br) g b a))) (with_site d k x store)) (absorbed_left_copy bl bond br _ g (slot_of d k store) (le_refl _)),
          le_trans h (min-le_right (2 * br) bond),
        ),
      )
