-- A fresh site's slot, and the slots of the first k sites written into a store.
use Rattle.std.specs.Prelude.{ℕ, suc, ◌+◌, ◌-◌, ◌*◌, ◌≤◌, ◌≡◌, List, [], ◌∷◌, set, replicate, Float}
use Rattle.std.proofs.Common.{ap, ◌∙◌, mul-le-mul}
use Rattle.std.proofs.Math.Nat.{zero-mul}
use native.Mathlib.Omega.{arith}
use Rattle.std.proofs.Math.ListN.{length}
use Rattle.std.proofs.lemmas.List.{length-replicate}
use Rattle.complex.specs.Complex.{zero_f, one_f}
use Rattle.complex.specs.Parts.{put, length_part}
use Rattle.complex.specs.Matrix.{block_none, block_more}
use Rattle.model.specs.Slots.{slot_room, slot_of, filled}
use Rattle.model.specs.Start.{fresh_store}

-- the amplitudes 1 and 0
abbrev pub amplitudes : List Float
amplitudes = one_f ∷ zero_f ∷ zero_f ∷ zero_f ∷ []

-- +0 everywhere but 1 at the first place
pub site_filled : (n : ℕ) → 4 ≤ n → set (replicate n zero_f) 0 one_f ≡ filled n amplitudes
unfolding filled
site_filled n h = let e : n ≡ suc (suc (suc (suc (n - 4)))) = omega arith in ap (λ (k : ℕ). set (replicate k zero_f) 0 one_f) e

length_site : (n : ℕ) → 4 ≤ n → length (filled n amplitudes) ≡ n
unfolding filled
length_site n h = rw length-replicate (omega arith)

-- ---- a slot of the store

pub slot_least : (d : ℕ) → 1 ≤ d → 4 ≤ 4 * d * d
slot_least d h = let s : 1 * 1 ≤ d * d = mul-le-mul h h in omega (arith, s)

-- ---- the store after k sites

module _ (d : ℕ) (h : 1 ≤ d) (o : List Float) where
  abbrev site : ℕ → List Float
  site k = filled (slot_room d) amplitudes

  pub none_fresh : o ≡ fresh_store 0 d o
  unfolding fresh_store
  none_fresh = rw zero-mul (block_none site o)

  pub more_fresh : (store slot : List Float) (k : ℕ) → store ≡ fresh_store k d o → length store ≡ length o → k * slot_room d + slot_room d ≤ length o → slot ≡ filled (length (slot_of d k store)) amplitudes
      → put (k * slot_room d) (k * slot_room d + slot_room d) store slot ≡ fresh_store (k + 1) d o
  unfolding fresh_store
  more_fresh store slot k w n l e =
      let p : length (slot_of d k store) ≡ slot_room d = length_part (k * slot_room d) (k * slot_room d + slot_room d) store (omega arith) (omega arith) ∙ omega arith in
      rw (e, p, w) (block_more (slot_room d) site (λ _. length_site (slot_room d) (slot_least d h)) k o l)
