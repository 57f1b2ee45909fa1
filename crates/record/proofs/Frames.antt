-- Laws of the records of an input: of a record's size, and of the records one behind the other.
use Rattle.std.specs.Prelude.{◌≡◌, Bool, ◌||◌, List, [], ◌∷◌, ◌++◌, ℕ, zero, suc, ◌+◌, ◌≤◌, ◌<◌, T, eqb, leb, length}
use Rattle.std.proofs.Math.Path.{refl, ap}
use Rattle.std.proofs.Common.{sym, subst, ◌∙◌, eqb-true, leb-true, leb-false, length-append, drop_of_length-le, take_at, drop_at}
use Rattle.std.proofs.Math.Bool.{true, false}
use native.Mathlib.Omega.{arith}
use Rattle.std.proofs.Math.ListN.{take, drop, length-drop}
use Rattle.std.proofs.Math.Seq.{take_all}
use Rattle.std.proofs.lemmas.List.{take-append-le}
use Rattle.bytes_le.specs.Value.{value}
use Rattle.record.specs.Layout.{body_size, some_kind, has_length, more_bytes, more_some, more_none, body_size_small}
use Rattle.record.specs.Reading as reading
use Rattle.record.specs.Reading.{length_of, read_of, turned_away, no_such_length}
use Rattle.record.specs.Frames.{record_size, frames_in, frames, whole}

-- ---- laws of a record's size

some_size : (k size : ℕ) → some_kind k size ≡ true → size ≤ 260
some_size zero size e = absurd (subst T (sym e) tt)
some_size (suc k) size e = by (some_kind k size) (some_size k size) (eqb size (2 + body_size (suc k))) refl e
  where
    by : (a : Bool) → (a ≡ true → size ≤ 260) → (b : Bool) → eqb size (2 + body_size (suc k)) ≡ b → (a || b) ≡ true → size ≤ 260
    by true less b eb e = less refl
    by false less true eb e = omega (arith, eqb-true size (2 + body_size (suc k)) eb, body_size_small (suc k))
    by false less false eb e = absurd (subst T (sym e) tt)

module _ (bytes : List ℕ) where
  pub size_two : 2 ≤ record_size bytes
  unfolding record_size
  size_two = omega arith

  -- the longest record is a gate's
  pub size_small : record_size bytes ≤ 262
  unfolding record_size has_length
  size_small = by (has_length (length_of bytes)) refl
    where
      by : (t : Bool) → has_length (length_of bytes) ≡ t → 2 + more_bytes (length_of bytes) ≤ 262
      by true h = omega (arith, more_some (length_of bytes) h, some_size 6 (length_of bytes) h)
      by false h = omega (arith, more_none (length_of bytes) h)

  pub size_front : (more : List ℕ) → 2 ≤ length bytes → record_size (bytes ++ more) ≡ record_size bytes
  unfolding record_size
  size_front more h = ap (λ xs. 2 + more_bytes (value xs)) (take-append-le 2 bytes more h)

pub not_whole : (bytes : List ℕ) → whole bytes ≡ false → length bytes < record_size bytes
unfolding whole
not_whole bytes w = leb-false (record_size bytes) (length bytes) w

-- a record that is not whole does not read
pub cut_off : (bytes : List ℕ) → whole bytes ≡ false → turned_away ≡ read_of bytes
unfolding record_size
cut_off bytes w = by (has_length (length_of bytes)) refl
  where
    by : (t : Bool) → has_length (length_of bytes) ≡ t → turned_away ≡ read_of bytes
    by true h = reading.cut_off bytes (omega (arith, not_whole bytes w, more_some (length_of bytes) h))
    by false h = no_such_length bytes (more_none (length_of bytes) h)

-- ---- laws of the records

more_than_enough : (k m : ℕ) (bytes : List ℕ) → length bytes ≤ k → length bytes ≤ m → frames_in k bytes ≡ frames_in m bytes
more_than_enough zero zero bytes h l = refl
more_than_enough zero (suc m) [] h l = refl
more_than_enough zero (suc m) (b ∷ bs) h l = absurd (omega arith)
more_than_enough (suc k) zero [] h l = refl
more_than_enough (suc k) zero (b ∷ bs) h l = absurd (omega arith)
more_than_enough (suc k) (suc m) [] h l = refl
more_than_enough (suc k) (suc m) (b ∷ bs) h l =
    let n = record_size (b ∷ bs) in
    let e = length-drop n (b ∷ bs) in
    ap (λ rs. take n (b ∷ bs) ∷ rs) (more_than_enough k m (drop n (b ∷ bs)) (omega (arith, e, size_two (b ∷ bs))) (omega (arith, e, size_two (b ∷ bs))))

module _ (b : ℕ) (bs : List ℕ) where
  -- the first, and those behind it
  frames_first : frames (b ∷ bs) ≡ take (record_size (b ∷ bs)) (b ∷ bs) ∷ frames (drop (record_size (b ∷ bs)) (b ∷ bs))
  unfolding frames
  frames_first =
      let n = record_size (b ∷ bs) in
      let rest = drop n (b ∷ bs) in
      ap (λ rs. take n (b ∷ bs) ∷ rs) (more_than_enough (length bs) (length rest) rest (omega (arith, length-drop n (b ∷ bs), size_two (b ∷ bs))) (omega arith))

  -- one that is cut off is the last
  pub frames_cut : length (b ∷ bs) < record_size (b ∷ bs) → frames (b ∷ bs) ≡ (b ∷ bs) ∷ []
  unfolding frames
  frames_cut h =
      let n = record_size (b ∷ bs) in
      frames_first ∙ (λ i. take_all n (b ∷ bs) (omega arith) i ∷ frames (drop_of_length-le (b ∷ bs) {i = n} (omega arith) i))

-- a record of its own size stands before the others
pub frames_record : (r rest : List ℕ) → record_size r ≡ length r → frames (r ++ rest) ≡ r ∷ frames rest
frames_record [] rest e = absurd (omega (arith, size_two []))
frames_record (b ∷ bs) rest e =
    let r = b ∷ bs in
    let n : length r ≡ record_size (r ++ rest) = sym (size_front r rest (omega (arith, size_two r)) ∙ e) in
    frames_first b (bs ++ rest) ∙ (λ i. take_at r rest (record_size (r ++ rest)) n i ∷ frames (drop_at r rest (record_size (r ++ rest)) n i))

-- the byte that makes a record whole is its last
pub whole_now : (p : List ℕ) (b : ℕ) → whole p ≡ false → whole (p ++ (b ∷ [])) ≡ true → record_size (p ++ (b ∷ [])) ≡ length (p ++ (b ∷ []))
unfolding whole
whole_now p b before now = by (leb 2 (length p)) refl
  where
    by : (t : Bool) → leb 2 (length p) ≡ t → record_size (p ++ (b ∷ [])) ≡ length (p ++ (b ∷ []))
    by true e = omega (arith, not_whole p before, leb-true (record_size (p ++ (b ∷ []))) (length (p ++ (b ∷ []))) now, length-append p (b ∷ []), size_front p (b ∷ []) (leb-true 2 (length p) e))
    by false e = omega (arith, leb-true (record_size (p ++ (b ∷ []))) (length (p ++ (b ∷ []))) now, length-append p (b ∷ []), leb-false 2 (length p) e, size_two (p ++ (b ∷ [])))
