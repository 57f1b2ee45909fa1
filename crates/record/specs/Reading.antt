-- Reading a run record: bytes begin at its length, and may end before it or go on past it.
use Rattle.std.specs.Prelude.{◌≡◌, Bool, true, false, ◌&&◌, cond, List, ℕ, ◌+◌, ◌≤◌, ◌<◌, eqb, leb, length, take, drop, Option, Some, None, is_some, Result, Ok, Err, is_ok, ok_or}
use Rattle.std.proofs.Math.Path.{refl, sym}
use Rattle.std.proofs.Common.{ap, subst, ◌∙◌, le_of_lt, arith, length-take-le, take_all}
use borrow.Author.Tests.{lt-leb, le-leb, ne_eqb, eq-eqb, leb-true, leb-false, eqb-true, eqb-false}
use Rattle.std.proofs.Math.Dec.{T}
use Rattle.complex.specs.Parts.{part}
use Rattle.bytes_le.specs.Value.{value}
use Rattle.record.specs.declared.Record.{Record}
use Rattle.record.specs.Layout.{body_size, has_length, more_bytes, more_some, kind_length, part_front}
use Rattle.record.specs.Fields.{record_in, valid, kind_of_record, valid_kind, record_kind, fields_front}

-- the length and the kind that a record begins with
abbrev pub length_of : List ℕ → ℕ
length_of bytes = value (part 0 2 bytes)

abbrev pub kind_of : List ℕ → ℕ
kind_of bytes = value (part 2 4 bytes)

-- whether a record can be taken: length and kind are there, the length is the kind's, as many bytes are there, and the bytes hold a record of the kind
unfoldable pub accepted : List ℕ → Bool
accepted bytes =
    leb 4 (length bytes) && (eqb (length_of bytes) (2 + body_size (kind_of bytes)) && (leb (2 + length_of bytes) (length bytes) && valid (kind_of bytes) bytes))

-- what is turned away is refused by 8
abbrev pub turned_away : Result Record ℕ
turned_away = Err 8

unfoldable pub read_of : List ℕ → Result Record ℕ
read_of bytes = cond (accepted bytes) (ok_or (record_in (kind_of bytes) bytes) 8) turned_away

-- what follows the record
abbrev pub next : List ℕ → List ℕ
next bytes = drop (2 + length_of bytes) bytes

-- ---- laws: a test that fails turns the bytes away

and_false : (a : Bool) → (a && false) ≡ false
and_false true = refl
and_false false = refl

module _ (bytes : List ℕ) where
  away : accepted bytes ≡ false → turned_away ≡ read_of bytes
  unfolding read_of
  away e = rw e

  pub short : length bytes < 4 → turned_away ≡ read_of bytes
  unfolding accepted
  short h = away (rw (lt-leb 4 (length bytes) h))

  pub wrong_length : (length_of bytes ≡ 2 + body_size (kind_of bytes) → ⊥) → turned_away ≡ read_of bytes
  unfolding accepted
  wrong_length h = away (rw (ne_eqb (length_of bytes) (2 + body_size (kind_of bytes)) h) (simp and_false))

  pub cut_off : length bytes < 2 + length_of bytes → turned_away ≡ read_of bytes
  unfolding accepted
  cut_off h = away (rw (lt-leb (2 + length_of bytes) (length bytes) h) (simp and_false))

  pub bad_fields : valid (kind_of bytes) bytes ≡ false → turned_away ≡ read_of bytes
  unfolding accepted
  bad_fields h = away (rw h (simp and_false))

  -- where length and kind are there and fit, what is read is the record that the bytes hold
  pub taken : 4 ≤ length bytes → length_of bytes ≡ 2 + body_size (kind_of bytes) → 2 + length_of bytes ≤ length bytes → ok_or (record_in (kind_of bytes) bytes) 8 ≡ read_of bytes
  unfolding accepted read_of
  taken a b c =
      rw (le-leb 4 (length bytes) a, eq-eqb (length_of bytes) (2 + body_size (kind_of bytes)) b, le-leb (2 + length_of bytes) (length bytes) c) (held (record_in (kind_of bytes) bytes))
    where
      held : (r : Option Record) → ok_or r 8 ≡ cond (is_some r) (ok_or r 8) turned_away
      held None = refl
      held (Some r) = refl

  -- bytes whose length is no kind's
  pub no_such_length : more_bytes (length_of bytes) ≡ 0 → turned_away ≡ read_of bytes
  no_such_length h = by (valid (kind_of bytes) bytes) refl
    where
      none : T (valid (kind_of bytes) bytes) → length_of bytes ≡ 2 + body_size (kind_of bytes) → ⊥
      none v l =
          let k = valid_kind (kind_of bytes) bytes v in
          omega (arith, l, sym (more_some (length_of bytes) (ap has_length l ∙ kind_length (kind_of bytes) k.0 k.1)) ∙ h)

      by : (t : Bool) → valid (kind_of bytes) bytes ≡ t → turned_away ≡ read_of bytes
      by true e = wrong_length (none (subst T (sym e) tt))
      by false e = bad_fields e

-- what is read is of the kind that stands in the bytes, one of the six
and_right : (a b : Bool) → (a && b) ≡ true → b ≡ true
and_right true b e = e
and_right false b e = absurd (subst T (sym e) tt)

accepted_valid : (bytes : List ℕ) → accepted bytes ≡ true → T (valid (kind_of bytes) bytes)
unfolding accepted
accepted_valid bytes e =
    let v = valid (kind_of bytes) bytes in
    let fits = leb (2 + length_of bytes) (length bytes) && v in
    let named = eqb (length_of bytes) (2 + body_size (kind_of bytes)) && fits in
    subst T (sym (and_right (leb (2 + length_of bytes) (length bytes)) v (and_right (eqb (length_of bytes) (2 + body_size (kind_of bytes))) fits (and_right (leb 4 (length bytes)) named e)))) tt

some_of_ok : {A : Type 0} (o : Option A) (k : ℕ) (x : A) → ok_or o k ≡ Ok x → o ≡ Some x
some_of_ok None k x e = cc
some_of_ok (Some y) k x e = cc

pub read_kind : (bytes : List ℕ) (r : Record) → read_of bytes ≡ Ok r → (kind_of_record r ≡ kind_of bytes) × (1 ≤ kind_of bytes) × (kind_of bytes ≤ 6)
unfolding read_of
read_kind bytes r e = by (accepted bytes) refl e
  where
    by : (t : Bool) → accepted bytes ≡ t → cond t (ok_or (record_in (kind_of bytes) bytes) 8) turned_away ≡ Ok r → (kind_of_record r ≡ kind_of bytes) × (1 ≤ kind_of bytes) × (kind_of bytes ≤ 6)
    by true a e = let k = valid_kind (kind_of bytes) bytes (accepted_valid bytes a) in (sym (record_kind (kind_of bytes) bytes r (some_of_ok (record_in (kind_of bytes) bytes) 8 r e)), k.0, k.1)
    by false a e = absurd (subst T (ap is_ok (sym e)) tt)

-- ---- what stands behind the record has no part in what is read

module _ (bytes : List ℕ) (more : 2 + length_of bytes ≤ length bytes) (room : 2 ≤ length_of bytes) where
  abbrev front : List ℕ
  front = take (2 + length_of bytes) bytes

  length_front : length front ≡ 2 + length_of bytes
  length_front = length-take-le (2 + length_of bytes) bytes more

  same_length : length_of front ≡ length_of bytes
  same_length = ap value (part_front 0 2 (2 + length_of bytes) bytes (omega arith) (omega arith))

  same_kind : kind_of front ≡ kind_of bytes
  same_kind = ap value (part_front 2 4 (2 + length_of bytes) bytes (omega arith) (omega arith))

  module _ (l : length_of bytes ≡ 2 + body_size (kind_of bytes)) where
    same_record : record_in (kind_of front) front ≡ record_in (kind_of bytes) bytes
    same_record = ap (λ k. record_in k front) same_kind ∙ fields_front (kind_of bytes) (2 + length_of bytes) bytes (omega (arith, l))

    same_reading : read_of front ≡ read_of bytes
    same_reading =
        sym (taken front (omega (arith, length_front)) (same_length ∙ l ∙ ap (λ k. 2 + body_size k) (sym same_kind)) (omega (arith, length_front, same_length)))
        ∙ ap (λ o. ok_or o 8) same_record
        ∙ taken bytes (omega arith) l more

  by_length : (t : Bool) → eqb (length_of bytes) (2 + body_size (kind_of bytes)) ≡ t → read_of front ≡ read_of bytes
  by_length true e = same_reading (eqb-true (length_of bytes) (2 + body_size (kind_of bytes)) e)
  by_length false e =
      let n = eqb-false (length_of bytes) (2 + body_size (kind_of bytes)) e in
      sym (wrong_length front (λ l. n (sym same_length ∙ l ∙ ap (λ k. 2 + body_size k) same_kind))) ∙ wrong_length bytes n

pub read_front : (bytes : List ℕ) → read_of (take (2 + length_of bytes) bytes) ≡ read_of bytes
read_front bytes = by (leb (2 + length_of bytes) (length bytes)) refl (leb 2 (length_of bytes)) refl
  where
    by : (s : Bool) → leb (2 + length_of bytes) (length bytes) ≡ s → (t : Bool) → leb 2 (length_of bytes) ≡ t → read_of (take (2 + length_of bytes) bytes) ≡ read_of bytes
    by false e t f = ap read_of (take_all (2 + length_of bytes) bytes (le_of_lt (leb-false (2 + length_of bytes) (length bytes) e)))
    by true e true f = by_length bytes (leb-true (2 + length_of bytes) (length bytes) e) (leb-true 2 (length_of bytes) f) (eqb (length_of bytes) (2 + body_size (kind_of bytes))) refl
    by true e false f =
        let s = leb-false 2 (length_of bytes) f in
        let k = length-take-le (2 + length_of bytes) bytes (leb-true (2 + length_of bytes) (length bytes) e) in
        sym (short (take (2 + length_of bytes) bytes) (omega (arith, s, k))) ∙ wrong_length bytes (λ l. omega (arith, s, l))
