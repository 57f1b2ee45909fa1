-- Where the fields of a run record stand: behind the length and the kind, 2 bytes each, in the order of the kind's list.
use Rattle.std.specs.Prelude.{◌≡◌, refl, Bool, true, false, ◌||◌, cond, List, [], ◌∷◌, ℕ, zero, suc, ◌+◌, ◌-◌, ◌≤◌, eqb, get_or, take, drop}
use Rattle.std.proofs.Common.{ap, ap₂, arith, lit≤, take-take}
use Rattle.std.proofs.Math.Seq.{take-nil}
use Rattle.complex.specs.Parts.{part}

pub data Field : Type 0 where
  n d exponent epsilon clamp q0 q1 gate code bit flag draw : Field

-- an f64 is 8 bytes, a gate 16 complex numbers, and every other field one byte
abbrev pub width : Field → ℕ
width n = 1
width d = 1
width exponent = 1
width epsilon = 8
width clamp = 8
width q0 = 1
width q1 = 1
width gate = 256
width code = 1
width bit = 1
width flag = 1
width draw = 8

-- the lists of the kinds 1 start, 2 gate, 3 named gate, 4 projection, 5 measure, 6 reset; 0 is no kind. The qubit of the last three is q0
abbrev pub layouts : List (List Field)
layouts =
    []
    ∷ (n ∷ d ∷ exponent ∷ epsilon ∷ clamp ∷ [])
    ∷ (q0 ∷ q1 ∷ gate ∷ [])
    ∷ (q0 ∷ q1 ∷ code ∷ [])
    ∷ (q0 ∷ bit ∷ [])
    ∷ (q0 ∷ flag ∷ draw ∷ [])
    ∷ (q0 ∷ draw ∷ [])
    ∷ []

abbrev pub layout : ℕ → List Field
layout kind = get_or layouts kind []

-- the bytes that fields take
abbrev pub widths : List Field → ℕ
widths [] = 0
widths (f ∷ fs) = width f + widths fs

unfoldable pub body_size : ℕ → ℕ
body_size kind = widths (layout kind)

-- ---- a field's bytes

abbrev order : Field → ℕ
order n = 0
order d = 1
order exponent = 2
order epsilon = 3
order clamp = 4
order q0 = 5
order q1 = 6
order gate = 7
order code = 8
order bit = 9
order flag = 10
order draw = 11

-- the bytes of f where the fields fs begin at the index `at`; none where f is not among them
abbrev pub field_from : ℕ → Field → List Field → List ℕ → List ℕ
field_from at f [] bytes = []
field_from at f (g ∷ gs) bytes = cond (eqb (order f) (order g)) (part at (at + width g) bytes) (field_from (at + width g) f gs bytes)

-- the bytes of f in a record of this kind
unfoldable pub field_bytes : Field → ℕ → List ℕ → List ℕ
field_bytes f kind bytes = field_from 4 f (layout kind) bytes

-- ---- lengths that some kind has

-- whether one of the kinds 1 to k has records of this length, kind and body counted
abbrev pub some_kind : ℕ → ℕ → Bool
some_kind zero size = false
some_kind (suc k) size = some_kind k size || eqb size (2 + body_size (suc k))

unfoldable pub has_length : ℕ → Bool
has_length size = some_kind 6 size

-- the bytes that follow a length; 0 where no kind has it
unfoldable pub more_bytes : ℕ → ℕ
more_bytes size = cond (has_length size) size 0

-- ---- laws

-- k is none of the six, as the last arm of a match on it tells
abbrev pub NoKind : ℕ → Type 0
NoKind k = (((((Unit {0} × (k ≡ 1 → ⊥)) × (k ≡ 2 → ⊥)) × (k ≡ 3 → ⊥)) × (k ≡ 4 → ⊥)) × (k ≡ 5 → ⊥)) × (k ≡ 6 → ⊥)

pub no_layout : (k : ℕ) → NoKind k → layout k ≡ []
no_layout zero h = refl
no_layout (suc zero) h = absurd (h.0.0.0.0.0.1 refl)
no_layout (suc (suc zero)) h = absurd (h.0.0.0.0.1 refl)
no_layout (suc (suc (suc zero))) h = absurd (h.0.0.0.1 refl)
no_layout (suc (suc (suc (suc zero)))) h = absurd (h.0.0.1 refl)
no_layout (suc (suc (suc (suc (suc zero))))) h = absurd (h.0.1 refl)
no_layout (suc (suc (suc (suc (suc (suc zero)))))) h = absurd (h.1 refl)
no_layout (suc (suc (suc (suc (suc (suc (suc k))))))) h = refl

pub body_size_small : (k : ℕ) → body_size k ≤ 258
unfolding body_size
body_size_small zero = lit≤ tt
body_size_small (suc zero) = lit≤ tt
body_size_small (suc (suc zero)) = lit≤ tt
body_size_small (suc (suc (suc zero))) = lit≤ tt
body_size_small (suc (suc (suc (suc zero)))) = lit≤ tt
body_size_small (suc (suc (suc (suc (suc zero))))) = lit≤ tt
body_size_small (suc (suc (suc (suc (suc (suc zero)))))) = lit≤ tt
body_size_small (suc (suc (suc (suc (suc (suc (suc k))))))) = lit≤ tt

module _ (size : ℕ) where
  pub more_some : has_length size ≡ true → more_bytes size ≡ size
  unfolding more_bytes
  more_some e = rw e

  pub more_none : has_length size ≡ false → more_bytes size ≡ 0
  unfolding more_bytes
  more_none e = rw e

pub kind_length : (k : ℕ) → 1 ≤ k → k ≤ 6 → has_length (2 + body_size k) ≡ true
unfolding body_size has_length
kind_length zero h l = absurd (omega arith)
kind_length (suc zero) h l = refl
kind_length (suc (suc zero)) h l = refl
kind_length (suc (suc (suc zero))) h l = refl
kind_length (suc (suc (suc (suc zero)))) h l = refl
kind_length (suc (suc (suc (suc (suc zero))))) h l = refl
kind_length (suc (suc (suc (suc (suc (suc zero)))))) h l = refl
kind_length (suc (suc (suc (suc (suc (suc (suc k))))))) h l = absurd (omega arith)

-- ---- a field's bytes are among the record's own

within : (a w m : ℕ) (xs : List ℕ) → a + w ≤ m → take w (drop a (take m xs)) ≡ take w (drop a xs)
within zero w m xs h = take-take w m xs (omega arith)
within (suc a) w m [] h = ap (λ xs. take w (drop (suc a) xs)) (take-nil m)
within (suc a) w zero (x ∷ xs) h = absurd (omega arith)
within (suc a) w (suc m) (x ∷ xs) h = within a w m xs (omega arith)

-- a part of a front is the part of the whole
pub part_front : (a e m : ℕ) (xs : List ℕ) → a ≤ e → e ≤ m → part a e (take m xs) ≡ part a e xs
part_front a e m xs h l = within a (e - a) m xs (omega arith)

pub field_from_front : (at : ℕ) (f : Field) (fs : List Field) (m : ℕ) (bytes : List ℕ) → at + widths fs ≤ m → field_from at f fs (take m bytes) ≡ field_from at f fs bytes
field_from_front at f [] m bytes h = refl
field_from_front at f (g ∷ gs) m bytes h =
    ap₂ (cond (eqb (order f) (order g))) (part_front at (at + width g) m bytes (omega arith) (omega arith)) (field_from_front (at + width g) f gs m bytes (omega arith))

pub field_bytes_front : (f : Field) (kind m : ℕ) (bytes : List ℕ) → 4 + body_size kind ≤ m → field_bytes f kind (take m bytes) ≡ field_bytes f kind bytes
unfolding body_size field_bytes
field_bytes_front f kind m bytes h = field_from_front 4 f (layout kind) m bytes h
