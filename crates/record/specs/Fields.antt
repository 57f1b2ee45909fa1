-- The record of a kind that bytes hold, and which bytes hold one.
use Rattle.std.specs.Prelude.{◌≡◌, Bool, true, false, not, ◌&&◌, ◌||◌, cond, List, ℕ, zero, suc, ◌+◌, ◌<◌, ◌≤◌, T, eqb, leb, take, Float, Option, Some, None, is_some, option_map}
use Rattle.std.proofs.Math.Path.{refl, sym, ap}
use Rattle.std.proofs.Common.{subst, ◌∙◌, arith}
use borrow.Author.Tests.{ne_eqb, le-leb, lt-leb}
use Rattle.std.specs.Float.{binary64}
use Rattle.std.specs.Float.Ieee.{of_bits}
use Rattle.gates.specs.declared.NamedGate.{NamedGate}
use Rattle.gates.specs.declared.NamedGate.TheVariants.{Swap, Cx, Cz}
use Rattle.bytes_le.specs.Value.{value}
use Rattle.record.specs.declared.Record.{Record}
use Rattle.record.specs.declared.Record.TheVariants as a
use Rattle.record.specs.Layout as at
use Rattle.record.specs.Layout.{Field, body_size, field_bytes, field_bytes_front, NoKind}
use Rattle.record.specs.GateBytes.{gate_in}

-- a field's bytes as a number, 0 where the kind does not have the field, and as an f64
abbrev pub number_in : Field → ℕ → List ℕ → ℕ
number_in f kind bytes = value (field_bytes f kind bytes)

abbrev pub float_in : Field → ℕ → List ℕ → Float
float_in f kind bytes = of_bits binary64 (number_in f kind bytes)

-- a kind is one of six, a named gate's code is 0, 1 or 2, and a projection's bit is 0 or 1
abbrev pub is_kind : ℕ → Bool
is_kind k = leb 1 k && leb k 6

abbrev pub code_fits : ℕ → Bool
code_fits code = leb code 2

abbrev pub bit_fits : ℕ → Bool
bit_fits bit = leb bit 1

abbrev pub name_of : ℕ → NamedGate
name_of code = cond (eqb code 0) Swap (cond (eqb code 1) Cx Cz)

unfoldable pub named_gate : ℕ → Option NamedGate
named_gate code = cond (code_fits code) (Some (name_of code)) None

unfoldable pub bit_in : ℕ → Option Bool
bit_in bit = cond (bit_fits bit) (Some (eqb bit 1)) None

-- the record of a kind that the bytes hold: none where the kind is none of six, or a code or a bit does not fit
unfoldable pub record_in : ℕ → List ℕ → Option Record
record_in kind bytes =
    cond (eqb kind 1) (Some (a.Start (number_in at.n kind bytes) (number_in at.d kind bytes) (number_in at.exponent kind bytes) (float_in at.epsilon kind bytes) (float_in at.clamp kind bytes)))
    (cond (eqb kind 2) (Some (a.Gate (number_in at.q0 kind bytes) (number_in at.q1 kind bytes) (gate_in (field_bytes at.gate kind bytes))))
    (cond (eqb kind 3) (option_map (λ name. a.NamedGate (number_in at.q0 kind bytes) (number_in at.q1 kind bytes) name) (named_gate (number_in at.code kind bytes)))
    (cond (eqb kind 4) (option_map (λ bit. a.Projection (number_in at.q0 kind bytes) bit) (bit_in (number_in at.bit kind bytes)))
    (cond (eqb kind 5) (Some (a.Measure (number_in at.q0 kind bytes) (number_in at.flag kind bytes) (float_in at.draw kind bytes)))
    (cond (eqb kind 6) (Some (a.Reset (number_in at.q0 kind bytes) (float_in at.draw kind bytes)))
    None)))))

-- whether the bytes hold a record of this kind
abbrev pub valid : ℕ → List ℕ → Bool
valid kind bytes = is_some (record_in kind bytes)

-- the number of a record's kind
abbrev pub kind_of_record : Record → ℕ
kind_of_record (a.Start n d exponent epsilon clamp) = 1
kind_of_record (a.Gate q0 q1 gate) = 2
kind_of_record (a.NamedGate q0 q1 name) = 3
kind_of_record (a.Projection qubit bit) = 4
kind_of_record (a.Measure qubit flag draw) = 5
kind_of_record (a.Reset qubit draw) = 6

-- ---- laws

-- what is neither 0 nor 1 names Cz
pub other_code : (code : ℕ) → (code ≡ 0 → ⊥) → (code ≡ 1 → ⊥) → Cz ≡ name_of code
other_code code a b = rw (ne_eqb code 0 a, ne_eqb code 1 b)

-- bytes of what is no kind hold no record
pub no_fields : (k : ℕ) (bytes : List ℕ) → NoKind k → None ≡ record_in k bytes
unfolding record_in
no_fields k bytes h = rw (ne_eqb k 1 h.0.0.0.0.0.1, ne_eqb k 2 h.0.0.0.0.1, ne_eqb k 3 h.0.0.0.1, ne_eqb k 4 h.0.0.1, ne_eqb k 5 h.0.1, ne_eqb k 6 h.1)

none_above : (k : ℕ) (bytes : List ℕ) → 6 < k → record_in k bytes ≡ None
none_above k bytes h =
    sym (no_fields k bytes ((((((tt, λ e. omega (arith, e)), λ e. omega (arith, e)), λ e. omega (arith, e)), λ e. omega (arith, e)), λ e. omega (arith, e)), λ e. omega (arith, e)))

no_some : {A : Type 0} {x : A} → Some x ≡ None → ⊥
no_some e = subst T (ap is_some e) tt

-- what stands behind a record has no part in it
pub fields_front : (kind m : ℕ) (bytes : List ℕ) → 4 + body_size kind ≤ m → record_in kind (take m bytes) ≡ record_in kind bytes
unfolding record_in
fields_front kind m bytes h =
    let e : (f : Field) → field_bytes f kind (take m bytes) ≡ field_bytes f kind bytes = λ f. field_bytes_front f kind m bytes h in
    rw (e at.n, e at.d, e at.exponent, e at.q0, e at.q1, e at.gate, e at.code, e at.bit, e at.flag, e at.epsilon, e at.clamp, e at.draw)

-- a record's kind is one of six, and the kind that it was read under
pub valid_kind : (k : ℕ) (bytes : List ℕ) → T (valid k bytes) → (1 ≤ k) × (k ≤ 6)
unfolding record_in
valid_kind zero bytes h = absurd h
valid_kind (suc zero) bytes h = (omega arith, omega arith)
valid_kind (suc (suc zero)) bytes h = (omega arith, omega arith)
valid_kind (suc (suc (suc zero))) bytes h = (omega arith, omega arith)
valid_kind (suc (suc (suc (suc zero)))) bytes h = (omega arith, omega arith)
valid_kind (suc (suc (suc (suc (suc zero))))) bytes h = (omega arith, omega arith)
valid_kind (suc (suc (suc (suc (suc (suc zero)))))) bytes h = (omega arith, omega arith)
valid_kind (suc (suc (suc (suc (suc (suc (suc k))))))) bytes h = absurd (subst T (ap is_some (none_above (suc (suc (suc (suc (suc (suc (suc k))))))) bytes (omega arith))) h)

-- bytes hold a record where the kind, a named gate's code and a projection's bit are as said
fitting : {A B : Type 0} (make : A → B) (x : A) (t : Bool) → is_some (option_map make (cond t (Some x) None)) ≡ t
fitting make x true = refl
fitting make x false = refl

and_true : (t : Bool) → t ≡ (t && true)
and_true true = refl
and_true false = refl

pub valid_when : (k : ℕ) (bytes : List ℕ) → valid k bytes ≡ (is_kind k && (not (eqb k 3) || code_fits (number_in at.code k bytes)) && (not (eqb k 4) || bit_fits (number_in at.bit k bytes)))
unfolding record_in named_gate bit_in
valid_when zero bytes = refl
valid_when (suc zero) bytes = refl
valid_when (suc (suc zero)) bytes = refl
valid_when (suc (suc (suc zero))) bytes = fitting _ _ _ ∙ and_true _
valid_when (suc (suc (suc (suc zero)))) bytes = fitting _ _ _
valid_when (suc (suc (suc (suc (suc zero))))) bytes = refl
valid_when (suc (suc (suc (suc (suc (suc zero)))))) bytes = refl
valid_when (suc (suc (suc (suc (suc (suc (suc k))))))) bytes =
    let n = suc (suc (suc (suc (suc (suc (suc k)))))) in ap is_some (none_above n bytes (omega arith)) ∙ sym (rw (le-leb 1 n (omega arith), lt-leb n 6 (omega arith)) refl)

abbrev kind_in : Option Record → ℕ
kind_in None = 0
kind_in (Some r) = kind_of_record r

mapped : {A : Type 0} (k : ℕ) (make : A → Record) (o : Option A) (r : Record) → ((x : A) → kind_of_record (make x) ≡ k) → option_map make o ≡ Some r → k ≡ kind_of_record r
mapped k make None r same e = absurd (no_some (sym e))
mapped k make (Some x) r same e = sym (same x) ∙ ap kind_in e

pub record_kind : (k : ℕ) (bytes : List ℕ) (r : Record) → record_in k bytes ≡ Some r → k ≡ kind_of_record r
unfolding record_in
record_kind zero bytes r e = absurd (no_some (sym e))
record_kind (suc zero) bytes r e = ap kind_in e
record_kind (suc (suc zero)) bytes r e = ap kind_in e
record_kind (suc (suc (suc zero))) bytes r e = mapped 3 _ _ r (λ x. refl) e
record_kind (suc (suc (suc (suc zero)))) bytes r e = mapped 4 _ _ r (λ x. refl) e
record_kind (suc (suc (suc (suc (suc zero))))) bytes r e = ap kind_in e
record_kind (suc (suc (suc (suc (suc (suc zero)))))) bytes r e = ap kind_in e
record_kind (suc (suc (suc (suc (suc (suc (suc k))))))) bytes r e = absurd (no_some (sym e ∙ none_above (suc (suc (suc (suc (suc (suc (suc k))))))) bytes (omega arith)))
