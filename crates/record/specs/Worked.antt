-- The worked records of document 01.
use Rattle.std.specs.Prelude.{◌≡◌, refl, false, Ok, List, [], ◌∷◌, ◌++◌, map, ℕ, replicate}
use Rattle.complex.specs.Complex.{zero_f}
use Rattle.bytes_le.specs.Value.{value}
use Rattle.gates.specs.declared.NamedGate.TheVariants.{Cx}
use Rattle.record.specs.declared.Record.TheVariants as a
use Rattle.record.specs.Layout.{body_size, field_bytes, has_length, more_bytes}
use Rattle.record.specs.Fields.{named_gate, bit_in, record_in}
use Rattle.record.specs.Reading.{accepted, read_of, turned_away, next}

-- `15 00 01 00 02 02 05`, sixteen `00`, `05 00 03 00 00 01 01`, `04 00 04 00 00 00`
abbrev pub whole_case : List ℕ
whole_case =
    (0x15 ∷ 0x00 ∷ 0x01 ∷ 0x00 ∷ 0x02 ∷ 0x02 ∷ 0x05 ∷ replicate 16 0x00)
    ++ (0x05 ∷ 0x00 ∷ 0x03 ∷ 0x00 ∷ 0x00 ∷ 0x01 ∷ 0x01 ∷ [])
    ++ (0x04 ∷ 0x00 ∷ 0x04 ∷ 0x00 ∷ 0x00 ∷ 0x00 ∷ [])

-- n 2, D 2, exponent 5, epsilon and clamp 0
pub first_record : read_of whole_case ≡ Ok (a.Start 2 2 5 zero_f zero_f)
unfolding value body_size field_bytes named_gate bit_in record_in accepted read_of
first_record = refl

-- Cx on (0, 1)
pub second_record : read_of (next whole_case) ≡ Ok (a.NamedGate 0 1 Cx)
unfolding value body_size field_bytes named_gate bit_in record_in accepted read_of
second_record = refl

-- qubit 0 projected on 0
pub third_record : read_of (next (next whole_case)) ≡ Ok (a.Projection 0 false)
unfolding value body_size field_bytes named_gate bit_in record_in accepted read_of
third_record = refl

pub then_nothing : next (next (next whole_case)) ≡ []
unfolding value
then_nothing = refl

-- kind 9
pub kind_nine_lem : read_of (0x02 ∷ 0x00 ∷ 0x09 ∷ 0x00 ∷ []) ≡ turned_away
unfolding value body_size field_bytes named_gate bit_in record_in accepted read_of
kind_nine_lem = refl

-- code 3, bit 2, a length that is not the kind's, a record cut off, and a length cut off
pub bad_code : read_of (0x05 ∷ 0x00 ∷ 0x03 ∷ 0x00 ∷ 0x00 ∷ 0x01 ∷ 0x03 ∷ []) ≡ turned_away
unfolding value body_size field_bytes named_gate bit_in record_in accepted read_of
bad_code = refl

pub bad_bit : read_of (0x04 ∷ 0x00 ∷ 0x04 ∷ 0x00 ∷ 0x00 ∷ 0x02 ∷ []) ≡ turned_away
unfolding value body_size field_bytes named_gate bit_in record_in accepted read_of
bad_bit = refl

pub one_too_long : read_of (0x05 ∷ 0x00 ∷ 0x04 ∷ 0x00 ∷ 0x00 ∷ 0x01 ∷ 0x00 ∷ []) ≡ turned_away
unfolding value body_size field_bytes named_gate bit_in record_in accepted read_of
one_too_long = refl

pub one_too_few : read_of (0x04 ∷ 0x00 ∷ 0x04 ∷ 0x00 ∷ 0x00 ∷ []) ≡ turned_away
unfolding value body_size field_bytes named_gate bit_in record_in accepted read_of
one_too_few = refl

pub half_a_length : read_of (0x04 ∷ []) ≡ turned_away
unfolding value body_size field_bytes named_gate bit_in record_in accepted read_of
half_a_length = refl

-- the six lengths, and no other near them
pub lengths : map more_bytes (3 ∷ 4 ∷ 5 ∷ 6 ∷ 10 ∷ 11 ∷ 12 ∷ 13 ∷ 20 ∷ 21 ∷ 22 ∷ 259 ∷ 260 ∷ 261 ∷ []) ≡ 0 ∷ 4 ∷ 5 ∷ 0 ∷ 0 ∷ 11 ∷ 12 ∷ 0 ∷ 0 ∷ 21 ∷ 0 ∷ 0 ∷ 260 ∷ 0 ∷ []
unfolding body_size has_length more_bytes
lengths = refl
