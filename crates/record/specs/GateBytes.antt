-- The gate of a gate record: 16 complex numbers, rows in order, real part first.
use Rattle.std.specs.Prelude.{◌≡◌, refl, Bool, true, false, cond, List, ℕ, ◌+◌, ◌*◌, ◌≤◌, ◌<◌, leb, length, take, Float}
use Rattle.std.proofs.Common.{sym, ap, ◌∙◌, le_of_lt, arith, le-leb, leb-true, leb-false, length-take-le, take_all}
use Rattle.std.proofs.lemmas.Bool.{lt-leb}
use Rattle.std.specs.Float.{binary64}
use Rattle.std.specs.Float.Ieee.{of_bits}
use Rattle.complex.specs.Complex.{zero_c}
use Rattle.complex.specs.Parts.{part}
use Rattle.complex.specs.declared.Complex.{Complex}
use Rattle.gates.specs.Gate.{gate_of}
use Rattle.bytes_le.specs.Value.{value}
use Rattle.record.specs.Layout.{body_size, field_bytes, part_front}
use Rattle.record.specs.Layout as at

-- the f64 at an index, and complex number k
abbrev pub float_at : List ℕ → ℕ → Float
float_at bytes i = of_bits binary64 (value (part i (i + 8) bytes))

abbrev pub complex_at : List ℕ → ℕ → Complex
complex_at bytes k = record { re = float_at bytes (16 * k); im = float_at bytes (16 * k + 8) }

unfoldable pub gate_in : List ℕ → List (List Complex)
gate_in bytes = gate_of (λ r c. complex_at bytes (4 * r + c))

-- of bytes that a gate record begins; all +0 where they are too few for one
unfoldable pub gate_read : List ℕ → List (List Complex)
gate_read bytes = cond (leb (4 + body_size 2) (length bytes)) (gate_in (field_bytes at.gate 2 bytes)) (gate_of (λ r c. zero_c))

-- ---- laws

pub gate_short : (bytes : List ℕ) → length bytes < 262 → gate_of (λ r c. zero_c) ≡ gate_read bytes
unfolding body_size gate_read
gate_short bytes h = rw (lt-leb 262 (length bytes) h)

pub gate_there : (bytes : List ℕ) → 262 ≤ length bytes → gate_in (part 6 262 bytes) ≡ gate_read bytes
unfolding body_size field_bytes gate_read
gate_there bytes h = rw (le-leb 262 (length bytes) h)

-- what stands behind the record has no part in its gate
pub gate_front : (bytes : List ℕ) → gate_read (take 262 bytes) ≡ gate_read bytes
gate_front bytes = by (leb 262 (length bytes)) refl
  where
    by : (t : Bool) → leb 262 (length bytes) ≡ t → gate_read (take 262 bytes) ≡ gate_read bytes
    by true e =
        let h = leb-true 262 (length bytes) e in
        sym (gate_there (take 262 bytes) (omega (arith, length-take-le 262 bytes h))) ∙ ap gate_in (part_front 6 262 262 bytes (omega arith) (omega arith)) ∙ gate_there bytes h
    by false e = ap gate_read (take_all 262 bytes (le_of_lt (leb-false 262 (length bytes) e)))
