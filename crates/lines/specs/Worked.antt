-- The lines of document 01's whole case, and those that it words, as ASCII codes.
use Rattle.std.specs.Prelude.{◌≡◌, refl, true, [], ◌∷◌, ◌++◌, replicate}
use Rattle.std.specs.Float.Ieee.{to_bits, of_bits}
use Rattle.std.specs.Float.{nan}
use Rattle.complex.specs.Complex.{one_f}
use Rattle.complex.specs.Loops.{tabulate}
use Rattle.lines.specs.declared.Detail.TheVariants.{Empty, Kept, Nothing, Bit}
use Rattle.lines.specs.Text.{decimal, hex_digit, hex_text, bit_digit, detail_text, line_text}

-- `1 0`, `3 0`, `4 0 3FF0000000000000`
pub start_line_lem : line_text (record { kind = 1; number = 0; detail = Empty }) ≡ 0x31 ∷ 0x20 ∷ 0x30 ∷ 0x0A ∷ []
unfolding decimal detail_text line_text
start_line_lem = refl

pub named_gate_line_lem : line_text (record { kind = 3; number = 0; detail = Empty }) ≡ 0x33 ∷ 0x20 ∷ 0x30 ∷ 0x0A ∷ []
unfolding decimal detail_text line_text
named_gate_line_lem = refl

pub projection_line : line_text (record { kind = 4; number = 0; detail = Kept one_f }) ≡ (0x34 ∷ 0x20 ∷ 0x30 ∷ 0x20 ∷ 0x33 ∷ 0x46 ∷ 0x46 ∷ []) ++ replicate 13 0x30 ++ (0x0A ∷ [])
unfolding tabulate decimal hex_digit hex_text detail_text line_text of_bits to_bits
projection_line = refl

-- zeros for Nothing, 7FF8000000000000 for a NaN
pub nothing_line : line_text (record { kind = 4; number = 0; detail = Nothing }) ≡ (0x34 ∷ 0x20 ∷ 0x30 ∷ 0x20 ∷ []) ++ replicate 16 0x30 ++ (0x0A ∷ [])
unfolding tabulate decimal hex_digit hex_text detail_text line_text
nothing_line = refl

pub nan_line : line_text (record { kind = 4; number = 0; detail = Kept nan }) ≡ (0x34 ∷ 0x20 ∷ 0x30 ∷ 0x20 ∷ 0x37 ∷ 0x46 ∷ 0x46 ∷ 0x38 ∷ []) ++ replicate 12 0x30 ++ (0x0A ∷ [])
unfolding tabulate decimal hex_digit hex_text detail_text line_text to_bits
nan_line = refl

-- a measured 1, and `0 8`
pub measured_line : line_text (record { kind = 5; number = 0; detail = Bit true }) ≡ 0x35 ∷ 0x20 ∷ 0x30 ∷ 0x20 ∷ 0x31 ∷ 0x0A ∷ []
unfolding decimal bit_digit detail_text line_text
measured_line = refl

pub turned_away_line : line_text (record { kind = 0; number = 8; detail = Empty }) ≡ 0x30 ∷ 0x20 ∷ 0x38 ∷ 0x0A ∷ []
unfolding decimal detail_text line_text
turned_away_line = refl
