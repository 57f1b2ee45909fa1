-- The text of a line, as ASCII codes.
use Rattle.std.specs.Prelude.{Bool, cond, List, [], ◌∷◌, ◌++◌, ℕ, ◌+◌, ◌-◌, ◌*◌, ◌/◌, ◌%◌, ◌^◌, ltb, length, drop}
use Rattle.std.specs.Float.{binary64}
use Rattle.std.specs.Float.Ieee.{to_bits}
use Rattle.complex.specs.Loops.{tabulate}
use Rattle.lines.specs.declared.Detail.{Detail}
use Rattle.lines.specs.declared.Detail.TheVariants.{Empty, Kept, Nothing, Bit}
use Rattle.lines.specs.declared.Line.{Line}

-- a number below 1000 in decimal, with no leading zeros
abbrev pub digit : ℕ → ℕ
digit x = 48 + x

unfoldable pub decimal : ℕ → List ℕ
decimal x =
    cond (ltb x 10) (digit x ∷ [])
    (cond (ltb x 100) (digit (x / 10) ∷ digit (x % 10) ∷ [])
    (digit (x / 100) ∷ digit (x / 10 % 10) ∷ digit (x % 10) ∷ []))

-- 0 to 9, A to F
unfoldable pub hex_digit : ℕ → ℕ
hex_digit x = cond (ltb x 10) (48 + x) (55 + x)

-- 64 bits in 16 hex digits, highest first: digit k is the four bits from bit 60 - 4 * k up
abbrev pub hex_at : ℕ → ℕ → ℕ
hex_at x k = hex_digit (x / 2 ^ (60 - 4 * k) % 16)

unfoldable pub hex_text : ℕ → List ℕ
hex_text x = tabulate 16 (hex_at x)

unfoldable pub bit_digit : Bool → ℕ
bit_digit b = cond b 49 48

-- a space, and then a weight's bits, zeros, or the bit. The pattern that is written for a NaN is 7FF8000000000000
unfoldable pub detail_text : Detail → List ℕ
detail_text Empty = []
detail_text (Kept w) = 32 ∷ hex_text (to_bits binary64 w)
detail_text Nothing = 32 ∷ hex_text 0
detail_text (Bit b) = 32 ∷ bit_digit b ∷ []

-- fields parted by one space, ended by a newline
unfoldable pub line_text : Line → List ℕ
line_text line = decimal line.kind ++ (32 ∷ []) ++ decimal line.number ++ detail_text line.detail ++ (10 ∷ [])

-- the longest line: two numbers of three digits, two spaces, 16 digits and a newline
abbrev pub line_room : ℕ
line_room = 25

-- what a slice holds after a line was written to it, and the number of bytes written
unfoldable pub written : Line → List ℕ → List ℕ
written line out = cond (ltb (length out) line_room) out (line_text line ++ drop (length (line_text line)) out)

unfoldable pub written_length : Line → List ℕ → ℕ
written_length line out = cond (ltb (length out) line_room) 0 (length (line_text line))
