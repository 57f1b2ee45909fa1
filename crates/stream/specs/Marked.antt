-- What is printed for document 01's inputs: one list. That every row holds is one statement, `marked` of proofs/Laws. A row has the text that the definitions compute, and the text that the document says it is, as ASCII codes.
use Rattle.std.specs.Prelude.{ℕ, List, [], ◌∷◌, ◌++◌, replicate, take}
use Rattle.model.specs.Statements.Marked.{Row, wholes}
use Rattle.record.specs.Worked.{whole_case}
use Rattle.stream.specs.Output.{text_of}

-- ---- lines: `1 0`, `1 1`, `3 0`, `4 0 3FF0000000000000`, `0 8`

abbrev pub start_line : List ℕ
start_line = 0x31 ∷ 0x20 ∷ 0x30 ∷ 0x0A ∷ []

abbrev pub refused_line : List ℕ
refused_line = 0x31 ∷ 0x20 ∷ 0x31 ∷ 0x0A ∷ []

abbrev pub named_gate_line : List ℕ
named_gate_line = 0x33 ∷ 0x20 ∷ 0x30 ∷ 0x0A ∷ []

abbrev pub kept_one_line : List ℕ
kept_one_line = (0x34 ∷ 0x20 ∷ 0x30 ∷ 0x20 ∷ 0x33 ∷ 0x46 ∷ 0x46 ∷ []) ++ replicate 13 0x30 ++ (0x0A ∷ [])

abbrev pub stopped_line : List ℕ
stopped_line = 0x30 ∷ 0x20 ∷ 0x38 ∷ 0x0A ∷ []

-- ---- inputs: the whole case's start, the same with D 0, and a record of kind 9

abbrev pub start_record : List ℕ
start_record = take 23 whole_case

abbrev pub no_bond : List ℕ
no_bond = (0x15 ∷ 0x00 ∷ 0x01 ∷ 0x00 ∷ 0x02 ∷ 0x00 ∷ 0x05 ∷ []) ++ replicate 16 0x00

abbrev pub kind_nine : List ℕ
kind_nine = 0x02 ∷ 0x00 ∷ 0x09 ∷ 0x00 ∷ []

-- ---- the list

unfoldable pub table : List Row
table =
    -- the whole case
    wholes (text_of whole_case) (start_line ++ named_gate_line ++ kept_one_line)
    -- kind 9, and nothing behind it is read
    ∷ wholes (text_of kind_nine) stopped_line
    ∷ wholes (text_of (kind_nine ++ start_record)) stopped_line
    -- empty input
    ∷ wholes (text_of []) []
    -- the last record cut off, and a length cut off
    ∷ wholes (text_of (start_record ++ (0x04 ∷ 0x00 ∷ 0x04 ∷ 0x00 ∷ 0x00 ∷ []))) (start_line ++ stopped_line)
    ∷ wholes (text_of (0x04 ∷ [])) stopped_line
    -- a length that no kind has
    ∷ wholes (text_of (0x03 ∷ 0x00 ∷ [])) stopped_line
    -- a start after a refused one, and after an accepted one
    ∷ wholes (text_of (no_bond ++ start_record)) (refused_line ++ start_line)
    ∷ wholes (text_of (start_record ++ start_record)) (start_line ++ stopped_line)
    ∷ []
