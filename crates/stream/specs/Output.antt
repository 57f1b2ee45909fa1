-- What is printed for a whole input (document 01, 'Run record').
use Rattle.std.specs.Prelude.{ℕ, Bool, cond, List, [], ◌∷◌, ◌++◌, eqb, Float, replicate}
use Rattle.complex.specs.Complex.{zero_f}
use Rattle.record.specs.Frames.{frames}
use Rattle.lines.specs.declared.Line.{Line}
use Rattle.lines.specs.Text.{line_text}
use Rattle.session.specs.declared.Session.{Session}
use Rattle.session.specs.Session.{new_session, step_of}

-- reading stops at `0 8`, the one line of kind 0
abbrev pub stops : Line → Bool
stops line = eqb line.kind 0

-- the lines of records that follow each other, each done on what the one before it left
unfoldable pub lines_from : Session → List Float → List Float → List (List ℕ) → List Line
lines_from s store work [] = []
lines_from s store work (r ∷ rs) =
    let l = step_of s store work r in
    l.line ∷ cond (stops l.line) [] (lines_from l.session l.store l.work rs)

-- the store and the work slice that the program lends
abbrev pub new_store : List Float
new_store = replicate 512 zero_f

abbrev pub new_work : List Float
new_work = replicate 1344 zero_f

-- the lines of an input
unfoldable pub lines_of : List ℕ → List Line
lines_of input = lines_from new_session new_store new_work (frames input)

-- lines behind each other
abbrev pub text_of_lines : List Line → List ℕ
text_of_lines [] = []
text_of_lines (l ∷ ls) = line_text l ++ text_of_lines ls

unfoldable pub text_of : List ℕ → List ℕ
text_of input = text_of_lines (lines_of input)
