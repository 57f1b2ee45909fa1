-- What is promised of feeding: however an input is cut into pieces, the text that comes out is that of the whole. docs/PROMISES.md names these fields.
use Rattle.std.specs.Prelude.{ℕ, ◌*◌, ◌≤◌, ◌≡◌, true, List, [], ◌∷◌, ◌++◌, ◌⊎◌, length, take, drop}
use Rattle.model.specs.Statements.Marked.{all_hold}
use Rattle.lines.specs.Text.{line_room}
use Rattle.stream.specs.Output.{new_store, new_work, text_of}
use Rattle.stream.specs.Feeding.{Feeding, before, new_run, run_of, fed, ended, text_so_far, to_come, Underway}
use Rattle.stream.specs.Marked.{table}

-- a piece of the input, and the slice that its lines are written to
pub record Handed : Type 0 where
  pub piece : List ℕ
  pub text : List ℕ

-- the input that pieces make up
abbrev pub input_of : List Handed → List ℕ
input_of [] = []
input_of (h ∷ hs) = h.piece ++ input_of hs

-- a slice that has room for a line, 25 bytes, for each byte of its piece
abbrev pub Roomy : List Handed → Type 0
Roomy [] = Unit {0}
Roomy (h ∷ hs) = (line_room * length h.piece ≤ length h.text) × Roomy hs

-- the run that a piece left, lent a slice for the next one's text
abbrev pub onwards : Feeding → List ℕ → Feeding
onwards f text = before (run_of f) f.progress.store f.progress.work f.bytes text

-- the text of pieces fed in turn, and then of the input's end, for which `last` is lent
abbrev pub printed_by : Feeding → List Handed → List ℕ → List ℕ
printed_by f [] last = take (ended (run_of f) last).written (ended (run_of f) last).text
printed_by f (h ∷ hs) last = text_so_far (fed (onwards f h.text) h.piece) ++ printed_by (fed (onwards f h.text) h.piece) hs last

-- a new run, lent a slice for the record in progress
abbrev pub new_feeding : List ℕ → Feeding
new_feeding bytes = before new_run new_store new_work bytes []

pub record Promised : Type 0 where
  -- in pieces of any size
  pub pieces : (bytes : List ℕ) (hs : List Handed) (last : List ℕ) → 262 ≤ length bytes → Roomy hs → line_room ≤ length last → printed_by (new_feeding bytes) hs last ≡ text_of (input_of hs)
  -- at once
  pub whole : (bytes input text last : List ℕ) → 262 ≤ length bytes → line_room * length input ≤ length text → line_room ≤ length last
      → printed_by (new_feeding bytes) (record { piece = input; text = text } ∷ []) last ≡ text_of input
  -- whatever room there is: nothing is lost or doubled. What is written, and what is still to come with the bytes that were not taken, is what was to come
  pub conserved : (f : Feeding) (text piece rest : List ℕ) → Underway f
      → (let g = fed (onwards f text) piece in Underway g × (text_so_far g ++ to_come g (drop g.used piece ++ rest) ≡ to_come f (piece ++ rest)))
  -- with room for a line for each byte all bytes are taken, unless reading stops
  pub taken : (f : Feeding) (text piece : List ℕ) → Underway f → line_room * length piece ≤ length text
      → (let g = fed (onwards f text) piece in (g.progress.stopped ≡ true) ⊎ (g.used ≡ length piece))
  -- no line waits for a byte behind its record
  pub prompt : (f : Feeding) (text piece : List ℕ) → Underway f
      → (let g = fed (onwards f text) piece in g.used ≡ length piece → g.pending ≡ 0 → text_so_far g ≡ to_come f piece)
  -- a new run is as pieces leave one, and everything is to come
  pub begun : (bytes : List ℕ) → 262 ≤ length bytes → Underway (new_feeding bytes) × ((input : List ℕ) → to_come (new_feeding bytes) input ≡ text_of input)
  -- document 01's inputs
  pub marked : all_hold table ≡ true
