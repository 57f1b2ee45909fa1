-- Fed piece by piece, an input gives the text that is defined for the whole of it: what that law is stated with.
use Rattle.std.specs.Prelude.{ℕ, ◌+◌, ◌-◌, ◌≤◌, ◌≡◌, length, take, drop}
use mathlib.Core.List.{List, ◌∷◌, ◌++◌}
use Rattle.lines.specs.Text.{line_room}
use Rattle.stream.specs.Feeding.{Feeding, Ending, text_so_far, to_come, Underway}

-- what one byte leaves
pub record OneByte (f g : Feeding) (b : ℕ) : Type 0 where
  pub underway : Underway g
  pub used : g.used ≡ f.used + 1
  pub room : length g.progress.text ≡ length f.progress.text
  pub line : g.progress.written ≤ f.progress.written + line_room
  pub text : (rest : List ℕ) → text_so_far g ++ to_come g rest ≡ text_so_far f ++ to_come f (b ∷ rest)

-- ---- a piece

-- whatever room there is: what was written, and what is still to come with the bytes that were not taken, is what was to come before
pub record Kept (f g : Feeding) (bytes : List ℕ) : Type 0 where
  pub underway : Underway g
  pub used : f.used ≤ g.used
  pub text : (rest : List ℕ) → text_so_far g ++ to_come g (drop (g.used - f.used) bytes ++ rest) ≡ text_so_far f ++ to_come f (bytes ++ rest)

abbrev pub end_text : Ending → List ℕ
end_text e = take e.written e.text
