-- How long the slices are that a run is lent.
use Rattle.std.specs.Prelude.{ℕ, ◌*◌, ◌≤◌, ◌<◌, List, length}

-- lent slices that are long enough: for the longest record, for a byte of the input, and for a line, 25 bytes, for each byte of a piece
abbrev pub HaveRoom : List ℕ → List ℕ → List ℕ → Type 0
HaveRoom bytes piece text = (262 ≤ length bytes) × (0 < length piece) × (25 * length piece ≤ length text)
