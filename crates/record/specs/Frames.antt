-- The records of an input, one behind the other.
use Rattle.std.specs.Prelude.{Bool, List, [], ◌∷◌, ℕ, zero, suc, ◌+◌, leb, length, take, drop}
use Rattle.record.specs.Layout.{more_bytes}
use Rattle.record.specs.Reading.{length_of}

-- how many bytes the record that begins these has: the two of its length and as many as that says, or the two alone where no kind has that length
unfoldable pub record_size : List ℕ → ℕ
record_size bytes = 2 + more_bytes (length_of bytes)

-- the first k records of the bytes. The last may be cut off
abbrev pub frames_in : ℕ → List ℕ → List (List ℕ)
frames_in zero bytes = []
frames_in (suc k) [] = []
frames_in (suc k) (b ∷ bs) = take (record_size (b ∷ bs)) (b ∷ bs) ∷ frames_in k (drop (record_size (b ∷ bs)) (b ∷ bs))

-- all of them: no input has more records than bytes
unfoldable pub frames : List ℕ → List (List ℕ)
frames bytes = frames_in (length bytes) bytes

-- whether the bytes hold a whole record
unfoldable pub whole : List ℕ → Bool
whole bytes = leb (record_size bytes) (length bytes)
