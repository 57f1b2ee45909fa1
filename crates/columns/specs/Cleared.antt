-- A slot that begins with what was written, of length k, and whose rest is cleared.
use Rattle.std.specs.Prelude.{◌≡◌, List, ◌++◌, ℕ, ◌-◌, ◌*◌, length, take, drop, replicate, Float}
use Rattle.std.proofs.Common.{take_at}
use Rattle.complex.specs.Complex.{zero_f}
use Rattle.complex.specs.Matrix.{rows, length_blocks}
use Rattle.model.specs.Slots.{filled}

pub rest_cleared : (k : ℕ) (xs o : List Float) → length xs ≡ k → take k (xs ++ drop k o) ++ replicate (length o - k) zero_f ≡ filled (length o) xs
unfolding filled
rest_cleared k xs o e = rw (take_at xs (drop k o) k e, e)

-- n rows of w floats were written
pub rows_cleared : (n w : ℕ) (f : ℕ → List Float) → ((c : ℕ) → length (f c) ≡ w) → (o : List Float)
    → take (n * w) (rows n f ++ drop (n * w) o) ++ replicate (length o - n * w) zero_f ≡ filled (length o) (rows n f)
rows_cleared n w f len o = rest_cleared (n * w) (rows n f) o (length_blocks w f len n)
