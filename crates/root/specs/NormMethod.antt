-- What `finite_norm` does: four times the sum of two squares in units of the larger one's last digit squared, cut to a whole number, and half of its root. That this, and from 27 exponents apart on the larger part, is `nearest_root` stands in proofs/Laws.
use Rattle.std.specs.Prelude.{ℕ, ◌+◌, ◌*◌, ◌/◌, ◌%◌, ◌^◌, Bool, nat_lt}

-- the square of twice a significand
abbrev pub square : ℕ → ℕ
square m = 2 * m * (2 * m)

-- four times the sum of the squares of a and b / 2 ^ k, cut to a whole number, and whether anything was cut off
abbrev pub scaled_sum : ℕ → ℕ → ℕ → ℕ
scaled_sum a b k = square a + square b / 4 ^ k

abbrev pub cut_off : ℕ → ℕ → Bool
cut_off b k = nat_lt 0 (square b % 4 ^ k)
