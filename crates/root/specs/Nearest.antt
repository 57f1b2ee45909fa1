-- The binary64 value nearest to a square root: IEEE 754-2019, 5.4.1 (squareRoot), rounded as 4.3.1 has it (roundTiesToEven). Definitions only.
-- The square is exact: q counts 2 ^ -2148, which is the square of the unit 2 ^ -1074, so the root of q is a number of units, most often no whole one.
-- It lies below the midpoint of r and y units exactly where 4 * q < (r + y) * (r + y), so all is said in whole numbers.
-- `Theorems.antt` has that one value is nearest (`only_nearest`), and `NearestLaws.antt` that ties and overflow go as 4.3.1 has them (`tie_lower`, `tie_upper`, `overflow`).
use Rattle.std.specs.Prelude.{◌≡◌, ℕ, ◌+◌, ◌*◌, ◌%◌, ◌<◌, ◌≤◌, T, to_bits, Float}
use Rattle.std.specs.Float.{binary64}
use Rattle.std.specs.Float.Ieee.{fits}
use Rattle.root.specs.Units.{in_units, sign_clear}

-- the values to choose from: +0, those above it, and the infinity, which counts as 2 ^ 1024
pub record Candidate (y : Float) : Type 0 where
  pub held : T (fits binary64 y)
  pub sign : T (sign_clear y)

-- (x + y) * (x + y) in squares of a unit, which is four times the square of the midpoint of x and y
abbrev pub square_of_sum : Float → Float → ℕ
square_of_sum x y = (in_units x + in_units y) * (in_units x + in_units y)

-- The least significant digit of the significand is even. It is the last of the bit pattern: that of the infinity is even, and that of the largest finite value is odd.
-- So a root at or above the midpoint of those two is rounded to the infinity, as 4.3.1 has it: from 2 ^ 1023 * (2 - 2 ^ -53) on.
abbrev pub Even : Float → Type 0
Even r = to_bits binary64 r % 2 ≡ 0

-- r is nearest to the root of q: the root lies at or below the midpoint of r and each larger candidate, and at or above that of r and each smaller one. It lies at a midpoint only where r is even.
pub record Nearest (r : Float) (q : ℕ) : Type 0 where
  pub value : Candidate r
  pub above : (y : Float) → Candidate y → in_units r < in_units y → (4 * q ≤ square_of_sum r y) × (4 * q ≡ square_of_sum r y → Even r)
  pub below : (y : Float) → Candidate y → in_units y < in_units r → (square_of_sum y r ≤ 4 * q) × (square_of_sum y r ≡ 4 * q → Even r)
