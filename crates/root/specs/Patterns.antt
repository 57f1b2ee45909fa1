-- The bit pattern of a value, and that without its sign, which is the pattern's rest by 2 ^ 63: above the infinity's for a NaN, the infinity's for either infinity, below it for a finite value.
-- And the root of a value by the range that its pattern is in. Assumes nothing.
use Rattle.std.specs.Prelude.{ℕ}

abbrev pub top : ℕ
top = 0x7FF0_0000_0000_0000
