-- A value of binary64 in units of 2 ^ -1074, the format's smallest value above zero: every finite value is a whole number of them.
-- Two definitions, and then their laws. Assumes nothing.
use Rattle.std.specs.Prelude.{◌≡◌, ℕ, ◌*◌, ◌/◌, ◌^◌, ◌<◌, ◌≤◌, Bool, false, not, T, ℤ, Float}
use Rattle.std.specs.Float.{nan, inf, fin, binary64}
use Rattle.std.specs.Float.Ieee.{up, down, fits, to_bits, of_bits}

-- How many units a value is, its sign aside. An infinity counts as 2 ^ 1024, which is 2 ^ 2098 units: the number that would follow the largest finite value if the exponents went on.
unfoldable pub in_units : Float → ℕ
in_units nan = 0
in_units (inf s) = 2 ^ 2098
in_units (fin s m e) = m * up e * 2 ^ 1074 / down e

-- finite or infinite, and not negative: -0 is left out, and so is a NaN
abbrev pub sign_clear : Float → Bool
sign_clear nan = false
sign_clear (inf s) = not s
sign_clear (fin s m e) = not s

-- ---- the units of a finite value are exact

-- what `fits` says of a finite value: m has at most 53 binary digits, and m * 2 ^ e is m * 2 ^ j units
pub record Held (m : ℕ) (e : ℤ) : Type 0 where
  pub j : ℕ
  pub few : m < 2 ^ 53
  pub is : m * up e * 2 ^ 1074 ≡ m * 2 ^ j * down e

-- h * 2 ^ g units have the pattern g * 2 ^ 52 + h, for an h of 53 binary digits, or of fewer where g is 0; 2 ^ 53 has it as well
abbrev pub Significand : ℕ → ℕ → Type 0
Significand h g = (h ≤ 2 ^ 53) × (0 < g → 2 ^ 52 ≤ h)

-- ---- the units are 53 binary digits, and then zeros

pub record Short (n : ℕ) : Type 0 where
  pub m : ℕ
  pub j : ℕ
  pub few : m < 2 ^ 53
  pub is : n ≡ m * 2 ^ j

pub record AtPattern (b : ℕ) : Type 0 where
  pub held : T (fits binary64 (of_bits binary64 b))
  pub sign : T (sign_clear (of_bits binary64 b))
  pub bits : to_bits binary64 (of_bits binary64 b) ≡ b
