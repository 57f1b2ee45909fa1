-- h * 2 ^ g units as a value (`units` of std's Float.Ieee, which from 2 ^ 1024 on is the infinity), and the bit pattern that it has. Assumes nothing.
use Rattle.std.specs.Prelude.{◌≡◌, ℕ, ◌+◌, ◌*◌, ◌^◌, ◌<◌, ◌≤◌}

-- b is the pattern of m * 2 ^ e units, a finite value's
pub record Decodes (b m e : ℕ) : Type 0 where
  pub value : b ≡ e * 2 ^ 52 + m
  pub few : m < 2 ^ 53
  pub full : 0 < e → 2 ^ 52 ≤ m
