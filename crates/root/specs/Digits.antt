-- The whole root of a number, one binary digit a turn and highest first, two of the number's digits coming in with each: what a turn of the loop in `digits` does, and the room it has in 64 bits.
-- Assumes nothing.
use Rattle.std.specs.Prelude.{◌≡◌, ℕ, ◌+◌, ◌*◌, ◌/◌, ◌%◌, ◌^◌, ◌<◌, ◌≤◌, ◌⊎◌}
use Rattle.root.specs.Whole.{RootRest}

-- the number n with j pairs of binary digits after it, the first that a word s of 64 holds
abbrev pub fed : ℕ → ℕ → ℕ → ℕ
fed j s n = n * 4 ^ j + s * 4 ^ j / 2 ^ 64

-- where the loop stands after j of its 27 turns: the word, the digits found, with those from before it, and what is left
pub record After (s n j s' q r : ℕ) : Type 0 where
  pub word : s' ≡ s * 4 ^ j % 2 ^ 64
  pub few : q < 2 ^ 27 * 2 ^ j
  pub found : RootRest (fed j s n) q r

-- ---- A turn: the next digit b is 1 where c can be taken off t. t is what is left with the next pair after it, and c is 4 * q + 1, which is (2 * q + 1) * (2 * q + 1) - 4 * q * q.

abbrev pub Digit : ℕ → ℕ → ℕ → Type 0
Digit t c b = ((t < c) × (b ≡ 0)) ⊎ ((c ≤ t) × (b ≡ 1))
