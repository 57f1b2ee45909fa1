-- Whole roots: the largest number whose square is at most n. Nothing here is about floats. Assumes nothing.
use Rattle.std.specs.Prelude.{◌≡◌, ℕ, zero, suc, ◌+◌, ◌*◌, ◌/◌, ◌<◌, ◌≤◌, cond, nat_le}

-- The whole root of n, for n below 4 ^ k. Twice the root of n / 4 has all of its binary digits but the last, which is 1 where the square of that is still at most n.
unfoldable pub whole_root : ℕ → ℕ → ℕ
whole_root zero n = 0
whole_root (suc k) n = let w = 2 * whole_root k (n / 4) in cond (nat_le (suc w * suc w) n) (suc w) w

-- w is the whole root of n
pub record IsRoot (n w : ℕ) : Type 0 where
  pub low : w * w ≤ n
  pub high : n < suc w * suc w

-- and r is what n is above its square
pub record RootRest (n w r : ℕ) : Type 0 where
  pub value : w * w + r ≡ n
  pub rest : r ≤ 2 * w
