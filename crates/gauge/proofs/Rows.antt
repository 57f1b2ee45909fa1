-- What a closure that fills a matrix is asked, and where a row ends. No contract cites this file. Assumes nothing.
use Prim.Native.Nat.{ℕ, ◌+◌, ◌*◌, ◌≤◌, ◌<◌}
use native.Mathlib.Nat.{mul-le-mul_right}
use native.Mathlib.Omega.{arith}
use Rattle.std.proofs.iter.Serving.{serving}

-- row r of m rows of n numbers each
pub row_before : (m n r : ℕ) → r < m → r * n + n ≤ m * n
row_before m n r l = omega (arith, mul-le-mul_right n l)

pub ruleset rows_served = (serving, row_before)
