-- Those of lower column that come before a column, counted. Assumes nothing.
use mathlib.Core.Path.{◌≡◌}
use Prim.Native.Nat.{ℕ, ◌+◌, ◌-◌}
use native.Mathlib.Omega.{arith}
use lib.Ieee.{Float, le}
use Rattle.complex.specs.Loops.{between, each_agree}
use Rattle.model.specs.Svd.{tallied, earlier}

pub earlier_counted : (s : ℕ → Float) (j : ℕ) → earlier s j ≡ between 0 j (λ k. tallied (le (s j) (s k))) 0
unfolding earlier between
earlier_counted s j =
    let e : j - 0 ≡ j = omega arith in
    rw e (each_agree j _ _ 0 (λ k c l. let z : 0 + k ≡ k = omega arith in rw z))
