-- One pass more of `passes_of`: it is the last, or there is another. Assumes nothing.
use mathlib.Core.Path.{◌≡◌}
use mathlib.Core.Bool.{cond}
use mathlib.Core.List.{List}
use Prim.Native.Nat.{ℕ, suc, ◌+◌, ◌-◌, ◌<◌, ◌≤◌}
use native.Mathlib.Omega.{arith}
use lib.Ieee.{Float, binary64, mul, lt}
use Rattle.model.specs.Qr.{pass_retain, passed, pass_of, passes_of}

module _ (high wide rank j n : ℕ) (previous : Float) (w : List Float) where
  pub passes_done : 3 ≤ n → passes_of high wide rank j (3 - n) previous w ≡ passed previous w
  unfolding passes_of
  passes_done l = let e : 3 - n ≡ 0 = omega arith in rw e

  pub passes_turn : n < 3 → let x = pass_of high wide rank j w in passes_of high wide rank j (3 - n) previous w ≡ cond (lt (mul binary64 pass_retain previous) x.residual) x (passes_of high wide rank j (3 - (n + 1)) x.residual x.w)
  unfolding passes_of
  passes_turn l = let e : 3 - n ≡ suc (3 - (n + 1)) = omega arith in rw e
