-- One sweep more of `sweeps`, and a pair of numbers turned by factors. Assumes nothing.
use mathlib.Core.Path.{◌≡◌}
use mathlib.Core.Bool.{cond}
use mathlib.Core.List.{List}
use Prim.Native.Nat.{ℕ, suc, ◌+◌, ◌-◌, ◌≤◌, ◌<◌}
use native.Mathlib.Omega.{arith}
use lib.Ieee.{Float}
use Rattle.complex.specs.Numbers.{at}
use Rattle.model.specs.Jacobi.{rotated_pair, sweep, sweeps}
use Rattle.model.specs.declared.Rotation.{Rotation}
use Rattle.jacobi.specs.Factors.{Turns, turned_pair}
use Rattle.jacobi.specs.declared.Turn.{Turn}

pub turned_rotated : (turn : Turn) (t : Rotation) → Turns turn t → (i j : ℕ) (w : List Float) → turned_pair turn i j w ≡ rotated_pair t i j w
unfolding turned_pair rotated_pair
turned_rotated turn t h i j w = rw (h.on_p (at w i) (at w j), h.on_q (at w i) (at w j))

-- over any limit: with a literal in the place of the limit all its sweeps would be computed
module _ (high wide limit k : ℕ) (w : List Float) where
  pub sweeps_done : limit ≤ k → sweeps high wide (limit - k) w ≡ w
  unfolding sweeps
  sweeps_done l = let e : limit - k ≡ 0 = omega arith in rw e

  pub sweeps_turn : k < limit → sweeps high wide (limit - k) w ≡ cond (sweep high wide w).turned (sweeps high wide (limit - (k + 1)) (sweep high wide w).w) (sweep high wide w).w
  unfolding sweeps
  sweeps_turn l = let e : limit - k ≡ suc (limit - (k + 1)) = omega arith in rw e
