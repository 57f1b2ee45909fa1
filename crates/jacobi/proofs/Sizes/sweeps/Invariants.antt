-- The invariant: what is left to do from here ends where all of it ends.
use mathlib.Core.Path.{◌≡◌}
use Prim.Native.Nat.{◌-◌}
use Rattle.model.specs.Jacobi.{sweeps}
use Rattle.jacobi.proofs.Sizes.sweeps.Given as goal

abbrev pub invariant-loop-k : goal.invariant-loop-k
invariant-loop-k l = sweeps l.self.high l.self.wide (100 - l.k) l.w ≡ sweeps l.self.high l.self.wide 100 l.initial.w
