use mathlib.Core.Path.{◌≡◌}
use mathlib.Core.Bool.{Bool, ◌||◌}
use Prim.Native.Nat.{◌+◌}
use Rattle.complex.specs.Loops.{between}
use Rattle.model.specs.Jacobi.{swept, pair_step}
use Rattle.jacobi.proofs.Sizes.row_of_pairs.Given as goal

abbrev pub invariant-loop-q : goal.invariant-loop-q
invariant-loop-q l = (before : Bool) → swept (before || l.rotated) l.w ≡ between (l.p + 1) l.q (pair_step l.self.high l.self.wide l.p) (swept before l.initial.w)
