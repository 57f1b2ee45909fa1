use mathlib.Core.Path.{◌≡◌}
use Rattle.complex.specs.Loops.{each}
use Rattle.model.specs.Jacobi.{swept, row_of_pairs}
use Rattle.jacobi.proofs.Sizes.sweep.Given as goal

abbrev pub invariant-loop-p : goal.invariant-loop-p
invariant-loop-p l = swept l.rotated l.w ≡ each l.p (row_of_pairs l.self.high l.self.wide) (swept l.initial.rotated l.initial.w)
