use mathlib.Core.Path.{◌≡◌}
use Prim.Native.Nat.{◌+◌}
use lib.Ieee.{nan, binary64, mul}
use lib.ListN.{get_or}
use Rattle.complex.specs.Complex.{zero_f}
use Rattle.complex.specs.Loops.{sum_f}
use Rattle.truncation.proofs.sum_squares_from.Given as goal

abbrev pub invariant-loop-x : goal.invariant-loop-x
invariant-loop-x l = l.sum ≡ sum_f l.x-index (λ j. mul binary64 (get_or l.s (l.from + j) nan) (get_or l.s (l.from + j) nan)) zero_f
