-- The invariant: the first g values are in order.
use mathlib.Core.Path.{◌≡◌}
use Prim.Native.Nat.{◌+◌}
use lib.ListN.{get_or, take}
use Rattle.complex.specs.Loops.{tabulate}
use Rattle.complex.specs.Numbers.{at}
use Rattle.svd.proofs.sorted_values.Given as goal

abbrev pub invariant-loop-g : goal.invariant-loop-g
invariant-loop-g l = take l.g l.s ≡ tabulate l.g (λ g. (at l.w (l.base + get_or l.order g 0)).re)
