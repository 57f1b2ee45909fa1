-- The invariant: acc has the first k entries' terms.
use mathlib.Core.Path.{◌≡◌}
use Prim.Native.Nat.{◌/◌, ◌%◌}
use Rattle.complex.specs.Complex.{zero_c}
use Rattle.complex.specs.Loops.{each}
use Rattle.complex.specs.Numbers.{at}
use Rattle.walks.specs.Products.{cell_left}
use Rattle.walks.proofs.left_few.Given as goal

abbrev pub invariant-loop-k : goal.invariant-loop-k
invariant-loop-k l = l.acc ≡ each l.k (λ k. cell_left l.site.right l.site.numbers.now (k / l.site.left) (k % l.site.left) l.g l.g1 (at l.env k)) zero_c
