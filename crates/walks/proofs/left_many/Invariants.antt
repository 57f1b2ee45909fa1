-- The invariant: acc has the first r terms.
use mathlib.Core.Path.{◌≡◌}
use Prim.Native.Nat.{◌+◌, ◌*◌}
use Rattle.complex.specs.Complex.{conj_c, zero_c}
use Rattle.complex.specs.Loops.{each}
use Rattle.complex.specs.Numbers.{at}
use Rattle.walks.specs.Products.{plus_unless_zero}
use Rattle.walks.proofs.left_many.Given as goal

abbrev pub invariant-loop-r : goal.invariant-loop-r
invariant-loop-r l = l.acc ≡ each l.r (λ r. plus_unless_zero (at l.front (l.mid + (r * l.site.right + l.g))) (conj_c (at l.site.numbers.now (r * l.site.right + l.g1)))) zero_c
