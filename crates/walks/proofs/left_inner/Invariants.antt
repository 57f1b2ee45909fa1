-- The invariant: acc has the first a terms.
use mathlib.Core.Path.{◌≡◌}
use Prim.Native.Nat.{◌+◌, ◌*◌}
use Rattle.complex.specs.Complex.{zero_c}
use Rattle.complex.specs.Loops.{each}
use Rattle.complex.specs.Numbers.{at}
use Rattle.walks.specs.Products.{plus_unless_zero}
use Rattle.walks.proofs.left_inner.Given as goal

abbrev pub invariant-loop-a : goal.invariant-loop-a
invariant-loop-a l = l.acc ≡ each l.a (λ a. plus_unless_zero (at l.env (a * l.site.left + l.a1)) (at l.site.numbers.now (a * (2 * l.site.right) + l.c))) zero_c
