use mathlib.Core.Path.{◌≡◌}
use mathlib.Core.Bool.{false, ◌||◌}
use lib.Ieee.{is_nan}
use Rattle.complex.specs.Loops.{each}
use Rattle.svd.specs.Values.{value_of}
use Rattle.svd.proofs.Values.any_nan.Given as goal

abbrev pub invariant-loop-k : goal.invariant-loop-k
invariant-loop-k l = l.bad ≡ each l.k (λ k b. b || is_nan (value_of l.self k)) false
