-- After k layers the chain and both slices are those of k steps.
use mathlib.Core.Path.{◌≡◌}
use Rattle.complex.specs.Loops.{each}
use Rattle.bench_export.specs.Gates.{left, layer_step}
use Rattle.bench_export.proofs.apply_layers.Given as goal

abbrev pub invariant-loop-k : goal.invariant-loop-k
invariant-loop-k l = left l.out l.store l.work ≡ each l.k (layer_step l.pairs l.numbers l.count) (left l.initial.out l.initial.store l.initial.work)
