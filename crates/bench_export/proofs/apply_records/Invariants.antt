-- After k records the chain and both slices are those of k steps.
use mathlib.Core.Path.{◌≡◌}
use Rattle.complex.specs.Loops.{each}
use Rattle.bench_export.specs.Gates.{left, record_step}
use Rattle.bench_export.proofs.apply_records.Given as goal

abbrev pub invariant-loop-k : goal.invariant-loop-k
invariant-loop-k l = left l.out l.store l.work ≡ each l.k (record_step l.gates) (left l.initial.out l.initial.store l.initial.work)
