use mathlib.Core.Path.{◌≡◌}
use Rattle.complex.specs.Loops.{each}
use Rattle.model.specs.Svd.{normalised}
use Rattle.svd.proofs.normalise_columns.Given as goal

abbrev pub invariant-loop-j : goal.invariant-loop-j
invariant-loop-j l = l.w ≡ each l.j (normalised l.s.high l.s.wide l.clamp) l.initial.w
