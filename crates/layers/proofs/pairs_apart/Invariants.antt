use Rattle.std.proofs.Common.{◌≡◌}
use Rattle.complex.specs.Loops.{every}
use Rattle.layers.specs.Named.{marked, free}
use Rattle.layers.proofs.pairs_apart.Given as goal

abbrev pub invariant-loop-p : goal.invariant-loop-p
invariant-loop-p l = record { marks : l.named ≡ marked l.pairs l.p; value : l.apart ≡ every l.p (free l.pairs) }
