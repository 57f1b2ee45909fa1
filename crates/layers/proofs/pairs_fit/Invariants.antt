use Rattle.std.proofs.Common.{◌≡◌, not}
use Rattle.complex.specs.Loops.{every}
use Rattle.model.specs.Layers.{first, second}
use Rattle.model.specs.Calls.{no_pair}
use Rattle.layers.proofs.pairs_fit.Given as goal

abbrev pub invariant-loop-p : goal.invariant-loop-p
invariant-loop-p l = l.ok ≡ every l.p (λ k. not (no_pair l.n (first l.pairs k) (second l.pairs k)))
