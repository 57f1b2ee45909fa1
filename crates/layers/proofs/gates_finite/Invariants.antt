use Rattle.std.proofs.Common.{◌≡◌}
use Rattle.complex.specs.Loops.{every}
use Rattle.gates.specs.Finite.{all_finite}
use Rattle.model.specs.Layers.{gate_at}
use Rattle.layers.proofs.gates_finite.Given as goal

abbrev pub invariant-loop-p : goal.invariant-loop-p
invariant-loop-p l = l.ok ≡ every l.p (λ k. all_finite (gate_at l.gates k))
