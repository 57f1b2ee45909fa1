use mathlib.Core.Path.{◌≡◌}
use Prim.Native.Nat.{◌+◌}
use Rattle.complex.specs.Loops.{between}
use Rattle.model.specs.Qr.{term}
use Rattle.qr.proofs.Runs.sum_rest.Given as goal

abbrev pub invariant-loop-k : goal.invariant-loop-k
invariant-loop-k l = l.acc ≡ between l.from l.k (λ k. term l.self.w.now (l.self.a + k) (l.self.b + k)) l.initial.acc
