use mathlib.Core.Path.{◌≡◌}
use Prim.Native.Nat.{◌+◌, ◌*◌}
use Rattle.model.specs.Qr.{run_of}
use Rattle.qr.proofs.Runs.sum_fours.Given as goal

abbrev pub invariant-loop-t : goal.invariant-loop-t
invariant-loop-t l = (l.s0 ≡ run_of l.self.w.now l.self.a l.self.b (λ t. 4 * t) l.t) × (l.s1 ≡ run_of l.self.w.now l.self.a l.self.b (λ t. 4 * t + 1) l.t) × (l.s2 ≡ run_of l.self.w.now l.self.a l.self.b (λ t. 4 * t + 2) l.t) × (l.s3 ≡ run_of l.self.w.now l.self.a l.self.b (λ t. 4 * t + 3) l.t)
