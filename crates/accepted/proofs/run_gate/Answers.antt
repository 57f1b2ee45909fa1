use native.Mathlib.Omega.{arith}
use Rattle.std.proofs.lemmas.Bool.Decides.{nat_tests}
use Rattle.accepted.specs.Accepted.{sound_told, ready_part}
use Rattle.accepted.proofs.run_gate.Goals as goal

pub invariant_of-mps : goal.invariant_of-mps
invariant_of-mps c = record { ready = grind (arith, nat_tests, sound_told, ready_part) }
