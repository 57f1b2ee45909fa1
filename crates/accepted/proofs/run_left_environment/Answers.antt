use native.Mathlib.Omega.{arith}
use Rattle.std.proofs.lemmas.Bool.Decides.{nat_tests}
use Rattle.accepted.specs.Accepted.{sound_told, ready_part}
use Rattle.accepted.proofs.run_left_environment.Goals as goal

pub compute_left_env-left_dim-requires-clause-ready : goal.compute_left_env-left_dim-requires-clause-ready
compute_left_env-left_dim-requires-clause-ready c = grind (arith, nat_tests, sound_told, ready_part)
