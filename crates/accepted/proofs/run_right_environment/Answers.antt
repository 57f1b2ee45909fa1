use native.Mathlib.Omega.{arith}
use Rattle.std.proofs.lemmas.Bool.Decides.{nat_tests}
use Rattle.accepted.specs.Accepted.{sound_told, ready_part}
use Rattle.accepted.proofs.run_right_environment.Goals as goal

pub compute_right_env-right_dim-requires-clause-ready : goal.compute_right_env-right_dim-requires-clause-ready
compute_right_env-right_dim-requires-clause-ready c = grind (arith, nat_tests, sound_told, ready_part)
