use native.Mathlib.Omega.{arith}
use Rattle.std.proofs.lemmas.Result.{err_from_is_err_and}
use Rattle.routing.specs.Kept.{relabelled_ready}
use Rattle.routing.specs.Runs.{step_on, step_out}
use Rattle.routing.proofs.swap_step.Goals as goal

pub returns-in_err-apply_adjacent_two_qubit-clause-value : goal.returns-in_err-apply_adjacent_two_qubit-clause-value
returns-in_err-apply_adjacent_two_qubit-clause-value c = let p = err_from_is_err_and c.from_residual.result c.from_residual.ensures.1 in
    rw (p.1, p.2) (step_out _ _ _ c.matrix_4x4-gate.ensures _ _ _ c.apply_adjacent_two_qubit.ensures.value _ c.in_err-apply_adjacent_two_qubit.was)

pub invariant_of-mps : goal.invariant_of-mps
invariant_of-mps c = let m = c.apply_adjacent_two_qubit in
    record { ready = relabelled_ready _ _ _ _ _ m.new.mps.ready (omega (arith, c.requires, m.ensures.place.stays.qubits)) c.swap_layout_labels.ensures }

pub returns-clause-value : goal.returns-clause-value
returns-clause-value c = step_on _ _ _ c.matrix_4x4-gate.ensures _ _ _ c.apply_adjacent_two_qubit.ensures.value _ _ c.in_ok-apply_adjacent_two_qubit.was c.swap_layout_labels.ensures
