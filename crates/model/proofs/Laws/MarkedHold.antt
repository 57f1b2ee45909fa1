-- Every row of the table of marked examples holds, by computation.
use Rattle.std.specs.Prelude.{◌≡◌, refl, true}
use Rattle.std.specs.Float.Ieee.{sub, mul, div, le, is_nan, of_bits, to_bits}
use Rattle.complex.specs.Complex.{add_c, conj_c, mul_c, norm_sqr, scale_c}
use Rattle.complex.specs.Loops.{each, between, tabulate, every}
use Rattle.complex.specs.Numbers.{at, store, numbers}
use Rattle.complex.specs.Matrix.{rows}
use Rattle.gates.specs.Finite.{finite_c, all_finite}
use Rattle.gates.specs.Gate.{gate_of, swap_gate_qubits}
use Rattle.gates.specs.Named.{named_entry, matrix_of}
use Rattle.root.specs.Root.{root_of}
use Rattle.model.specs.Slots.{filled}
use Rattle.model.specs.Columns.{l2_norm, scaled_to, zeroed}
use Rattle.model.specs.Qr.{pass_of, passes_of, kept_of, column_of, raised, qr}
use Rattle.model.specs.Jacobi.{skipped, pair_step, row_of_pairs, sweep, sweeps}
use Rattle.model.specs.Svd.{identity_at, normalised, factored, earlier, later, order_of, any_nan, values, svd}
use Rattle.model.specs.Truncation.{rank, rank_reason, resolvable, share}
use Rattle.model.specs.Pair as pair
use Rattle.model.specs.Pair.{pair_svd, isometry_site, scaled_site, vt_site, scaled_vt_site}
use Rattle.model.specs.Moves.{absorbed_right, step_right, absorbed_left, step_left, walk_right, walk_left, moved, established}
use Rattle.model.specs.Cut.{cut_with, attempt, adjacent, adjacent_reason}
use Rattle.model.specs.Routing.{stepped, run_steps, gate_run, gate_reason}
use Rattle.model.specs.Sound.{settings_fit, bonds_fit, undoes, discarded_fits, sized, sound}
use Rattle.model.specs.Start.{fresh_chain, fresh_store}
use Rattle.model.specs.Calls.{gate_call, named_gate_call}
use Rattle.model.specs.Statements.Marked.{all_hold, table}

pub marked : all_hold table ≡ true
unfolding table sub mul div le is_nan of_bits to_bits add_c conj_c mul_c norm_sqr scale_c each between tabulate every at store numbers rows finite_c all_finite gate_of swap_gate_qubits named_entry matrix_of root_of filled l2_norm scaled_to zeroed pass_of passes_of kept_of column_of raised qr skipped pair_step row_of_pairs sweep sweeps identity_at normalised factored earlier later order_of any_nan values svd rank rank_reason resolvable share pair.matrix_of pair_svd isometry_site scaled_site vt_site scaled_vt_site absorbed_right step_right absorbed_left step_left walk_right walk_left moved established cut_with attempt adjacent adjacent_reason stepped run_steps gate_run gate_reason settings_fit bonds_fit undoes discarded_fits sized sound fresh_chain fresh_store gate_call named_gate_call
marked = refl
