-- Laws of `specs/Marked.antt`.
use Rattle.std.specs.Prelude.{◌≡◌, refl, true}
use Rattle.std.specs.Float.Ieee.{sub, mul, div, le, is_nan, of_bits, to_bits}
use Rattle.complex.specs.Complex.{add_c, sub_c, neg_c, conj_c, mul_c, is_zero, norm_sqr, scale_c, unscale_c}
use Rattle.complex.specs.Loops.{each, between, tabulate, every}
use Rattle.complex.specs.Numbers.{at, store, numbers}
use Rattle.complex.specs.Matrix.{rows}
use Rattle.root.specs.Root.{root_of}
use Rattle.gates.specs.Finite.{finite_c, all_finite}
use Rattle.gates.specs.Gate.{gate_of, swap_gate_qubits}
use Rattle.gates.specs.Named.{named_entry, matrix_of}
use Rattle.model.specs.Slots.{filled}
use Rattle.model.specs.Columns.{l2_norm, scaled_to, zeroed}
use Rattle.model.specs.Qr.{dot, term, projected_on, taken_away, pass_of, passes_of, kept_of, column_of, raised, qr}
use Rattle.model.specs.Jacobi.{skipped, tangent, rotation, rotated_p, rotated_q, rotated_pair, rotated, pair_step, row_of_pairs, sweep, sweeps}
use Rattle.model.specs.Svd.{identity_at, normalised, factored, earlier, later, order_of, any_nan, values, svd}
use Rattle.model.specs.Truncation.{rank, resolvable, share}
use Rattle.model.specs.Pair as pair
use Rattle.model.specs.Pair.{pair_svd, isometry_site, scaled_site, vt_site, scaled_vt_site}
use Rattle.model.specs.Moves.{absorbed_right, step_right, absorbed_left, step_left, walk_right, walk_left, moved, established}
use Rattle.model.specs.Cut.{cut_with, attempt, adjacent}
use Rattle.model.specs.Routing.{stepped, run_steps, gate_run}
use Rattle.model.specs.Born.{weight, projected_site, projected_at}
use Rattle.model.specs.Sound.{settings_fit, bonds_fit, undoes, sized, discarded_fits, sound}
use Rattle.model.specs.Start.{fresh_chain, fresh_store, zero_chain}
use Rattle.model.specs.Calls.{cleared, start_call, gate_call, named_gate_call, project_call}
use Rattle.model.specs.Statements.Marked.{all_hold}
use Rattle.bytes_le.specs.Value.{value}
use Rattle.record.specs.Layout.{body_size, field_bytes, has_length, more_bytes}
use Rattle.record.specs.Fields.{named_gate, bit_in, record_in}
use Rattle.record.specs.Reading.{accepted, read_of}
use Rattle.record.specs.Frames.{record_size, frames}
use Rattle.lines.specs.Text.{decimal, hex_digit, hex_text, detail_text, line_text}
use Rattle.session.specs.Session.{start_step, named_gate_step, projection_step, kind_step, in_turn, step_of}
use Rattle.stream.specs.Output.{lines_from, lines_of, text_of}
use Rattle.stream.specs.Marked.{table}

pub marked : all_hold table ≡ true
unfolding table sub mul div le is_nan of_bits to_bits add_c sub_c neg_c conj_c mul_c is_zero norm_sqr scale_c unscale_c each between tabulate every at store numbers rows root_of finite_c all_finite gate_of swap_gate_qubits named_entry matrix_of filled l2_norm scaled_to zeroed dot term projected_on taken_away pass_of passes_of kept_of column_of raised qr skipped tangent rotation rotated_p rotated_q rotated_pair rotated pair_step row_of_pairs sweep sweeps identity_at normalised factored earlier later order_of any_nan values svd rank resolvable share pair.matrix_of pair_svd isometry_site scaled_site vt_site scaled_vt_site absorbed_right step_right absorbed_left step_left walk_right walk_left moved established cut_with attempt adjacent stepped run_steps gate_run weight projected_site projected_at settings_fit bonds_fit undoes sized discarded_fits sound fresh_chain fresh_store zero_chain cleared start_call gate_call named_gate_call project_call value body_size field_bytes has_length more_bytes named_gate bit_in record_in accepted read_of record_size frames decimal hex_digit hex_text detail_text line_text start_step named_gate_step projection_step kind_step in_turn step_of lines_from lines_of text_of
marked = refl
