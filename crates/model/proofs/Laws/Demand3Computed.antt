-- Demand 3 on a short list, computed from the calls' definitions and not by way of the theorem: a gate that flips both bits, twice, and a projection after each; and the same by layers.
-- A chain that does only the first of the two gates, never moves a bit, or leaves out a layer's last pair, computes other answers.
use Rattle.std.specs.Prelude.{◌≡◌, refl, true, false, cond, List, [], ◌∷◌, ◌+◌, ◌/◌, ◌%◌, eqb, replicate, Float}
use Rattle.std.specs.Float.Ieee.{sub, mul, div, le, is_nan, of_bits, to_bits}
use Rattle.complex.specs.Complex.{add_c, conj_c, mul_c, norm_sqr, scale_c, zero_f, one_f, zero_c}
use Rattle.complex.specs.Loops.{each, between, tabulate, every}
use Rattle.complex.specs.Numbers.{at, store, numbers}
use Rattle.complex.specs.Matrix.{rows}
use Rattle.complex.specs.declared.Complex.{Complex}
use Rattle.gates.specs.Finite.{finite_c, all_finite}
use Rattle.gates.specs.Gate.{gate_of}
use Rattle.root.specs.Root.{root_of}
use Rattle.model.specs.Slots.{State, held, work_room, filled}
use Rattle.model.specs.Columns.{l2_norm, scaled_to, zeroed}
use Rattle.model.specs.Qr.{pass_of, passes_of, kept_of, column_of, raised, qr}
use Rattle.model.specs.Jacobi.{skipped, pair_step, row_of_pairs, sweep, sweeps}
use Rattle.model.specs.Svd.{identity_at, normalised, factored, earlier, later, order_of, any_nan, values, svd}
use Rattle.model.specs.Truncation.{rank, resolvable, share}
use Rattle.model.specs.Pair.{matrix_of, pair_svd, isometry_site, scaled_site, vt_site, scaled_vt_site}
use Rattle.model.specs.Moves.{absorbed_right, step_right, absorbed_left, step_left, walk_right, walk_left, moved, established}
use Rattle.model.specs.Cut.{cut_with, attempt, adjacent}
use Rattle.model.specs.Layers.{gate_at, placed_from}
use Rattle.model.specs.Routing.{stepped, run_steps, gate_run, layer_run}
use Rattle.model.specs.Born as born
use Rattle.model.specs.Born.{projected_site, projected_at}
use Rattle.model.specs.Sound.{settings_fit, bonds_fit, undoes, discarded_fits, sized, sound}
use Rattle.model.specs.Start.{fresh_chain, fresh_store}
use Rattle.model.specs.Answers.{accepted, none, weight}
use Rattle.model.specs.Calls.{gate_call, lengths_agree, pairs_fit, pairs_apart, gates_finite, layer_call, project_call, cleared}
use Rattle.model.specs.Lists.{Call, gate, layer, project, answers_of}

abbrev work : List Float
work = replicate (work_room 1) zero_f

-- ones where row and column are each other's complement
abbrev flip_both : List (List Complex)
flip_both = gate_of (λ r c. cond (eqb (r + c) 3) (record { re = one_f; im = zero_f }) zero_c)

abbrev calls : List Call
calls = gate 0 1 flip_both work ∷ project 0 true work ∷ gate 0 1 flip_both work ∷ project 0 false work ∷ []

-- two qubits, cap 1, workspace exponent 5
abbrev fresh : State
fresh = held (fresh_chain 2 1 zero_f zero_f 5) (fresh_store 2 1 [])

pub flipped_twice : answers_of calls fresh ≡ accepted none ∷ accepted (weight one_f) ∷ accepted none ∷ accepted (weight one_f) ∷ []
unfolding sub mul div le is_nan of_bits to_bits add_c conj_c mul_c norm_sqr scale_c each between tabulate every at store numbers rows finite_c all_finite gate_of root_of filled l2_norm scaled_to zeroed pass_of passes_of kept_of column_of raised qr skipped pair_step row_of_pairs sweep sweeps identity_at normalised factored earlier later order_of any_nan values svd rank resolvable share matrix_of pair_svd isometry_site scaled_site vt_site scaled_vt_site absorbed_right step_right absorbed_left step_left walk_right walk_left moved established cut_with attempt adjacent stepped run_steps gate_run born.weight projected_site projected_at settings_fit bonds_fit undoes discarded_fits sized sound fresh_chain fresh_store gate_call project_call cleared
flipped_twice = refl

-- the same by two layers of one pair
abbrev flips : List Float
flips = numbers 16 (λ k. cond (eqb (k / 4 + k % 4) 3) (record { re = one_f; im = zero_f }) zero_c)

abbrev layers : List Call
layers = layer (0 ∷ 1 ∷ []) flips work ∷ project 0 true work ∷ layer (0 ∷ 1 ∷ []) flips work ∷ project 0 false work ∷ []

pub flipped_by_layers : answers_of layers fresh ≡ accepted none ∷ accepted (weight one_f) ∷ accepted none ∷ accepted (weight one_f) ∷ []
unfolding sub mul div le is_nan of_bits to_bits add_c conj_c mul_c norm_sqr scale_c each between tabulate every at store numbers rows finite_c all_finite gate_of root_of filled l2_norm scaled_to zeroed pass_of passes_of kept_of column_of raised qr skipped pair_step row_of_pairs sweep sweeps identity_at normalised factored earlier later order_of any_nan values svd rank resolvable share matrix_of pair_svd isometry_site scaled_site vt_site scaled_vt_site absorbed_right step_right absorbed_left step_left walk_right walk_left moved established cut_with attempt adjacent stepped run_steps gate_run layer_run placed_from gate_at lengths_agree pairs_fit pairs_apart gates_finite born.weight projected_site projected_at settings_fit bonds_fit undoes discarded_fits sized sound fresh_chain fresh_store layer_call project_call cleared
flipped_by_layers = refl
