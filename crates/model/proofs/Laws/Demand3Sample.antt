-- Demand 3 has instances: three qubits, cap 1; gates by name and a gate by matrix whose entries are i, a projection kept and one that finds nothing, a measurement, a refused call, a reset; and layers, one of them refused.
-- So has its product clause: two gates and their product with zeros of the other sign, and three gates whose product is a named one.
use Rattle.std.specs.Prelude.{◌≡◌, refl, Bool, true, false, cond, ℕ, ◌+◌, ◌/◌, ◌%◌, T, eqb, replicate, get_or, negsuc, Float, Ok}
use Rattle.std.proofs.Common.{◌∙◌, arith, lit≤}
use mathlib.Core.List.{List, [], ◌∷◌, ◌++◌, head-eq_of_cons-eq}
use Rattle.std.specs.Float.{fin, binary64, nan}
use Rattle.std.specs.Float.Ieee.{fits, add, sub, mul, lt, le, eq, neg, of_bits}
use Rattle.complex.specs.Complex.{add_c, mul_c, zero_f, one_f, zero_c, is_zero}
use Rattle.complex.specs.Loops.{each, every, every_at}
use Rattle.complex.specs.Numbers.{at, numbers}
use Rattle.complex.specs.declared.Complex.{Complex}
use Rattle.gates.specs.Gate.{entry, gate_of}
use Rattle.gates.specs.Named.{matrix_of, named_entry}
use Rattle.gates.specs.declared.NamedGate.TheVariants.{Swap, Cx, Cz}
use Rattle.model.specs.Slots.{State, held}
use Rattle.model.specs.Layers.{gate_at}
use Rattle.model.specs.Sound.{settings_fit}
use Rattle.model.specs.Answers.{accepted, refused, none, weight, nothing, bit}
use Rattle.model.specs.Calls.{start_call}
use Rattle.model.specs.Lists.{Call, gate, named, layer, project, measure, reset, answers_of, final_state}
use Rattle.model.specs.Phases.{phase, equals, is_phase, read_phase}
use Rattle.model.specs.Machine.{Machine, fresh, refusal, nonzero_row, moved, reply, next, monomial, machine_answers, machine_after, all_allowed}
use Rattle.model.specs.Statements.Demand3.{AllF64, Follows, Demand3}
use Rattle.model.specs.Statements.Product.{matrix_product, SameGate, by_matrix, by_name, single, in_turn_lem, Alike, ProductClause, RunClause}
use Rattle.model.proofs.Laws.Demand3Proof.{demand3}
use Rattle.model.proofs.Laws.GateProducts.{all_fit, fit_entries}
use Rattle.model.proofs.Laws.Demand3Product.{Proper, joined, answers_after, run_clause, product_clause}

-- 2 ^ -40, for epsilon, clamp and draws
abbrev small : Float
small = fin false 1 (negsuc 39)

abbrev store : List Float
store = replicate 12 zero_f

abbrev work : List Float
work = replicate 96 zero_f

-- both bits flipped, and the phase times i
abbrev turn_both : ℕ → ℕ → Complex
turn_both r c = cond (eqb (r + c) 3) (record { re = zero_f; im = one_f }) zero_c

abbrev calls : List Call
calls =
    gate 0 1 (gate_of turn_both) work ∷ named 0 2 Cx work ∷ named 2 1 Cz work ∷ project 0 true work ∷ named 1 1 Cx work ∷ measure 2 7 small work
    ∷ named 0 1 Swap work ∷ reset 1 small work ∷ project 1 true work ∷ []

turn_fits : T (all_fit (gate_of turn_both))
unfolding every gate_of fits of_bits
turn_fits = tt

calls_f64 : AllF64 calls
unfolding fits of_bits
calls_f64 = (fit_entries (gate_of turn_both) turn_fits, (tt, (tt, (tt, (tt, (tt, (tt, (tt, (tt, tt)))))))))

calls_allowed : T (all_allowed 3 1 12 calls)
unfolding refusal monomial every each is_zero is_phase equals eq matrix_of gate_of named_entry of_bits neg lt le
calls_allowed = tt

start_done : (start_call 3 1 small small 5 store).answer ≡ Ok tt
unfolding start_call settings_fit le lt eq of_bits
start_done = refl

-- what the machine answers, and where it ends: bit 0 of the three is 1, bit 1 is reset, bit 2 is 1, and the phase is -i
machine_answers_lem : machine_answers 3 1 12 calls fresh
    ≡ accepted none ∷ accepted none ∷ accepted none ∷ accepted (weight one_f) ∷ refused 4 ∷ accepted (bit true) ∷ accepted none ∷ accepted none ∷ accepted nothing ∷ []
unfolding refusal reply next moved nonzero_row every each is_zero read_phase eq matrix_of gate_of named_entry of_bits neg lt le
machine_answers_lem = refl

abbrev ended : Machine
ended = machine_after 3 1 12 calls fresh

machine_ended : (ended.bits 0 ≡ true) × (ended.bits 1 ≡ false) × (ended.bits 2 ≡ true) × (ended.phase ≡ phase true true)
unfolding refusal reply next moved nonzero_row every each is_zero read_phase eq matrix_of gate_of named_entry of_bits neg lt le
machine_ended = (refl, refl, refl, refl)

abbrev started : State
started = let st = start_call 3 1 small small 5 store in held st.chain st.store

-- demand 3 of that chain
claim : (calls : List Call) → AllF64 calls → T (all_allowed 3 1 12 calls)
    → (answers_of calls started ≡ machine_answers 3 1 12 calls fresh) × Follows 3 1 (final_state calls started) (machine_after 3 1 12 calls fresh)
unfolding Demand3 fits
claim = demand3 3 1 5 small small store tt tt (lit≤ tt) (lit≤ tt) start_done

sample : (answers_of calls started ≡ machine_answers 3 1 12 calls fresh) × Follows 3 1 (final_state calls started) ended
sample = claim calls calls_f64 calls_allowed

-- so the chain answers
chain_answers : answers_of calls started
    ≡ accepted none ∷ accepted none ∷ accepted none ∷ accepted (weight one_f) ∷ refused 4 ∷ accepted (bit true) ∷ accepted none ∷ accepted none ∷ accepted nothing ∷ []
chain_answers = sample.0 ∙ machine_answers_lem

-- and so it does under the largest exponent
start_uncapped : (start_call 3 1 small small 255 store).answer ≡ Ok tt
unfolding start_call settings_fit le lt eq of_bits
start_uncapped = refl

sample_uncapped : (let st = start_call 3 1 small small 255 store in answers_of calls (held st.chain st.store) ≡ machine_answers 3 1 12 calls fresh)
unfolding Demand3 fits
sample_uncapped = (demand3 3 1 255 small small store tt tt (lit≤ tt) (lit≤ tt) start_uncapped calls calls_f64 calls_allowed).0

-- ---- layers, on four qubits: two pairs that stand apart, one of them in the order against the chain's; and a layer that names qubit 1 twice

abbrev gates : List Float
gates = numbers 32 (λ k. turn_both (k % 16 / 4) (k % 4))

abbrev layers : List Call
layers = layer (0 ∷ 2 ∷ 3 ∷ 1 ∷ []) gates work ∷ layer (0 ∷ 1 ∷ 1 ∷ 2 ∷ []) gates work ∷ project 3 true work ∷ layer [] [] work ∷ []

layers_f64 : AllF64 layers
unfolding every numbers fits of_bits
layers_f64 = (λ k l. every_at 64 (λ k. fits binary64 (get_or gates k nan)) k l tt, (λ k l. every_at 64 (λ k. fits binary64 (get_or gates k nan)) k l tt, (tt, (λ k l. absurd (omega arith), tt))))

layers_allowed : T (all_allowed 4 1 16 layers)
unfolding refusal monomial every each numbers at gate_at is_zero is_phase equals eq gate_of of_bits neg lt le
layers_allowed = tt

start_of_four : (start_call 4 1 small small 5 (replicate 16 zero_f)).answer ≡ (Ok tt)
unfolding start_call settings_fit le lt eq of_bits
start_of_four = refl

-- each pair has both its bits flipped, and the phase is i times i
layers_ended : (let M = machine_after 4 1 16 layers fresh in (M.bits 0 ≡ true) × (M.bits 1 ≡ true) × (M.bits 2 ≡ true) × (M.bits 3 ≡ true) × (M.phase ≡ phase false true))
unfolding refusal reply next moved nonzero_row every each numbers at gate_at is_zero read_phase eq gate_of of_bits neg lt le
layers_ended = (refl, refl, refl, refl, refl)

sample_layers : (let st = start_call 4 1 small small 5 (replicate 16 zero_f) in answers_of layers (held st.chain st.store) ≡ accepted none ∷ refused 9 ∷ accepted (weight one_f) ∷ accepted none ∷ [])
unfolding Demand3 fits refusal reply next moved nonzero_row every each numbers at gate_at is_zero read_phase eq gate_of of_bits neg lt le
sample_layers = (demand3 4 1 5 small small (replicate 16 zero_f) tt tt (lit≤ tt) (lit≤ tt) start_of_four layers layers_f64 layers_allowed).0

-- ---- the product clause: gates on the pair 2, 0, which stands apart and in the order against the chain's

abbrev before : List Call
before = gate 0 1 (gate_of turn_both) work ∷ []

abbrev after : List Call
after = project 0 true work ∷ measure 2 7 small work ∷ []

abbrev t : State
t = final_state before started

before_proper : Proper 3 1 12 before
unfolding refusal monomial every each is_zero is_phase equals eq gate_of of_bits neg lt le
before_proper = ((fit_entries (gate_of turn_both) turn_fits, tt), tt)

after_proper : Proper 3 1 12 after
unfolding refusal fits
after_proper = ((tt, (tt, tt)), tt)

-- equal entries, by a computed test
abbrev all_equal : List (List Complex) → List (List Complex) → Bool
all_equal g h = every 4 (λ r. every 4 (λ c. equals (entry g r c) (entry h r c)))

same_gate : (g h : List (List Complex)) → T (all_equal g h) → SameGate g h
same_gate g h e r c hr hc = every_at 4 (λ c. equals (entry g r c) (entry h r c)) c hc (every_at 4 (λ r. every 4 (λ c. equals (entry g r c) (entry h r c))) r hr e)

-- two gates: Cx by name, then a gate by matrix; and their product, written by another, its zeros' real parts being -0
abbrev two : List Call
two = named 2 0 Cx work ∷ gate 2 0 (gate_of turn_both) work ∷ []

abbrev by_hand : List (List Complex)
by_hand =
    let o : Complex = record { re = neg zero_f; im = zero_f } in
    let i : Complex = record { re = zero_f; im = one_f } in
    (o ∷ o ∷ i ∷ o ∷ []) ∷ (o ∷ o ∷ o ∷ i ∷ []) ∷ (o ∷ i ∷ o ∷ o ∷ []) ∷ (i ∷ o ∷ o ∷ o ∷ []) ∷ []

abbrev one : Call
one = gate 2 0 by_hand work

-- equal to the product computed here, and not the same bits
by_hand_same : T (all_equal by_hand (matrix_product (gate_of turn_both) (matrix_of Cx)))
unfolding every each gate_of matrix_of named_entry of_bits add_c mul_c add sub mul neg equals eq
by_hand_same = tt

by_hand_sign : ((entry by_hand 0 0).re ≡ neg zero_f) × ((entry (matrix_product (gate_of turn_both) (matrix_of Cx)) 0 0).re ≡ zero_f)
unfolding each gate_of matrix_of named_entry of_bits add_c mul_c add sub mul neg
by_hand_sign = (refl, refl)

by_hand_fits : T (all_fit by_hand)
unfolding every fits of_bits neg
by_hand_fits = tt

one_proper : Proper 3 1 12 (one ∷ [])
unfolding refusal monomial every each is_zero is_phase equals eq of_bits neg lt le
one_proper = ((fit_entries by_hand by_hand_fits, tt), tt)

one_accepted : answers_of (one ∷ []) t ≡ accepted none ∷ []
unfolding refusal reply every each of_bits neg lt le
one_accepted = answers_after 3 1 12 started claim before (one ∷ []) before_proper one_proper

two_proper : Proper 3 1 12 two
unfolding refusal monomial every each is_zero is_phase equals eq matrix_of gate_of named_entry of_bits neg lt le
two_proper = ((tt, (fit_entries (gate_of turn_both) turn_fits, tt)), tt)

two_whole : Proper 3 1 12 (before ++ (two ++ after))
two_whole = joined 3 1 12 before (two ++ after) before_proper (joined 3 1 12 two after two_proper after_proper)

two_accepted : answers_of two t ≡ accepted none ∷ accepted none ∷ []
unfolding refusal reply every each gate_of of_bits neg lt le
two_accepted = answers_after 3 1 12 started claim before two before_proper two_proper

-- what the list with the two gates answers
two_answers : answers_of (before ++ (two ++ after)) started ≡ accepted none ∷ accepted none ∷ accepted none ∷ accepted nothing ∷ accepted (bit true) ∷ []
unfolding refusal reply next moved nonzero_row every each is_zero read_phase eq matrix_of gate_of named_entry of_bits neg lt le
two_answers = (claim (before ++ (two ++ after)) two_whole.0 two_whole.1).0

two_fused : T (monomial by_hand) × Alike 3 1 started (machine_after 3 1 12 (before ++ (two ++ after)) fresh) before two after one
unfolding ProductClause fits
two_fused =
    product_clause 3 1 5 small small store tt tt (lit≤ tt) (lit≤ tt) start_done 2 0 (named 2 0 Cx work) (gate 2 0 (gate_of turn_both) work) one (matrix_of Cx) (gate_of turn_both) by_hand
    (by_name Cx work) (by_matrix (gate_of turn_both) work) (by_matrix by_hand work) (same_gate by_hand (matrix_product (gate_of turn_both) (matrix_of Cx)) by_hand_same)
    before after two_whole.0 (fit_entries by_hand by_hand_fits) two_whole.1 two_accepted (head-eq_of_cons-eq one_accepted)

-- three gates, Swap, Cx and Cx; and their product, which is Swap, by name
abbrev three : List Call
three = named 2 0 Swap work ∷ named 2 0 Cx work ∷ named 2 0 Cx work ∷ []

swap_same : T (all_equal (matrix_of Swap) (matrix_product (matrix_product (matrix_of Cx) (matrix_of Cx)) (matrix_of Swap)))
unfolding every each gate_of matrix_of named_entry of_bits add_c mul_c add sub mul neg equals eq
swap_same = tt

three_proper : Proper 3 1 12 three
unfolding refusal monomial every each is_zero is_phase equals eq matrix_of gate_of named_entry of_bits neg lt le
three_proper = ((tt, (tt, (tt, tt))), tt)

three_accepted : answers_of three t ≡ accepted none ∷ accepted none ∷ accepted none ∷ []
unfolding refusal reply
three_accepted = answers_after 3 1 12 started claim before three before_proper three_proper

three_fused : T (monomial (matrix_of Swap)) × Alike 3 1 started (machine_after 3 1 12 (before ++ (three ++ after)) fresh) before three after (named 2 0 Swap work)
unfolding RunClause fits
three_fused =
    let p = joined 3 1 12 before (three ++ after) before_proper (joined 3 1 12 three after three_proper after_proper) in
    let m = matrix_product (matrix_product (matrix_of Cx) (matrix_of Cx)) (matrix_of Swap) in
    run_clause 3 1 5 small small store tt tt (lit≤ tt) (lit≤ tt) start_done 2 0 three (named 2 0 Swap work) m (matrix_of Swap)
    (in_turn_lem (single (by_name Swap work)) (in_turn_lem (single (by_name Cx work)) (single (by_name Cx work)))) (by_name Swap work) (same_gate (matrix_of Swap) m swap_same)
    before after p.0 tt p.1 three_accepted (head-eq_of_cons-eq three_accepted)
