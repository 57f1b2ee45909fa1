-- The public calls, on all inputs: each is its refusals in their order around a run, with everything that it leaves.
use Rattle.std.specs.Prelude.{ℕ, zero, suc, ◌*◌, ◌/◌, Bool, false, not, ◌&&◌, ◌||◌, cond, List, ◌++◌, leb, ltb, eqb, length, drop, replicate, set, Float, Ok, Err}
use Rattle.std.specs.Float.{binary64}
use Rattle.std.specs.Float.Ieee.{div, le}
use Rattle.complex.specs.Complex.{zero_f}
use Rattle.complex.specs.Loops.{every}
use Rattle.complex.specs.declared.Complex.{Complex}
use Rattle.gates.specs.Finite.{all_finite}
use Rattle.gates.specs.Named.{matrix_of}
use Rattle.gates.specs.declared.NamedGate.{NamedGate}
use Rattle.model.specs.declared.Chain.{Chain}
use Rattle.model.specs.declared.Reason.{Reason}
use Rattle.model.specs.declared.Layered.{Layered}
use Rattle.model.specs.declared.Layered.TheVariants as layered
use Rattle.model.specs.declared.Projected.{Projected}
use Rattle.model.specs.declared.Projected.TheVariants as projected
use Rattle.model.specs.Answers.{Answer, Applied, Measured, Contracted}
use Rattle.model.specs.Chain.{site_of, with_bits}
use Rattle.model.specs.Slots.{State, held, store_room, work_room}
use Rattle.model.specs.Cut.{Ran}
use Rattle.model.specs.Layers.{pair_count, first, second, gate_at, layer_of}
use Rattle.model.specs.Routing.{gate_run, gate_reason, LayerRan, layer_run}
use Rattle.model.specs.Born.{weight_at, total_at, drawn_at, projected_at, reset_at, readied}
use Rattle.model.specs.Environment.{Env, left_env, right_env}
use Rattle.model.specs.Sound.{share01, settings_fit, sound}
use Rattle.model.specs.Start.{fresh_chain, fresh_store, zero_chain}

-- what a call leaves: its answer, the record, the store and the work slice
pub record After (A : Type 0) : Type 0 where
  pub answer : A
  pub chain : Chain
  pub store : List Float
  pub work : List Float

abbrev pub after : {A : Type 0} → A → State → List Float → After A
after a s work = record { answer = a; chain = s.chain; store = s.store; work = work }

-- ---- refusals

-- the number of the first ground that holds, tried in the order 3, 2, 4, 9, 5; 0 where none does. 9, a qubit named twice, is a ground of layers alone
abbrev pub first_among : Bool → Bool → Bool → Bool → Bool → ℕ
first_among unsound short outside twice improper = cond unsound 3 (cond short 2 (cond outside 4 (cond twice 9 (cond improper 5 0))))

abbrev pub first_of : Bool → Bool → Bool → Bool → ℕ
first_of unsound short outside improper = first_among unsound short outside false improper

-- a store or a work slice too short for the chain
abbrev pub short : Chain → List Float → List Float → Bool
short c store work = ltb (length store) (store_room c.num_qubits c.max_bond_dim) || ltb (length work) (work_room c.max_bond_dim)

-- no qubit of the chain
abbrev pub outside : Chain → ℕ → Bool
outside c q = leb c.num_qubits q

-- the work slice after a call that was accepted, or refused by 6 or 7: +0 as far as the call needs it
unfoldable pub cleared : Chain → List Float → List Float
cleared c work = replicate (work_room c.max_bond_dim) zero_f ++ drop (work_room c.max_bond_dim) work

-- ---- start

pub record Started : Type 0 where
  pub answer : Answer
  pub chain : Chain
  pub store : List Float

abbrev pub started : Answer → Chain → List Float → Started
started a c store = record { answer = a; chain = c; store = store }

unfoldable pub start_call : ℕ → ℕ → Float → Float → ℕ → List Float → Started
start_call n d epsilon clamp exponent store =
    cond (not (settings_fit n d epsilon clamp exponent)) (started (Err 1) zero_chain store)
    (cond (ltb (length store) (store_room n d)) (started (Err 2) zero_chain store)
    (started (Ok tt) (fresh_chain n d epsilon clamp exponent) (fresh_store n d store)))

-- ---- a gate on the qubits q0 and q1, by matrix and by name

-- not two of n qubits
abbrev pub no_pair : ℕ → ℕ → ℕ → Bool
no_pair n q0 q1 = leb n q0 || leb n q1 || eqb q0 q1

abbrev pub gate_refusal : State → List Float → ℕ → ℕ → List (List Complex) → ℕ
gate_refusal s work q0 q1 gate =
    first_of (not (sound s.chain)) (short s.chain s.store work) (no_pair s.chain.num_qubits q0 q1) (not (all_finite gate))

-- the reason where nothing refused the run, else its number
abbrev pub applied_of : Reason → ℕ → Applied
applied_of reason zero = Ok reason
applied_of reason (suc k) = Err (suc k)

abbrev pub gate_after : Reason → Ran → List Float → After Applied
gate_after reason r work = after (applied_of reason r.refused) r.state work

unfoldable pub gate_call : State → List Float → ℕ → ℕ → List (List Complex) → After Applied
gate_call s work q0 q1 gate =
    let k = gate_refusal s work q0 q1 gate in
    cond (eqb k 0) (gate_after (gate_reason gate q0 q1 s) (gate_run gate q0 q1 s) (cleared s.chain work)) (after (Err k) s work)

unfoldable pub named_gate_call : State → List Float → ℕ → ℕ → NamedGate → After Applied
named_gate_call s work q0 q1 name = gate_call s work q0 q1 (matrix_of name)

-- ---- a layer of pairs in one call (document 02, W1)

-- so many bytes are two a pair, and so many numbers 32 a pair
unfoldable pub lengths_agree : ℕ → ℕ → Bool
lengths_agree bytes numbers = eqb bytes (2 * (bytes / 2)) && eqb numbers (32 * (bytes / 2))

-- each pair is two of n qubits
unfoldable pub pairs_fit : ℕ → List ℕ → Bool
pairs_fit n pairs = every (pair_count pairs) (λ p. not (no_pair n (first pairs p) (second pairs p)))

-- the pairs p and r name one qubit; no pair meets one before it
abbrev pub meet : List ℕ → ℕ → ℕ → Bool
meet pairs p r =
    eqb (first pairs p) (first pairs r) || eqb (first pairs p) (second pairs r) || eqb (second pairs p) (first pairs r) || eqb (second pairs p) (second pairs r)

unfoldable pub pairs_apart : List ℕ → Bool
pairs_apart pairs = every (pair_count pairs) (λ p. every p (λ r. not (meet pairs r p)))

-- the first n gates are of finite numbers
unfoldable pub gates_finite : ℕ → List Float → Bool
gates_finite n gates = every n (λ p. all_finite (gate_at gates p))

-- each ground over the whole layer; `few`: the store or the work slice is too short
abbrev pub layer_number : Chain → Bool → List ℕ → List Float → ℕ
layer_number c few pairs gates =
    first_among (not (sound c)) (few || not (lengths_agree (length pairs) (length gates))) (not (pairs_fit c.num_qubits pairs)) (not (pairs_apart pairs)) (not (gates_finite (pair_count pairs) gates))

abbrev pub layer_refusal : State → List Float → List ℕ → List Float → ℕ
layer_refusal s work pairs gates = layer_number s.chain (short s.chain s.store work) pairs gates

abbrev pub layer_after : LayerRan → List Float → After Layered
layer_after r work = after r.answer r.state work

unfoldable pub layer_call : State → List Float → List ℕ → List Float → After Layered
layer_call s work pairs gates =
    let k = layer_refusal s work pairs gates in
    cond (eqb k 0) (layer_after (layer_run 0 (layer_of pairs gates) s) (cleared s.chain work)) (after (layered.Refused k) s work)

-- ---- projection of a qubit on an outcome

abbrev pub project_refusal : State → List Float → ℕ → ℕ
project_refusal s work q = first_of (not (sound s.chain)) (short s.chain s.store work) (outside s.chain q) false

-- Nothing where the outcome's weight is at most the clamp, else the weight's share of the total
abbrev pub project_answer : ℕ → Bool → State → Projected
project_answer k o s =
    cond (le (weight_at k o s) s.chain.norm_clamp_min) projected.Nothing (projected.Kept (div binary64 (weight_at k o s) (total_at k s)))

abbrev pub project_run : ℕ → Bool → State → List Float → After Projected
project_run k o s work = let t = readied k s in after (project_answer k o t) (projected_at k o t) work

unfoldable pub project_call : State → List Float → ℕ → Bool → After Projected
project_call s work q o =
    let k = project_refusal s work q in
    cond (eqb k 0) (project_run (site_of s.chain q) o s (cleared s.chain work)) (after (projected.Refused k) s work)

-- ---- measurement of a qubit into a flag, by a draw

abbrev pub measure_refusal : State → List Float → ℕ → ℕ → Float → ℕ
measure_refusal s work q flag draw =
    first_of (not (sound s.chain)) (short s.chain s.store work) (outside s.chain q || leb 64 flag) (not (share01 draw))

abbrev pub flagged : ℕ → Bool → State → State
flagged flag b s = held (with_bits s.chain (set s.chain.classical_bits flag b)) s.store

abbrev pub measure_run : ℕ → ℕ → Float → State → List Float → After Measured
measure_run k flag draw s work =
    let t = readied k s in
    let b = drawn_at k draw t in
    after (Ok b) (flagged flag b (projected_at k b t)) work

unfoldable pub measure_call : State → List Float → ℕ → ℕ → Float → After Measured
measure_call s work q flag draw =
    let k = measure_refusal s work q flag draw in
    cond (eqb k 0) (measure_run (site_of s.chain q) flag draw s (cleared s.chain work)) (after (Err k) s work)

-- ---- reset of a qubit, by a draw

abbrev pub reset_refusal : State → List Float → ℕ → Float → ℕ
reset_refusal s work q draw = first_of (not (sound s.chain)) (short s.chain s.store work) (outside s.chain q) (not (share01 draw))

abbrev pub reset_run : ℕ → Float → State → List Float → After Answer
reset_run k draw s work = let t = readied k s in after (Ok tt) (reset_at k (drawn_at k draw t) t) work

unfoldable pub reset_call : State → List Float → ℕ → Float → After Answer
reset_call s work q draw =
    let k = reset_refusal s work q draw in
    cond (eqb k 0) (reset_run (site_of s.chain q) draw s (cleared s.chain work)) (after (Err k) s work)

-- ---- environments: the record and the store are only read

-- what an environment call leaves: its answer, the work slice and the result slice
pub record Walked : Type 0 where
  pub answer : Contracted
  pub work : List Float
  pub out : List Float

abbrev pub walked : Contracted → List Float → List Float → Walked
walked a work out = record { answer = a; work = work; out = out }

abbrev pub env_room : ℕ → ℕ
env_room d = 2 * d * d

abbrev pub env_refusal : State → List Float → List Float → ℕ → ℕ → ℕ
env_refusal s work out end site =
    first_of (not (sound s.chain)) (short s.chain s.store work || ltb (length out) (env_room s.chain.max_bond_dim))
    (outside s.chain end || ltb s.chain.num_qubits site) false

-- the environment from the result slice's start on, the rest as it was
abbrev pub env_run : Env → Chain → List Float → List Float → Walked
env_run e c work out = walked (Ok e.dim) (cleared c work) (e.entries ++ drop (length e.entries) out)

abbrev pub env_after : ℕ → Env → State → List Float → List Float → Walked
env_after k e s work out = cond (eqb k 0) (env_run e s.chain work out) (walked (Err k) work out)

unfoldable pub left_environment_call : State → List Float → List Float → ℕ → ℕ → Walked
left_environment_call s work out from site = env_after (env_refusal s work out from site) (left_env from site s) s work out

unfoldable pub right_environment_call : State → List Float → List Float → ℕ → ℕ → Walked
right_environment_call s work out site to = env_after (env_refusal s work out to site) (right_env site to s) s work out
