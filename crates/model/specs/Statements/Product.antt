-- DEMAND 3, its last sentence: gates that stand next to each other on one ordered pair, and their matrix product as one gate in their place.
-- Statements only; `Laws/Demand3Product` proves them.
use Rattle.std.specs.Prelude.{ℕ, ◌≤◌, ◌<◌, ◌≡◌, List, [], ◌∷◌, ◌++◌, T, length, replicate, Float, Ok}
use Rattle.complex.specs.Complex.{mul_c, zero_c}
use Rattle.complex.specs.Loops.{sum_c}
use Rattle.complex.specs.declared.Complex.{Complex}
use Rattle.gates.specs.Gate.{entry, gate_of}
use Rattle.gates.specs.Named.{matrix_of}
use Rattle.gates.specs.declared.NamedGate.{NamedGate}
use Rattle.model.specs.Slots.{State, held}
use Rattle.model.specs.Phases.{equals}
use Rattle.model.specs.Calls.{start_call}
use Rattle.model.specs.Answers.{View, accepted, none}
use Rattle.model.specs.Lists.{Call, gate, named, answer_of, final_state, answers_of}
use Rattle.model.specs.Machine.{Machine, fresh, monomial, machine_after, all_allowed}
use Rattle.model.specs.Statements.Demand3.{F64, F64s, AllF64, Follows}

-- ---- gates and their product

-- the matrix product, each sum from +0 up
abbrev pub matrix_product : List (List Complex) → List (List Complex) → List (List Complex)
matrix_product a b = gate_of (λ r c. sum_c 4 (λ k. mul_c (entry a r k) (entry b k c)) zero_c)

-- equal entries, zeros of either sign counting as zero
abbrev pub SameGate : List (List Complex) → List (List Complex) → Type 0
SameGate g h = (r c : ℕ) → r < 4 → c < 4 → T (equals (entry g r c) (entry h r c))

-- the sixteen entries are of binary64 numbers
abbrev pub GateF64 : List (List Complex) → Type 0
GateF64 g = (r c : ℕ) → r < 4 → c < 4 → F64 (entry g r c).re × F64 (entry g r c).im

-- a call is a gate on the ordered pair q0, q1, by matrix or by name, and this is its matrix
pub data GateOn (q0 q1 : ℕ) : Call → List (List Complex) → Type 0 where
  by_matrix : (g : List (List Complex)) (work : List Float) → GateOn q0 q1 (gate q0 q1 g work) g
  by_name : (name : NamedGate) (work : List Float) → GateOn q0 q1 (named q0 q1 name work) (matrix_of name)

-- the calls are gates on the ordered pair q0, q1, one or more, and this is a product of their matrices, later ones on the left, bracketed in any way
pub data Run (q0 q1 : ℕ) : List Call → List (List Complex) → Type 0 where
  single : {c : Call} {m : List (List Complex)} → GateOn q0 q1 c m → Run q0 q1 (c ∷ []) m
  in_turn_lem : {cs ds : List Call} {g h : List (List Complex)} → Run q0 q1 cs g → Run q0 q1 ds h → Run q0 q1 (cs ++ ds) (matrix_product h g)

-- ---- one gate in the place of a run of gates

-- On a chain s of n qubits and cap d, between the calls before and the calls after: the run's gates are accepted, and so is the one gate; every other call answers alike;
-- and both chains end following the machine M.
pub record Alike (n d : ℕ) (s : State) (M : Machine) (before run after : List Call) (one : Call) : Type 0 where
  -- what the calls after answer
  pub others : List View
  pub run_answers : answers_of (before ++ (run ++ after)) s ≡ answers_of before s ++ (replicate (length run) (accepted none) ++ others)
  pub one_answers : answers_of (before ++ (one ∷ after)) s ≡ answers_of before s ++ (accepted none ∷ others)
  pub run_ends : Follows n d (final_state (before ++ (run ++ after)) s) M
  pub one_ends : Follows n d (final_state (before ++ (one ∷ after)) s) M

-- Wherever the run stands in a list of calls that demand 3 speaks of, if its gates are accepted, and the one gate, of the matrix `product`, is accepted in their place:
-- the product has one entry in each row and column, and the two lists are alike.
abbrev pub Replaces : ℕ → ℕ → ℕ → State → List Call → Call → List (List Complex) → Type 0
Replaces n d long s run one product =
    (before after : List Call) → (let calls = before ++ (run ++ after) in
    let t = final_state before s in
    AllF64 calls → F64s one → T (all_allowed n d long calls)
    → answers_of run t ≡ replicate (length run) (accepted none) → answer_of one t ≡ accepted none
    → T (monomial product) × Alike n d s (machine_after n d long calls fresh) before run after one)

-- ---- the claims, from an accepted start's record and store

-- of a chain of two or more qubits with workspace exponent 5 or more: n, the cap, how long its store is, and its state
abbrev pub OnFresh : (ℕ → ℕ → ℕ → State → Type 0) → Type 0
OnFresh P =
    (n d exponent : ℕ) (epsilon clamp : Float) (store : List Float) → F64 epsilon → F64 clamp
    → 2 ≤ n → 5 ≤ exponent
    → (let st = start_call n d epsilon clamp exponent store in
    st.answer ≡ Ok tt → P n d (length store) (held st.chain st.store))

-- two gates, and any gate with the entries of their product, the later gate's matrix on the left
unfoldable pub ProductClause : Type 0
ProductClause =
    OnFresh (λ n d long s.
    (q0 q1 : ℕ) (c1 c2 one : Call) (m1 m2 product : List (List Complex)) → GateOn q0 q1 c1 m1 → GateOn q0 q1 c2 m2 → GateOn q0 q1 one product
    → SameGate product (matrix_product m2 m1) → Replaces n d long s (c1 ∷ c2 ∷ []) one product)

-- a run of gates, and any gate with the entries of their product
unfoldable pub RunClause : Type 0
RunClause =
    OnFresh (λ n d long s.
    (q0 q1 : ℕ) (run : List Call) (one : Call) (m product : List (List Complex)) → Run q0 q1 run m → GateOn q0 q1 one product
    → SameGate product m → Replaces n d long s run one product)
