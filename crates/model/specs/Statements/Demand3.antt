-- DEMAND 3. On a fresh chain of two or more qubits with workspace exponent 5 or more, every list of calls whose gates only move bits and phases answers as the
-- bits-and-phase machine does, and leaves the chain following it. Statements only; `Laws/Demand3Proof` proves it. Its last sentence, of two gates and their product, stands in `Product`.
use Rattle.std.specs.Prelude.{ℕ, ◌+◌, ◌-◌, ◌≤◌, ◌<◌, ◌≡◌, List, [], ◌∷◌, T, length, get_or, Float, Ok}
use mathlib.Core.Bool.{Bool, not, cond}
use Rattle.std.specs.Float.{nan, binary64}
use Rattle.std.specs.Float.Ieee.{fits}
use Rattle.complex.specs.Complex.{mul_c, is_zero, zero_f, one_f}
use Rattle.complex.specs.Loops.{each}
use Rattle.complex.specs.declared.Complex.{Complex}
use Rattle.gates.specs.Gate.{entry}
use Rattle.model.specs.declared.Projected.TheVariants as projected
use Rattle.model.specs.Chain.{bond_left, bond_right, site_of, qubit_at}
use Rattle.model.specs.Slots.{State, held, work_room, site_at, amplitude}
use Rattle.model.specs.Born.{bit_of, weight_at, readied}
use Rattle.model.specs.Phases.{phase_c, equals}
use Rattle.model.specs.Calls.{start_call, project_call}
use Rattle.model.specs.Lists.{Call, gate, named, layer, project, measure, reset, final_state, answers_of}
use Rattle.model.specs.Machine.{Machine, fresh, machine_answers, machine_after, all_allowed}

-- ---- what the program's types say: each f64 handed in is a value of binary64

abbrev pub F64 : Float → Type 0
F64 x = T (fits binary64 x)

abbrev pub F64s : Call → Type 0
F64s (gate q0 q1 g work) = (r c : ℕ) → r < 4 → c < 4 → F64 (entry g r c).re × F64 (entry g r c).im
F64s (named q0 q1 name work) = Unit
F64s (layer pairs gates work) = (k : ℕ) → k < length gates → F64 (get_or gates k nan)
F64s (project q o work) = Unit
F64s (measure q flag draw work) = F64 draw
F64s (reset q draw work) = F64 draw

abbrev pub AllF64 : List Call → Type 0
AllF64 [] = Unit
AllF64 (c ∷ cs) = F64s c × AllF64 cs

-- ---- a chain that follows the machine

-- the entry of site k at a bit, bonds being 1
abbrev pub entry_at : State → ℕ → Bool → Complex
entry_at s k b = amplitude (site_at s k) 1 0 (bit_of b) 0

-- the entries of n sites at the machine's bits, multiplied from site 0 up
abbrev pub product : ℕ → State → (ℕ → Bool) → Complex
product n s bits =
    let f : ℕ → Complex = λ k. entry_at s k (bits (qubit_at s.chain k)) in
    each (n - 1) (λ k z. mul_c z (f (k + 1))) (f 0)

-- n qubits and cap d, as the machine is fed them
pub record Follows (n d : ℕ) (s : State) (M : Machine) : Type 0 where
  pub bonds : (k : ℕ) → k < n → (bond_left s.chain k ≡ 1) × (bond_right s.chain k ≡ 1)
  pub discarded : s.chain.truncation_discarded ≡ zero_f
  pub phase : T (equals (product n s M.bits) (phase_c M.phase))
  pub others : (k : ℕ) → k < n → T (is_zero (entry_at s k (not (M.bits (qubit_at s.chain k)))))
  -- the Born weights that an accepted projection of qubit q would find next
  pub weights : (q : ℕ) → q < n → (b : Bool) →
      (let k = site_of s.chain q in weight_at k b (readied k s)) ≡ cond (mathlib.Core.Bool.beq b (M.bits q)) one_f zero_f
  pub nothing : (q : ℕ) → q < n → (work : List Float) → work_room d ≤ length work →
      (project_call s work q (not (M.bits q))).answer ≡ projected.Nothing

-- ---- the claim about a list, from an accepted start's record and store

unfoldable pub Demand3 : Type 0
Demand3 =
    (n d exponent : ℕ) (epsilon clamp : Float) (store : List Float) → F64 epsilon → F64 clamp
    → 2 ≤ n → 5 ≤ exponent
    → (let st = start_call n d epsilon clamp exponent store in
    st.answer ≡ Ok tt
    → (calls : List Call) → AllF64 calls → T (all_allowed n d (length store) calls)
    → (let s = held st.chain st.store in
    (answers_of calls s ≡ machine_answers n d (length store) calls fresh) × Follows n d (final_state calls s) (machine_after n d (length store) calls fresh)))
