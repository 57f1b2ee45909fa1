-- A gate on any two qubits: swaps of neighbours bring the far one beside the near one, then the gate acts there (apply_two_qubit_gate, swap_layout_labels).
-- The route is data; the call folds one step over it.
use Rattle.std.specs.Prelude.{ℕ, zero, suc, ◌+◌, ◌-◌, min, max, Bool, true, false, cond, List, [], ◌∷◌, ◌++◌, map, ltb, eqb, set}
use Rattle.complex.specs.declared.Complex.{Complex}
use Rattle.gates.specs.Gate.{swap_gate_qubits}
use Rattle.gates.specs.Named.{matrix_of}
use Rattle.gates.specs.declared.NamedGate.TheVariants.{Swap}
use Rattle.model.specs.declared.Chain.{Chain}
use Rattle.model.specs.declared.Reason.{Reason}
use Rattle.model.specs.declared.Layered.{Layered}
use Rattle.model.specs.declared.Layered.TheVariants as layered
use Rattle.model.specs.Chain.{site_of, qubit_at, with_labels}
use Rattle.model.specs.Slots.{State, held}
use Rattle.model.specs.Cut.{Ran, ran, adjacent, adjacent_reason}
use Rattle.model.specs.Layers.{Placed}

-- ---- labels

-- the qubits at sites k and k + 1 exchanged, in both maps
abbrev pub relabelled : ℕ → Chain → Chain
relabelled k c =
    with_labels c (set (set c.logical_to_site (qubit_at c k) (k + 1)) (qubit_at c (k + 1)) k)
    (set (set c.site_to_logical k (qubit_at c (k + 1))) (k + 1) (qubit_at c k))

-- ---- the route

-- the left sites of the swaps, in turn; the left site of the gate; whether the gate's first qubit stands left there
pub record Route : Type 0 where
  pub swaps : List ℕ
  pub near : ℕ
  pub first : Bool

-- near + n, .., near + 1
abbrev pub down_to : ℕ → ℕ → List ℕ
down_to near zero = []
down_to near (suc n) = (near + suc n) ∷ down_to near n

-- between the sites p and q of the gate's first and second qubit
abbrev pub route_of : ℕ → ℕ → Route
route_of p q = record { swaps = down_to (min p q) (max p q - min p q - 1); near = min p q; first = ltb p q }

-- ---- the steps of a route: a swap relabels, the gate does not

pub record Step : Type 0 where
  pub gate : List (List Complex)
  pub site : ℕ
  pub relabels : Bool

abbrev pub swap_step : ℕ → Step
swap_step k = record { gate = matrix_of Swap; site = k; relabels = true }

abbrev pub gate_step : List (List Complex) → ℕ → Step
gate_step gate k = record { gate = gate; site = k; relabels = false }

-- the gate in the order of its qubits' sites
abbrev pub turned : List (List Complex) → Route → List (List Complex)
turned gate r = cond r.first gate (swap_gate_qubits gate)

abbrev pub steps_of : List (List Complex) → Route → List Step
steps_of gate r = map swap_step r.swaps ++ (gate_step (turned gate r) r.near ∷ [])

-- what follows a run, unless that was refused
abbrev pub follow : Ran → (State → Ran) → Ran
follow r f = cond (eqb r.refused 0) (f r.state) r

unfoldable pub stepped : Step → State → Ran
stepped x s = follow (adjacent x.gate x.site s) (λ t. ran 0 (held (cond x.relabels (relabelled x.site t.chain) t.chain) t.store))

-- the steps in turn, up to the first that is refused
unfoldable pub run_steps : List Step → State → Ran
run_steps [] s = ran 0 s
run_steps (x ∷ xs) s = follow (stepped x s) (run_steps xs)

-- a gate on the qubits q0 and q1
unfoldable pub gate_run : List (List Complex) → ℕ → ℕ → State → Ran
gate_run gate q0 q1 s = run_steps (steps_of gate (route_of (site_of s.chain q0) (site_of s.chain q1))) s

-- why its last cut, the gate's own, keeps as many values as it does, in the state that the swaps leave (document 02, W3)
unfoldable pub gate_reason : List (List Complex) → ℕ → ℕ → State → Reason
gate_reason gate q0 q1 s =
    let r = route_of (site_of s.chain q0) (site_of s.chain q1) in
    adjacent_reason (turned gate r) r.near (run_steps (map swap_step r.swaps) s).state

-- ---- a layer: the gates in turn (document 02, W1)

pub record LayerRan : Type 0 where
  pub answer : Layered
  pub state : State

abbrev pub layer_ran : Layered → State → LayerRan
layer_ran a s = record { answer = a; state = s }

-- a gate of the layer by itself
abbrev pub placed_run : Placed → State → Ran
placed_run x s = gate_run x.gate x.q0 x.q1 s

-- what follows the run of pair p: the rest, unless the gate was refused, which stops the layer there
abbrev pub onward : ℕ → Ran → (State → LayerRan) → LayerRan
onward p r rest = cond (eqb r.refused 0) (rest r.state) (layer_ran (layered.Stopped r.refused p) r.state)

-- the gates in turn, the first of them that of pair p, up to the first that is refused
unfoldable pub layer_run : ℕ → List Placed → State → LayerRan
layer_run p [] s = layer_ran layered.Done s
layer_run p (x ∷ xs) s = onward p (placed_run x s) (layer_run (p + 1) xs)
