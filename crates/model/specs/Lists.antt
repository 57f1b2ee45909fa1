-- Lists of calls on one chain: gates by matrix or name, layers, projections, measurements and resets, each with a work slice of its own.
-- Each call gets the record and the store that the last one left.
use Rattle.std.specs.Prelude.{ℕ, Bool, List, [], ◌∷◌, Float}
use Rattle.complex.specs.declared.Complex.{Complex}
use Rattle.gates.specs.declared.NamedGate.{NamedGate}
use Rattle.model.specs.Slots.{State, held}
use Rattle.model.specs.Answers.{View, view_answer, view_applied, view_layered, view_projected, view_measured}
use Rattle.model.specs.Calls.{After, gate_call, named_gate_call, layer_call, project_call, measure_call, reset_call}

pub data Call : Type 0 where
  gate : ℕ → ℕ → List (List Complex) → List Float → Call
  named : ℕ → ℕ → NamedGate → List Float → Call
  layer : List ℕ → List Float → List Float → Call
  project : ℕ → Bool → List Float → Call
  measure : ℕ → ℕ → Float → List Float → Call
  reset : ℕ → Float → List Float → Call

-- the state that a call leaves
abbrev pub left : {A : Type 0} → After A → State
left a = held a.chain a.store

abbrev pub answer_of : Call → State → View
answer_of (gate q0 q1 g work) s = view_applied (gate_call s work q0 q1 g).answer
answer_of (named q0 q1 name work) s = view_applied (named_gate_call s work q0 q1 name).answer
answer_of (layer pairs gates work) s = view_layered (layer_call s work pairs gates).answer
answer_of (project q o work) s = view_projected (project_call s work q o).answer
answer_of (measure q flag draw work) s = view_measured (measure_call s work q flag draw).answer
answer_of (reset q draw work) s = view_answer (reset_call s work q draw).answer

abbrev pub state_of : Call → State → State
state_of (gate q0 q1 g work) s = left (gate_call s work q0 q1 g)
state_of (named q0 q1 name work) s = left (named_gate_call s work q0 q1 name)
state_of (layer pairs gates work) s = left (layer_call s work pairs gates)
state_of (project q o work) s = left (project_call s work q o)
state_of (measure q flag draw work) s = left (measure_call s work q flag draw)
state_of (reset q draw work) s = left (reset_call s work q draw)

-- the state after a list, and its answers in turn
abbrev pub final_state : List Call → State → State
final_state [] s = s
final_state (c ∷ cs) s = final_state cs (state_of c s)

abbrev pub answers_of : List Call → State → List View
answers_of [] s = []
answers_of (c ∷ cs) s = answer_of c s ∷ answers_of cs (state_of c s)
