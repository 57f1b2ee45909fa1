-- One step of a run: what a record's bytes do to a session, and the line that is printed for them.
use Rattle.std.specs.Prelude.{ℕ, Bool, true, false, not, cond, List, Float, Result, Ok, Err, is_ok}
use Rattle.complex.specs.declared.Complex.{Complex}
use Rattle.gates.specs.declared.NamedGate.{NamedGate}
use Rattle.model.specs.declared.Chain.{Chain}
use Rattle.model.specs.Answers.{Answer, Value, none, weight, nothing, bit, dimension, pair, View, view_answer, view_applied, view_projected, view_measured}
use Rattle.model.specs.Slots.{held}
use Rattle.model.specs.Start.{zero_chain}
use Rattle.model.specs.Calls.{After, Started, start_call, gate_call, named_gate_call, project_call, measure_call, reset_call}
use Rattle.record.specs.declared.Record.{Record}
use Rattle.record.specs.declared.Record.TheVariants as a
use Rattle.record.specs.Reading.{read_of}
use Rattle.lines.specs.declared.Detail.{Detail}
use Rattle.lines.specs.declared.Detail.TheVariants.{Empty, Kept, Nothing, Bit}
use Rattle.lines.specs.declared.Line.{Line}
use Rattle.session.specs.declared.Session.{Session}

-- ---- lines

-- what a line says of an answer's value. No record asks for a dimension or for a layer
abbrev pub detail_of : Value → Detail
detail_of none = Empty
detail_of (weight w) = Kept w
detail_of nothing = Nothing
detail_of (bit b) = Bit b
detail_of (dimension n) = Empty
detail_of (pair p) = Empty

abbrev pub line_of : ℕ → View → Line
line_of kind v = record { kind = kind; number = v.number; detail = detail_of v.value }

-- the line of what an accepted call says, or of the number that refused it
abbrev pub line_said : ℕ → Result Detail ℕ → Line
line_said kind (Ok d) = record { kind = kind; number = 0; detail = d }
line_said kind (Err k) = record { kind = kind; number = k; detail = Empty }

-- `0 8`, after which reading stops
abbrev pub stop_line : Line
stop_line = record { kind = 0; number = 8; detail = Empty }

-- ---- what a step leaves: the session, the line, the store and the work slice

pub record Left : Type 0 where
  pub session : Session
  pub line : Line
  pub store : List Float
  pub work : List Float

abbrev pub left : Session → Line → List Float → List Float → Left
left s line store work = record { session = s; line = line; store = store; work = work }

abbrev pub session : Bool → Chain → Session
session started c = record { started = started; chain = c }

-- before any start
abbrev pub new_session : Session
new_session = session false zero_chain

-- nothing changes
abbrev pub turned_away : Session → List Float → List Float → Left
turned_away s store work = left s stop_line store work

-- ---- each kind of record: its call with the record's fields, and the call's answer as a line

abbrev pub is_done : Answer → Bool
is_done a = is_ok a

-- a refused start counts for nothing
abbrev pub after_start : Started → List Float → Left
after_start s work = left (session (is_done s.answer) s.chain) (line_of 1 (view_answer s.answer)) s.store work

-- for every work slice, of which start needs none
unfoldable pub start_step : List Float → ℕ → ℕ → ℕ → Float → Float → List Float → Left
start_step store n d exponent epsilon clamp work = after_start (start_call n d epsilon clamp exponent store) work

abbrev pub after_call : {A : Type 0} → ℕ → (A → View) → After A → Left
after_call kind view a = left (session true a.chain) (line_of kind (view a.answer)) a.store a.work

unfoldable pub gate_step : Chain → List Float → List Float → ℕ → ℕ → List (List Complex) → Left
gate_step c store work q0 q1 gate = after_call 2 view_applied (gate_call (held c store) work q0 q1 gate)

unfoldable pub named_gate_step : Chain → List Float → List Float → ℕ → ℕ → NamedGate → Left
named_gate_step c store work q0 q1 name = after_call 3 view_applied (named_gate_call (held c store) work q0 q1 name)

unfoldable pub projection_step : Chain → List Float → List Float → ℕ → Bool → Left
projection_step c store work qubit outcome = after_call 4 view_projected (project_call (held c store) work qubit outcome)

unfoldable pub measure_step : Chain → List Float → List Float → ℕ → ℕ → Float → Left
measure_step c store work qubit flag draw = after_call 5 view_measured (measure_call (held c store) work qubit flag draw)

unfoldable pub reset_step : Chain → List Float → List Float → ℕ → Float → Left
reset_step c store work qubit draw = after_call 6 view_answer (reset_call (held c store) work qubit draw)

unfoldable pub kind_step : Session → List Float → List Float → Record → Left
kind_step s store work (a.Start n d exponent epsilon clamp) = start_step store n d exponent epsilon clamp work
kind_step s store work (a.Gate q0 q1 gate) = gate_step s.chain store work q0 q1 gate
kind_step s store work (a.NamedGate q0 q1 name) = named_gate_step s.chain store work q0 q1 name
kind_step s store work (a.Projection qubit outcome) = projection_step s.chain store work qubit outcome
kind_step s store work (a.Measure qubit flag draw) = measure_step s.chain store work qubit flag draw
kind_step s store work (a.Reset qubit draw) = reset_step s.chain store work qubit draw

-- ---- the step

-- a start as long as none was accepted, and anything else once one was
unfoldable pub in_turn : Bool → Record → Bool
in_turn started (a.Start n d exponent epsilon clamp) = not started
in_turn started (a.Gate q0 q1 gate) = started
in_turn started (a.NamedGate q0 q1 name) = started
in_turn started (a.Projection qubit outcome) = started
in_turn started (a.Measure qubit flag draw) = started
in_turn started (a.Reset qubit draw) = started

-- a record that reads and may come now
abbrev pub obeys : Session → Result Record ℕ → Bool
obeys s (Ok r) = in_turn s.started r
obeys s (Err k) = false

abbrev pub read_step : Session → List Float → List Float → Result Record ℕ → Left
read_step s store work (Ok r) = cond (in_turn s.started r) (kind_step s store work r) (turned_away s store work)
read_step s store work (Err k) = turned_away s store work

unfoldable pub step_of : Session → List Float → List Float → List ℕ → Left
step_of s store work bytes = read_step s store work (read_of bytes)
