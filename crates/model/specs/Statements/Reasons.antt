-- W3. Why a cut keeps as many singular values as it does: where each reason is given, what it says of the rank, and which one a gate passes on.
-- Statements only; `Laws/Reasons` proves them.
use Rattle.std.specs.Prelude.{ℕ, ◌+◌, ◌≤◌, ◌<◌, min, ◌≡◌, ◌≢◌, ◌↔◌, cond, List, [], ◌∷◌, ◌++◌, T, eqb, length, get_or, Float}
use Rattle.std.specs.Float.{nan, binary64}
use Rattle.std.specs.Float.Ieee.{mul, lt}
use Rattle.complex.specs.Complex.{zero_f}
use Rattle.complex.specs.declared.Complex.{Complex}
use Rattle.gates.specs.Named.{matrix_of}
use Rattle.gates.specs.declared.NamedGate.{NamedGate}
use Rattle.model.specs.declared.Reason.{Reason}
use Rattle.model.specs.declared.Reason.TheVariants.{Floor, Cap, Tolerance, Full}
use Rattle.model.specs.Slots.{State}
use Rattle.model.specs.Truncation.{rank, rank_reason}
use Rattle.model.specs.Cut.{reason_of}
use Rattle.model.specs.Routing.{Step, stepped}
use Rattle.model.specs.Answers.{Applied, view_applied, told_applied}
use Rattle.model.specs.Calls.{After, gate_call, named_gate_call}
use Rattle.model.specs.Statements.Table.{gate_steps}
use Rattle.model.specs.Statements.Demand1Cuts.{cut_svd}

-- ---- the rank of a list of values s

-- n values lead that are above epsilon times the first, or more; the first of an empty list counts as 0
abbrev pub Lead : Float → List Float → ℕ → Type 0
Lead epsilon s n = (j : ℕ) → j < n → (j < length s) × T (lt (mul binary64 epsilon (get_or s 0 zero_f)) (get_or s j nan))

-- what each reason says: no value leads; more than the cap do; at least one, no more than the cap, and not all; all do, at least one and no more than the cap
abbrev pub Says : Float → ℕ → List Float → Reason → Type 0
Says epsilon cap s Floor = Lead epsilon s 1 → ⊥
Says epsilon cap s Cap = Lead epsilon s (cap + 1)
Says epsilon cap s Tolerance = Lead epsilon s 1 × (Lead epsilon s (cap + 1) → ⊥) × (Lead epsilon s (length s) → ⊥)
Says epsilon cap s Full = Lead epsilon s (length s) × (1 ≤ length s) × (length s ≤ cap)

-- a reason is given exactly where what it says holds
unfoldable pub RankReasons : Type 0
RankReasons = (epsilon : Float) (cap : ℕ) (s : List Float) (r : Reason) → (rank_reason epsilon cap s ≡ r) ↔ Says epsilon cap s r

-- the rank r that goes with each: 1, or a cap of 0; the cap; as many as lead, and not all; all
abbrev pub Ranked : Float → ℕ → List Float → ℕ → Reason → Type 0
Ranked epsilon cap s r Floor = r ≡ min 1 cap
Ranked epsilon cap s r Cap = r ≡ cap
Ranked epsilon cap s r Tolerance = Lead epsilon s r × (Lead epsilon s (r + 1) → ⊥) × (r < length s)
Ranked epsilon cap s r Full = r ≡ length s

unfoldable pub RankByReason : Type 0
RankByReason = (epsilon : Float) (cap : ℕ) (s : List Float) → Ranked epsilon cap s (rank epsilon cap s) (rank_reason epsilon cap s)

-- ---- the reason that a gate passes on

-- the reasons of the cuts that a run stores, in order, each by the values that it stores (`Demand1Cuts.cut_svd`): a step that is refused stores no cut and ends the run
unfoldable pub reasons_of : List Step → State → List Reason
reasons_of [] s = []
reasons_of (x ∷ xs) s =
    cond (eqb (stepped x s).refused 0) (reason_of s (cut_svd x.gate x.site s) ∷ reasons_of xs (stepped x s).state) []

-- an accepted gate tells the last of them, and a refused one its number only; the number is the view's
pub record TellsReason (s : State) (q0 q1 : ℕ) (g : List (List Complex)) (a : After Applied) : Type 0 where
  pub number : (told_applied a.answer).number ≡ (view_applied a.answer).number
  pub accepted : (told_applied a.answer).number ≡ 0 → (before : List Reason) × (reasons_of (gate_steps s q0 q1 g) s ≡ before ++ (told_applied a.answer).reason)
  pub refused : (told_applied a.answer).number ≢ 0 → (told_applied a.answer).reason ≡ []

pub record GateReasons : Type 0 where
  pub gate : (s : State) (work : List Float) (q0 q1 : ℕ) (g : List (List Complex)) → TellsReason s q0 q1 g (gate_call s work q0 q1 g)
  pub named : (s : State) (work : List Float) (q0 q1 : ℕ) (name : NamedGate) → TellsReason s q0 q1 (matrix_of name) (named_gate_call s work q0 q1 name)
