-- The sign of a zero in a gate's matrix never shows: gates with equal entries, zeros of either sign counting as zero, give the same call on every state, refused or accepted, and the same cut of two neighbours, so that the swaps of a route are covered too.
-- So a caller need not care which zero a matrix holds. A statement only; `Laws/ZeroSigns` proves it.
use Rattle.std.specs.Prelude.{ℕ, ◌≡◌, List, Float}
use Rattle.complex.specs.declared.Complex.{Complex}
use Rattle.model.specs.Slots.{State}
use Rattle.model.specs.Cut.{adjacent}
use Rattle.model.specs.Calls.{gate_call}
use Rattle.model.specs.Statements.Product.{SameGate, GateF64}

pub record ZeroSigns : Type 0 where
  -- the answer, the record, the store and the work slice, all alike
  pub call : (s : State) (work : List Float) (q0 q1 : ℕ) (g h : List (List Complex)) → GateF64 g → GateF64 h → SameGate g h
      → gate_call s work q0 q1 g ≡ gate_call s work q0 q1 h
  pub cut : (k : ℕ) (s : State) (g h : List (List Complex)) → GateF64 g → GateF64 h → SameGate g h → adjacent g k s ≡ adjacent h k s
