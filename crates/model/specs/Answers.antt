-- What each answer says, in document 01's terms: its refusal number, 0 where the call is accepted, and its value.
use Rattle.std.specs.Prelude.{ℕ, zero, suc, Bool, cond, List, [], ◌∷◌, Float, Result, Ok, Err}
use Rattle.std.specs.Float.{binary64}
use Rattle.std.specs.Float.Ieee.{to_bits}
use Rattle.model.specs.declared.Reason.{Reason}
use Rattle.model.specs.declared.Layered.{Layered}
use Rattle.model.specs.declared.Layered.TheVariants as layered
use Rattle.model.specs.declared.Projected.{Projected}
use Rattle.model.specs.declared.Projected.TheVariants as projected

-- ---- the answers: Ok of what an accepted call hands back, Err of a refusal's number

-- of a start or a reset, a gate with the reason of its last cut, a measurement with its bit, and an environment walk with its dimension
abbrev pub Answer : Type 0
Answer = Result (Unit {0}) ℕ

abbrev pub Applied : Type 0
Applied = Result Reason ℕ

abbrev pub Measured : Type 0
Measured = Result Bool ℕ

abbrev pub Contracted : Type 0
Contracted = Result ℕ ℕ

-- the refusal of a number, and Ok where it is 0
abbrev pub refusal_of : ℕ → Answer
refusal_of zero = Ok tt
refusal_of (suc k) = Err (suc k)

-- ---- what they say

-- what an accepted call's answer holds besides, and where a layer stopped: the pair, counted from 0
pub data Value : Type 0 where
  none : Value
  weight : Float → Value
  nothing : Value
  bit : Bool → Value
  dimension : ℕ → Value
  pair : ℕ → Value

-- the value as a number, as document 01 prints it: the bits of the weight, zeros for Nothing, the measured bit, the dimension; the pair
abbrev pub bits_of : Value → ℕ
bits_of none = 0
bits_of (weight w) = to_bits binary64 w
bits_of nothing = 0
bits_of (bit b) = cond b 1 0
bits_of (dimension n) = n
bits_of (pair p) = p

-- an answer as document 01 compares it
pub record View : Type 0 where
  pub number : ℕ
  pub value : Value

abbrev pub accepted : Value → View
accepted v = record { number = 0; value = v }

abbrev pub refused : ℕ → View
refused k = record { number = k; value = none }

abbrev pub view_answer : Answer → View
view_answer (Ok x) = accepted none
view_answer (Err k) = refused k

abbrev pub view_applied : Applied → View
view_applied (Ok r) = accepted none
view_applied (Err k) = refused k

abbrev pub view_layered : Layered → View
view_layered layered.Done = accepted none
view_layered (layered.Refused k) = refused k
view_layered (layered.Stopped k p) = record { number = k; value = pair p }

abbrev pub view_projected : Projected → View
view_projected (projected.Kept w) = accepted (weight w)
view_projected projected.Nothing = accepted nothing
view_projected (projected.Refused k) = refused k

abbrev pub view_measured : Measured → View
view_measured (Ok b) = accepted (bit b)
view_measured (Err k) = refused k

abbrev pub view_contracted : Contracted → View
view_contracted (Ok n) = accepted (dimension n)
view_contracted (Err k) = refused k

-- a gate's answer with its reason, which the view leaves out: none where the call is refused (document 02, W3)
pub record Told : Type 0 where
  pub number : ℕ
  pub reason : List Reason

abbrev pub told_applied : Applied → Told
told_applied (Ok r) = record { number = 0; reason = r ∷ [] }
told_applied (Err k) = record { number = k; reason = [] }
