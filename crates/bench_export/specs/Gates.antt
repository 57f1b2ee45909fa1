-- A chain, its store and its work slice, and a list of gate records and one of layers run on them one after the other, whatever
-- each answers.
use Rattle.std.specs.Prelude.{ℕ, ◌+◌, ◌*◌, ◌/◌, ◌≤◌, ◌<◌, List, length, get_or, Float}
use Rattle.std.proofs.Common.{arith}
use Rattle.std.proofs.Math.Nat.{mul-le-mul_left, div-mul-le_self}
use Rattle.complex.specs.Loops.{each}
use Rattle.complex.specs.Parts.{part}
use Rattle.complex.specs.declared.Complex.{Complex}
use Rattle.model.specs.declared.Chain.{Chain}
use Rattle.model.specs.Slots.{held}
use Rattle.model.specs.Calls.{After, start_call, gate_call, layer_call}
use Rattle.record.specs.GateBytes.{gate_read}

pub record Left : Type 0 where
  pub chain : Chain
  pub store : List Float
  pub work : List Float

abbrev pub left : Chain → List Float → List Float → Left
left c store work = record { chain = c; store = store; work = work }

abbrev pub left_by : {A : Type 0} → After A → Left
left_by a = left a.chain a.store a.work

unfoldable pub gate_on : ℕ → ℕ → List (List Complex) → Left → Left
gate_on q0 q1 gate x = left_by (gate_call (held x.chain x.store) x.work q0 q1 gate)

-- record k of the bytes
abbrev pub record_step : List ℕ → ℕ → Left → Left
record_step bytes k = gate_on (get_or bytes (262 * k + 4) 0) (get_or bytes (262 * k + 5) 0) (gate_read (part (262 * k) (262 * k + 262) bytes))

abbrev pub layer_on : List ℕ → List Float → Left → Left
layer_on pairs numbers x = left_by (layer_call (held x.chain x.store) x.work pairs numbers)

-- share k of `count` even ones, and the layer of both
abbrev pub share : {A : Type 0} → List A → ℕ → ℕ → List A
share xs count k = let s = length xs / count in part (s * k) (s * k + s) xs

abbrev pub layer_step : List ℕ → List Float → ℕ → ℕ → Left → Left
layer_step pairs numbers count k = layer_on (share pairs count k) (share numbers count k)

unfoldable pub gates_from : ℕ → ℕ → Float → Float → List ℕ → List ℕ → List Float → ℕ → List Float → List Float → Left
gates_from n d epsilon clamp bytes pairs numbers layers store work =
    let s = start_call n d epsilon clamp 63 store in
    each layers (layer_step pairs numbers layers) (each (length bytes / 262) (record_step bytes) (left s.chain s.store work))

-- ---- a law: a share lies within the whole

pub share_fits : (size count k : ℕ) → k < count → size / count * k + size / count ≤ size
share_fits size count k h = omega (arith, mul-le-mul_left (size / count) h, div-mul-le_self size count)
