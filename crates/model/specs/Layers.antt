-- What the two slices of a layer hold (document 02, W1): two bytes a pair, and 32 numbers a pair for its gate, rows in order.
use Rattle.std.specs.Prelude.{ℕ, zero, suc, ◌+◌, ◌*◌, ◌/◌, List, [], ◌∷◌, length, get_or, Float}
use Rattle.complex.specs.Numbers.{at}
use Rattle.complex.specs.declared.Complex.{Complex}
use Rattle.gates.specs.Gate.{gate_of}

-- how many pairs the bytes hold, the two qubits of pair p, and its gate, whose 16 complex numbers begin with number 16 p
abbrev pub pair_count : List ℕ → ℕ
pair_count pairs = length pairs / 2

abbrev pub first : List ℕ → ℕ → ℕ
first pairs p = get_or pairs (2 * p) 0

abbrev pub second : List ℕ → ℕ → ℕ
second pairs p = get_or pairs (2 * p + 1) 0

unfoldable pub gate_at : List Float → ℕ → List (List Complex)
gate_at gates p = gate_of (λ r c. at gates (16 * p + 4 * r + c))

-- a gate with its two qubits; that of pair p, and those of the n pairs from p on
pub record Placed : Type 0 where
  pub q0 : ℕ
  pub q1 : ℕ
  pub gate : List (List Complex)

abbrev pub placed_at : List ℕ → List Float → ℕ → Placed
placed_at pairs gates p = record { q0 = first pairs p; q1 = second pairs p; gate = gate_at gates p }

unfoldable pub placed_from : List ℕ → List Float → ℕ → ℕ → List Placed
placed_from pairs gates zero p = []
placed_from pairs gates (suc n) p = placed_at pairs gates p ∷ placed_from pairs gates n (p + 1)

-- all of them
abbrev pub layer_of : List ℕ → List Float → List Placed
layer_of pairs gates = placed_from pairs gates (pair_count pairs) 0
