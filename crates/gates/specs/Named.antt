-- The named gates, as matrix_4x4 of gates/mod.rs has them to the bit: an element is 1, -1 or +0, and every imaginary part is +0.
use Rattle.std.specs.Prelude.{◌≡◌, cond, List, ℕ, ◌+◌, ◌*◌, ◌/◌, ◌%◌, ◌<◌, eqb}
use Rattle.std.specs.Float.Ieee.{neg}
use Rattle.complex.specs.Complex.{zero_f, one_f, real}
use Rattle.complex.specs.declared.Complex.{Complex}
use Rattle.gates.specs.declared.NamedGate.{NamedGate}
use Rattle.gates.specs.declared.NamedGate.TheVariants.{Swap, Cx, Cz}
use Rattle.gates.specs.Gate.{entry, gate_of, entry_gate_of, swap_bits}

-- an index whose second bit is flipped if its first is 1
abbrev pub flip_bits : ℕ → ℕ
flip_bits k = 2 * (k / 2) + (k / 2 + k % 2) % 2

-- the element (r, c) of the gate that takes the bits c to the bits p c, and of the diagonal 1, 1, 1, -1
abbrev pub moves : (ℕ → ℕ) → ℕ → ℕ → Complex
moves p r c = real (cond (eqb r (p c)) one_f zero_f)

abbrev pub signs : ℕ → ℕ → Complex
signs r c = real (cond (eqb r c) (cond (eqb c 3) (neg one_f) one_f) zero_f)

unfoldable pub named_entry : NamedGate → ℕ → ℕ → Complex
named_entry Swap = moves swap_bits
named_entry Cx = moves flip_bits
named_entry Cz = signs

unfoldable pub matrix_of : NamedGate → List (List Complex)
matrix_of name = gate_of (named_entry name)

-- ---- laws

pub entry_named : (name : NamedGate) (r c : ℕ) → r < 4 → c < 4 → entry (matrix_of name) r c ≡ named_entry name r c
unfolding matrix_of
entry_named name r c h l = entry_gate_of (named_entry name) r c h l
