-- A gate on two qubits: four rows of four complex numbers. Rows are outputs, and an index is 2 * first bit + second bit.
use Rattle.std.specs.Prelude.{◌≡◌, refl, List, [], ◌∷◌, ℕ, zero, suc, ◌+◌, ◌*◌, ◌/◌, ◌%◌, ◌<◌, get_or}
use Rattle.std.proofs.Common.{arith}
use Rattle.std.specs.Float.{nan}
use Rattle.complex.specs.declared.Complex.{Complex}

-- the element k of a row, and the element (r, c) of a gate. Past the ends it is of `nan`s, as an array reads there to a proof
abbrev pub none : Complex
none = record { re = nan; im = nan }

abbrev pub number : List Complex → ℕ → Complex
number row k = get_or row k none

abbrev pub entry : List (List Complex) → ℕ → ℕ → Complex
entry g r c = number (get_or g r []) c

-- f 0, f 1, f 2, f 3, and the gate whose element (r, c) is f r c
abbrev pub four : {A : Type 0} → (ℕ → A) → List A
four f = f 0 ∷ f 1 ∷ f 2 ∷ f 3 ∷ []

unfoldable pub gate_of : (ℕ → ℕ → Complex) → List (List Complex)
gate_of f = four (λ r. four (λ c. f r c))

-- an index with its two bits exchanged: 0, 2, 1, 3
abbrev pub swap_bits : ℕ → ℕ
swap_bits k = 2 * (k % 2) + k / 2

-- the gate for its two qubits in the other order, as swap_gate_qubits of backend/mps/mod.rs has it
unfoldable pub swap_gate_qubits : List (List Complex) → List (List Complex)
swap_gate_qubits g = gate_of (λ r c. entry g (swap_bits r) (swap_bits c))

-- ---- laws

pub swap_bits_below : (k : ℕ) → k < 4 → swap_bits k < 4
swap_bits_below k h = omega arith

pub swap_bits_twice : (k : ℕ) → k < 4 → swap_bits (swap_bits k) ≡ k
swap_bits_twice k h = omega arith

pub number_four : (f : ℕ → Complex) (k : ℕ) → k < 4 → number (four f) k ≡ f k
number_four f zero h = refl
number_four f (suc zero) h = refl
number_four f (suc (suc zero)) h = refl
number_four f (suc (suc (suc zero))) h = refl
number_four f (suc (suc (suc (suc k)))) h = absurd (omega arith)

pub entry_gate_of : (f : ℕ → ℕ → Complex) (r c : ℕ) → r < 4 → c < 4 → entry (gate_of f) r c ≡ f r c
unfolding gate_of
entry_gate_of f zero c h l = number_four (f 0) c l
entry_gate_of f (suc zero) c h l = number_four (f 1) c l
entry_gate_of f (suc (suc zero)) c h l = number_four (f 2) c l
entry_gate_of f (suc (suc (suc zero))) c h l = number_four (f 3) c l
entry_gate_of f (suc (suc (suc (suc r)))) c h l = absurd (omega arith)

pub entry_swapped : (g : List (List Complex)) (r c : ℕ) → r < 4 → c < 4 → entry (swap_gate_qubits g) r c ≡ entry g (swap_bits r) (swap_bits c)
unfolding swap_gate_qubits
entry_swapped g r c h l = entry_gate_of _ r c h l

-- exchanged twice, a gate is the gate of its own elements
pub swapped_twice : (g : List (List Complex)) → swap_gate_qubits (swap_gate_qubits g) ≡ gate_of (entry g)
unfolding swap_gate_qubits gate_of
swapped_twice g = refl
