-- The record and the store of a fresh chain (init of MpsBackend): every qubit 0, every bond 1, no centre; and the all-zero record that a refused start hands back.
use Rattle.std.specs.Prelude.{ℕ, false, cond, List, [], ◌∷◌, ◌++◌, ltb, drop, replicate, Float, None}
use Rattle.complex.specs.Complex.{zero_f, one_f}
use Rattle.complex.specs.Loops.{tabulate}
use Rattle.complex.specs.Matrix.{rows}
use Rattle.model.specs.declared.Chain.{Chain}
use Rattle.model.specs.Chain.{ChainSettings, built}
use Rattle.model.specs.Slots.{slot_room, store_room, filled}

-- 64 entries: f 0, f 1, .. f (n - 1), then 0
abbrev pub up_to : ℕ → (ℕ → ℕ) → List ℕ
up_to n f = tabulate 64 (λ i. cond (ltb i n) (f i) 0)

-- a record with no flag set, no centre and nothing discarded, at no bond; the bonds left and right of the sites are one list, and so are the two label maps
abbrev pub start_chain : ChainSettings → List ℕ → List ℕ → ℕ → Chain
start_chain settings bonds labels high =
    built settings (record { left = bonds; right = bonds }) (record { sites = labels; qubits = labels }) (replicate 64 false) None
    (record { high_water = high; discarded = zero_f; by_bond = replicate 63 zero_f })

unfoldable pub fresh_chain : ℕ → ℕ → Float → Float → ℕ → Chain
fresh_chain n d epsilon clamp exponent =
    start_chain (record { qubits = n; cap = d; exponent = exponent; epsilon = epsilon; clamp = clamp }) (up_to n (λ i. 1)) (up_to n (λ i. i)) 1

unfoldable pub zero_chain : Chain
zero_chain = start_chain (record { qubits = 0; cap = 0; exponent = 0; epsilon = zero_f; clamp = zero_f }) (replicate 64 0) (replicate 64 0) 0

-- each of the n slots holds the amplitudes 1 and 0, then +0; what lies past them is as it was
unfoldable pub fresh_store : ℕ → ℕ → List Float → List Float
fresh_store n d store = rows n (λ k. filled (slot_room d) (one_f ∷ zero_f ∷ zero_f ∷ zero_f ∷ [])) ++ drop (store_room n d) store
