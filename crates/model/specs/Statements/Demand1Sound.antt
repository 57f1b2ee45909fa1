-- DEMAND 1, from a sound record: every call, refused or accepted, leaves label maps inverse to each other, neighbouring bonds equal and no bond above the cap;
-- an accepted start's record is sound; and a cut that is made again after a centre is established is never refused by 6 then, so that a cut refused by 6 is untouched.
-- Nothing is asked of the store, of the work slice or of a call's other arguments. `Laws/SoundKept`, `Laws/StartLaws` and `Laws/CutEnds` prove it.
use Rattle.std.specs.Prelude.{ℕ, ◌+◌, ◌≤◌, ◌<◌, ◌≡◌}
use Rattle.model.specs.declared.Chain.{Chain}
use Rattle.model.specs.Chain.{bond_left, bond_right, site_of, qubit_at}

-- (c) in the demand's words, of a chain of n qubits and cap d
pub record Orderly (n d : ℕ) (c : Chain) : Type 0 where
  pub sites : (q : ℕ) → q < n → (site_of c q < n) × (qubit_at c (site_of c q) ≡ q)
  pub qubits : (k : ℕ) → k < n → (qubit_at c k < n) × (site_of c (qubit_at c k) ≡ k)
  pub neighbours : (i : ℕ) → i + 1 < n → bond_right c i ≡ bond_left c (i + 1)
  pub bonds : (k : ℕ) → k < n → (bond_left c k ≤ d) × (bond_right c k ≤ d)
