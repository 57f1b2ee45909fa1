-- What the first tests of a record say where they pass.
use Rattle.std.specs.Prelude.{◌≡◌, Bool, true, ◌&&◌, leb, T, ◌≤◌}
use lib.Dec.{leb→le}
use Rattle.std.specs.Float.Ieee.Fits.{and_l, and_r}
use Rattle.std.proofs.Common.{arith}
use Rattle.model.specs.declared.Chain.{Chain}
use Rattle.model.specs.Sound.{settings_fit, within}
use Rattle.model.proofs.Laws.SoundFacts.{settings_facts}

-- the chain is within its arrays, and the widest bond so far is a byte
abbrev pub Tested : Chain → Type 0
Tested c = (1 ≤ c.num_qubits) × (c.num_qubits ≤ 64) × (c.bond_high_water ≤ 128)

pub tested : (c : Chain) (a b : Bool) → a ≡ settings_fit c.num_qubits c.max_bond_dim c.svd_epsilon c.norm_clamp_min c.workspace_exponent → b ≡ within 1 c.max_bond_dim c.bond_high_water → (a && b) ≡ true → Tested c
tested c a b p q e =
    let d = c.max_bond_dim in
    let high = c.bond_high_water in
    let settings = settings_fit c.num_qubits d c.svd_epsilon c.norm_clamp_min c.workspace_exponent in
    let t : T (settings && within 1 d high) = rw (rw (p, q) at e) tt in
    let s = settings_facts c.num_qubits d c.svd_epsilon c.norm_clamp_min c.workspace_exponent (and_l settings (within 1 d high) t) in
    let l : high ≤ d = leb→le high d (and_r (leb 1 high) (leb high d) (and_r settings (within 1 d high) t)) in
    (s.qubits.0, s.qubits.1, omega (arith, s.cap.1, l))
