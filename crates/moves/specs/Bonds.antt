-- The bonds of a pair of neighbours, as a chain records them.
use Rattle.std.specs.Prelude.{ℕ, ◌+◌, ◌≤◌}
use Rattle.model.specs.declared.Chain.{Chain}
use Rattle.model.specs.declared.Bonds.{Bonds}
use Rattle.model.specs.Chain.{bond_left, bond_right}

-- of the sites k and k + 1
abbrev pub pair_bonds : Chain → ℕ → Bonds
pair_bonds c k = record { left = bond_left c k; mid = bond_right c k; right = bond_right c (k + 1) }

-- each of them is a byte
pub record Bytes (b : Bonds) : Type 0 where
  pub left : b.left ≤ 255
  pub mid : b.mid ≤ 255
  pub right : b.right ≤ 255
