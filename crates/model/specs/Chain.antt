-- The chain record read, built, and changed one group of fields at a time. The fields are those of the Rust's MpsBackend.
use Rattle.std.specs.Prelude.{ℕ, ◌+◌, Bool, List, Float, get_or, set, Option}
use Rattle.std.specs.Float.{nan}
use Rattle.model.specs.declared.Chain.{Chain}

-- ---- read

-- the bonds left and right of site k
abbrev pub bond_left : Chain → ℕ → ℕ
bond_left c k = get_or c.bond_left k 0

abbrev pub bond_right : Chain → ℕ → ℕ
bond_right c k = get_or c.bond_right k 0

-- the site of qubit q, and the qubit at site k
abbrev pub site_of : Chain → ℕ → ℕ
site_of c q = get_or c.logical_to_site q 0

abbrev pub qubit_at : Chain → ℕ → ℕ
qubit_at c k = get_or c.site_to_logical k 0

-- the weight that the cuts at the bond between sites k and k + 1 have discarded (document 02, W6)
abbrev pub bond_discarded : Chain → ℕ → Float
bond_discarded c k = get_or c.bond_discarded k nan

-- ---- the fields, in groups that change together

-- what a start sets, and no later call changes
pub record ChainSettings : Type 0 where
  pub qubits : ℕ
  pub cap : ℕ
  pub exponent : ℕ
  pub epsilon : Float
  pub clamp : Float

abbrev pub settings_of : Chain → ChainSettings
settings_of c = record { qubits = c.num_qubits; cap = c.max_bond_dim; exponent = c.workspace_exponent; epsilon = c.svd_epsilon; clamp = c.norm_clamp_min }

-- the bonds left and right of each site
pub record ChainBonds : Type 0 where
  pub left : List ℕ
  pub right : List ℕ

abbrev pub bonds_of : Chain → ChainBonds
bonds_of c = record { left = c.bond_left; right = c.bond_right }

-- the two maps: the site of each qubit, and the qubit at each site
pub record Labels : Type 0 where
  pub sites : List ℕ
  pub qubits : List ℕ

abbrev pub labels_of : Chain → Labels
labels_of c = record { sites = c.logical_to_site; qubits = c.site_to_logical }

-- what the cuts left: the widest bond so far, the weight that they discarded, and the same of each bond by itself
pub record CutTotals : Type 0 where
  pub high_water : ℕ
  pub discarded : Float
  pub by_bond : List Float

abbrev pub cut_totals_of : Chain → CutTotals
cut_totals_of c = record { high_water = c.bond_high_water; discarded = c.truncation_discarded; by_bond = c.bond_discarded }

-- ---- built: the one place that names every field of the record

abbrev pub built : ChainSettings → ChainBonds → Labels → List Bool → Option ℕ → CutTotals → Chain
built settings bonds labels bits at totals = record {
  num_qubits = settings.qubits;
  max_bond_dim = settings.cap;
  workspace_exponent = settings.exponent;
  svd_epsilon = settings.epsilon;
  norm_clamp_min = settings.clamp;
  bond_left = bonds.left;
  bond_right = bonds.right;
  logical_to_site = labels.sites;
  site_to_logical = labels.qubits;
  classical_bits = bits;
  center = at;
  bond_high_water = totals.high_water;
  truncation_discarded = totals.discarded;
  bond_discarded = totals.by_bond;
}

-- ---- changed

abbrev pub with_center : Chain → Option ℕ → Chain
with_center c at = built (settings_of c) (bonds_of c) (labels_of c) c.classical_bits at (cut_totals_of c)

-- the bond between sites k and k + 1
abbrev pub with_bond : Chain → ℕ → ℕ → Chain
with_bond c k bond =
    let bonds : ChainBonds = record { left = set c.bond_left (k + 1) bond; right = set c.bond_right k bond } in
    built (settings_of c) bonds (labels_of c) c.classical_bits c.center (cut_totals_of c)

-- both label maps: sites by qubit, and qubits by site
abbrev pub with_labels : Chain → List ℕ → List ℕ → Chain
with_labels c sites qubits = built (settings_of c) (bonds_of c) (record { sites = sites; qubits = qubits }) c.classical_bits c.center (cut_totals_of c)

abbrev pub with_bits : Chain → List Bool → Chain
with_bits c bits = built (settings_of c) (bonds_of c) (labels_of c) bits c.center (cut_totals_of c)

-- the widest bond so far, and the weight that the cuts have discarded, of the chain and by bond
abbrev pub with_truncation : Chain → ℕ → Float → List Float → Chain
with_truncation c high discarded by_bond =
    built (settings_of c) (bonds_of c) (labels_of c) c.classical_bits c.center (record { high_water = high; discarded = discarded; by_bond = by_bond })
