-- What a sound chain record is, in propositions: document 01's sentence field by field. `sound_facts` and `facts_sound` (`Laws/SoundFacts`) show that the test `sound` decides them.
use Rattle.std.specs.Prelude.{ℕ, ◌+◌, ◌-◌, ◌≤◌, ◌<◌, ◌≡◌, List, T, length, get_or, Float, Some}
use Rattle.std.specs.Float.{binary64}
use Rattle.std.specs.Float.Ieee.{le, lt, to_bits}
use Rattle.complex.specs.Complex.{zero_f, one_f}
use Rattle.model.specs.declared.Chain.{Chain}
use Rattle.model.specs.Chain.{bond_discarded}

-- the settings are in range
pub record Settings (n d : ℕ) (epsilon clamp : Float) (exponent : ℕ) : Type 0 where
  pub qubits : (1 ≤ n) × (n ≤ 64)
  pub cap : (1 ≤ d) × (d ≤ 128)
  pub epsilon_range : T (le zero_f epsilon) × T (lt epsilon one_f)
  pub clamp_range : T (le zero_f clamp) × T (lt clamp one_f)
  -- every byte
  pub exponent_range : exponent ≤ 255

-- the outer bonds are 1, neighbours agree, each bond of the n sites is from 1 to the high water, and the entries from n on are 0
pub record Bonds (n high : ℕ) (left right : List ℕ) : Type 0 where
  pub first : get_or left 0 0 ≡ 1
  pub last : get_or right (n - 1) 0 ≡ 1
  pub neighbours : (i : ℕ) → i + 1 < n → get_or right i 0 ≡ get_or left (i + 1) 0
  pub left_range : (k : ℕ) → k < n → (1 ≤ get_or left k 0) × (get_or left k 0 ≤ high)
  pub right_range : (k : ℕ) → k < n → (1 ≤ get_or right k 0) × (get_or right k 0 ≤ high)
  pub left_past : (k : ℕ) → n ≤ k → get_or left k 0 ≡ 0
  pub right_past : (k : ℕ) → n ≤ k → get_or right k 0 ≡ 0

-- one map goes from below n to below n, the other undoes it, and its entries from n on are 0
pub record Undone (n : ℕ) (there back : List ℕ) : Type 0 where
  pub below : (i : ℕ) → i < n → get_or there i 0 < n
  pub undone : (i : ℕ) → i < n → get_or back (get_or there i 0) 0 ≡ i
  pub past : (i : ℕ) → n ≤ i → get_or there i 0 ≡ 0

-- the arrays have 64 entries, and that of the bonds between neighbours 63
pub record Sized (c : Chain) : Type 0 where
  pub lefts : length c.bond_left ≡ 64
  pub rights : length c.bond_right ≡ 64
  pub sites : length c.logical_to_site ≡ 64
  pub qubits : length c.site_to_logical ≡ 64
  pub bits : length c.classical_bits ≡ 64
  pub by_bond : length c.bond_discarded ≡ 63

pub record Sound (c : Chain) : Type 0 where
  pub settings : Settings c.num_qubits c.max_bond_dim c.svd_epsilon c.norm_clamp_min c.workspace_exponent
  pub high_water : (1 ≤ c.bond_high_water) × (c.bond_high_water ≤ c.max_bond_dim)
  pub bonds : Bonds c.num_qubits c.bond_high_water c.bond_left c.bond_right
  pub sites : Undone c.num_qubits c.logical_to_site c.site_to_logical
  pub qubits : Undone c.num_qubits c.site_to_logical c.logical_to_site
  pub centre : (k : ℕ) → c.center ≡ Some k → k < c.num_qubits
  -- past the last bond, that between n - 2 and n - 1, the discarded weight is +0 by its bits; -0 has other bits, and so has a NaN (document 02, W6)
  pub past_last_bond : (k : ℕ) → c.num_qubits ≤ k + 1 → k < 63 → to_bits binary64 (bond_discarded c k) ≡ 0
  pub sizes : Sized c
