-- Where the amplitudes lie: each site has a slot of 4 * D * D numbers in the store, and its amplitudes stand at the slot's beginning, real part first.
use Rattle.std.specs.Prelude.{ℕ, ◌+◌, ◌-◌, ◌*◌, List, ◌++◌, length, replicate, Float}
use Rattle.complex.specs.Complex.{zero_f}
use Rattle.complex.specs.Parts.{part, put}
use Rattle.complex.specs.Numbers.{at}
use Rattle.complex.specs.declared.Complex.{Complex}
use Rattle.model.specs.declared.Chain.{Chain}
use Rattle.model.specs.Chain.{bond_left, bond_right}

-- ---- room, in numbers: of a slot, of a store for n sites, of a work slice; d is the bond cap
abbrev pub slot_room : ℕ → ℕ
slot_room d = 4 * d * d

abbrev pub store_room : ℕ → ℕ → ℕ
store_room n d = n * slot_room d

abbrev pub work_room : ℕ → ℕ
work_room d = 80 * d * d + 16 * d

-- ---- a site

-- the slot of site k
abbrev pub slot_of : ℕ → ℕ → List Float → List Float
slot_of d k store = part (k * slot_room d) (k * slot_room d + slot_room d) store

-- xs, then +0 up to n numbers
unfoldable pub filled : ℕ → List Float → List Float
filled n xs = xs ++ replicate (n - length xs) zero_f

-- the store with xs at the slot of site k, and +0 in the rest of the slot
abbrev pub with_site : ℕ → ℕ → List Float → List Float → List Float
with_site d k xs store = put (k * slot_room d) (k * slot_room d + slot_room d) store (filled (slot_room d) xs)

-- the amplitude of a site at left index a, bit i and right index b (SiteTensor::idx)
abbrev pub amplitude : List Float → ℕ → ℕ → ℕ → ℕ → Complex
amplitude site br a i b = at site (a * (2 * br) + i * br + b)

-- ---- the chain with its store

pub record State : Type 0 where
  pub chain : Chain
  pub store : List Float

abbrev pub held : Chain → List Float → State
held c store = record { chain = c; store = store }

abbrev pub lefts : State → ℕ → ℕ
lefts s k = bond_left s.chain k

abbrev pub rights : State → ℕ → ℕ
rights s k = bond_right s.chain k

abbrev pub site_at : State → ℕ → List Float
site_at s k = slot_of s.chain.max_bond_dim k s.store
