-- What a sound chain record is: document 01's sentence, as a computed test.
use Rattle.std.specs.Prelude.{ℕ, ◌+◌, ◌-◌, Bool, true, ◌&&◌, ◌||◌, List, leb, ltb, eqb, length, get_or, Float, Option, None, Some}
use Rattle.std.specs.Float.{nan, binary64}
use Rattle.std.specs.Float.Ieee.{le, lt, to_bits}
use Rattle.complex.specs.Complex.{zero_f, one_f}
use Rattle.complex.specs.Loops.{every}
use Rattle.model.specs.declared.Chain.{Chain}
use Rattle.model.specs.Chain.{bond_left, bond_right}

abbrev pub within : ℕ → ℕ → ℕ → Bool
within low high x = leb low x && leb x high

-- at least 0 and below 1, which no NaN is
abbrev pub share01 : Float → Bool
share01 x = le zero_f x && lt x one_f

-- the settings that start takes; the exponent is a byte, and every byte is taken
unfoldable pub settings_fit : ℕ → ℕ → Float → Float → ℕ → Bool
settings_fit n d epsilon clamp exponent = within 1 64 n && within 1 128 d && share01 epsilon && share01 clamp && leb exponent 255

-- entry i of a list: within the chain it passes a test, past the chain it is 0
abbrev pub entry_fits : ℕ → List ℕ → (ℕ → Bool) → ℕ → Bool
entry_fits n xs p i = (leb n i || p (get_or xs i 0)) && (ltb i n || eqb (get_or xs i 0) 0)

-- outer bonds are 1, neighbours agree, and each bond is from 1 to the widest so far
unfoldable pub bonds_fit : Chain → Bool
bonds_fit c =
    let n = c.num_qubits in
    let high = c.bond_high_water in
    eqb (bond_left c 0) 1 && eqb (bond_right c (n - 1)) 1
    && every 63 (λ i. leb n (i + 1) || eqb (bond_right c i) (bond_left c (i + 1)))
    && every 64 (entry_fits n c.bond_left (within 1 high))
    && every 64 (entry_fits n c.bond_right (within 1 high))

-- `there` goes from below n to below n, and `back` comes back from it
unfoldable pub undoes : ℕ → List ℕ → List ℕ → Bool
undoes n there back = every 64 (λ i. entry_fits n there (λ s. ltb s n && eqb (get_or back s 0) i) i)

abbrev pub center_fits : Option ℕ → ℕ → Bool
center_fits None n = true
center_fits (Some k) n = ltb k n

-- the discarded weights past the last bond, that between n - 2 and n - 1, are +0, whose bits are 0; the others are free (document 02, W6)
unfoldable pub discarded_fits : ℕ → List Float → Bool
discarded_fits n xs = every 63 (λ k. ltb (k + 1) n || eqb (to_bits binary64 (get_or xs k nan)) 0)

-- every array has 64 entries, and that of the bonds between neighbours 63, as its type says
unfoldable pub sized : Chain → Bool
sized c =
    eqb (length c.bond_left) 64 && eqb (length c.bond_right) 64 && eqb (length c.logical_to_site) 64 && eqb (length c.site_to_logical) 64
    && eqb (length c.classical_bits) 64 && eqb (length c.bond_discarded) 63

unfoldable pub sound : Chain → Bool
sound c =
    settings_fit c.num_qubits c.max_bond_dim c.svd_epsilon c.norm_clamp_min c.workspace_exponent
    && within 1 c.max_bond_dim c.bond_high_water
    && bonds_fit c
    && undoes c.num_qubits c.logical_to_site c.site_to_logical
    && undoes c.num_qubits c.site_to_logical c.logical_to_site
    && center_fits c.center c.num_qubits
    && discarded_fits c.num_qubits c.bond_discarded
    && sized c
