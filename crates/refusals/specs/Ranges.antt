-- The ranges of the number of qubits and of the cap, as settings that fit and as a sound record give them, and what they bound.
use Rattle.std.specs.Prelude.{ℕ, ◌*◌, ◌≤◌, ◌≡◌, Bool, true, false, not, T, Float}
use Rattle.std.proofs.Common.{ap, sym, ◌∙◌, mul-le-mul, arith}
use Rattle.std.proofs.lemmas.Bool.{not-false}
use Rattle.model.specs.declared.Chain.{Chain}
use Rattle.model.specs.Sound.{settings_fit, sound}
use Rattle.model.proofs.Laws.SoundFacts.{settings_facts, sound_facts}

-- at most 64 qubits under a cap of at most 128
abbrev pub Ranges : ℕ → ℕ → Type 0
Ranges n d = (n ≤ 64) × (d ≤ 128)

pub settings_ranges : (n d : ℕ) (epsilon clamp : Float) (exponent : ℕ) → not (settings_fit n d epsilon clamp exponent) ≡ false → Ranges n d
settings_ranges n d epsilon clamp exponent e =
    let t : T (settings_fit n d epsilon clamp exponent) = rw (not-false (settings_fit n d epsilon clamp exponent) e) tt in
    let h = settings_facts n d epsilon clamp exponent t in
    (h.qubits.1, h.cap.1)

pub sound_ranges : (c : Chain) → not (sound c) ≡ false → Ranges c.num_qubits c.max_bond_dim
sound_ranges c e =
    let t : T (sound c) = rw (not-false (sound c) e) tt in
    let h = (sound_facts c t).settings in
    (h.qubits.1, h.cap.1)

-- the same where a test passed, whose result is `fits`
pub settings_passed : (n d : ℕ) (epsilon clamp : Float) (exponent : ℕ) (fits : Bool) → fits ≡ settings_fit n d epsilon clamp exponent → fits ≡ true → Ranges n d
settings_passed n d epsilon clamp exponent fits e t = settings_ranges n d epsilon clamp exponent (ap not (sym e ∙ t))

pub sound_passed : (c : Chain) (fits : Bool) → fits ≡ sound c → fits ≡ true → Ranges c.num_qubits c.max_bond_dim
sound_passed c fits e t = sound_ranges c (ap not (sym e ∙ t))

-- the numbers of an environment of that dimension, as floats
pub entries_most : (d : ℕ) → d ≤ 128 → 2 * d * d ≤ 32768
entries_most d h = omega (arith, mul-le-mul h h)

-- and of a store of at most 64 sites
pub store_most : (n d : ℕ) → Ranges n d → n * (4 * d * d) ≤ 4194304
store_most n d h = let s : 4 * d * d ≤ 65536 = omega (arith, entries_most d h.1) in mul-le-mul h.0 s
