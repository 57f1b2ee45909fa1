-- The bits-and-phase machine of document 01: one bit a qubit, all 0 at first, and a phase, 1 at first. It is fed n, D, and each call with the lengths of its slices.
-- What it refuses and what it moves are apart, and neither cites anything of the chain's definitions. Of a layer's slices it sees the pairs and the gates, as `Layers` reads them.
use Rattle.std.specs.Prelude.{ℕ, ◌+◌, ◌*◌, ◌/◌, ◌%◌, Bool, true, false, not, ◌&&◌, ◌||◌, cond, List, [], ◌∷◌, leb, ltb, eqb, length, Float}
use Rattle.std.specs.Bool.{beq}
use Rattle.std.specs.Float.Ieee.{lt, le}
use Rattle.std.specs.Float.Ieee.Scale.{finite}
use Rattle.complex.specs.Complex.{zero_f, one_f, is_zero}
use Rattle.complex.specs.Loops.{each, every}
use Rattle.complex.specs.declared.Complex.{Complex}
use Rattle.gates.specs.Gate.{entry}
use Rattle.gates.specs.Named.{matrix_of}
use Rattle.model.specs.Phases.{Phase, ◌⊗◌, one, is_phase, read_phase}
use Rattle.model.specs.Answers.{View, accepted, refused, none, weight, nothing, bit}
use Rattle.model.specs.Layers.{pair_count, first, second, gate_at}
use Rattle.model.specs.Lists.{Call, gate, named, layer, project, measure, reset}

pub record Machine : Type 0 where
  pub bits : ℕ → Bool
  pub phase : Phase

abbrev pub fresh : Machine
fresh = record { bits = λ q. false; phase = one }

-- ---- what it refuses: 2, 4 and 5, and 9 of a layer after 4, tried in that order; 0 where none refuses

abbrev pub too_short : ℕ → ℕ → ℕ → ℕ → Bool
too_short n d store_length work_length = ltb store_length (4 * n * (d * d)) || ltb work_length (80 * (d * d) + 16 * d)

abbrev pub no_number : Complex → Bool
no_number z = not (finite z.re) || not (finite z.im)

abbrev pub no_gate : List (List Complex) → Bool
no_gate g = not (every 4 (λ r. every 4 (λ c. not (no_number (entry g r c)))))

abbrev pub no_draw : Float → Bool
no_draw x = not (le zero_f x) || not (lt x one_f)

-- not two of n qubits
abbrev pub bad_pair : ℕ → ℕ → ℕ → Bool
bad_pair n q0 q1 = leb n q0 || leb n q1 || eqb q0 q1

-- an odd number of bytes, or not 16 gate numbers a byte
abbrev pub unpaired : List ℕ → List Float → Bool
unpaired pairs gates = eqb (length pairs % 2) 1 || not (eqb (length gates) (16 * length pairs))

-- some pair is not two of n qubits; some gate has a part that is no number
abbrev pub pair_outside : ℕ → List ℕ → Bool
pair_outside n pairs = not (every (pair_count pairs) (λ p. not (bad_pair n (first pairs p) (second pairs p))))

abbrev pub gate_improper : List ℕ → List Float → Bool
gate_improper pairs gates = not (every (pair_count pairs) (λ p. not (no_gate (gate_at gates p))))

-- how many pairs name the qubit q; some qubit is named by two
abbrev pub namings : List ℕ → ℕ → ℕ
namings pairs q = each (pair_count pairs) (λ p m. cond (eqb q (first pairs p) || eqb q (second pairs p)) (m + 1) m) 0

abbrev pub named_twice : ℕ → List ℕ → Bool
named_twice n pairs = not (every n (λ q. ltb (namings pairs q) 2))

abbrev pub in_turn : Bool → Bool → Bool → Bool → ℕ
in_turn two four nine five = cond two 2 (cond four 4 (cond nine 9 (cond five 5 0)))

unfoldable pub refusal : ℕ → ℕ → ℕ → Call → ℕ
refusal n d long (gate q0 q1 g work) = in_turn (too_short n d long (length work)) (bad_pair n q0 q1) false (no_gate g)
refusal n d long (named q0 q1 name work) = in_turn (too_short n d long (length work)) (bad_pair n q0 q1) false false
refusal n d long (layer pairs gates work) =
    in_turn (too_short n d long (length work) || unpaired pairs gates) (pair_outside n pairs) (named_twice n pairs) (gate_improper pairs gates)
refusal n d long (project q o work) = in_turn (too_short n d long (length work)) (leb n q) false false
refusal n d long (measure q flag draw work) = in_turn (too_short n d long (length work)) (leb n q || ltb 63 flag) false (no_draw draw)
refusal n d long (reset q draw work) = in_turn (too_short n d long (length work)) (leb n q) false (no_draw draw)

-- ---- what it moves

-- the row of the nonzero entry of a column
unfoldable pub nonzero_row : List (List Complex) → ℕ → ℕ
nonzero_row g c = each 4 (λ r k. cond (is_zero (entry g r c)) k r) 0

abbrev pub with_bit : ℕ → Bool → (ℕ → Bool) → ℕ → Bool
with_bit q b bits p = cond (eqb p q) b (bits p)

abbrev pub number : Bool → ℕ
number b = cond b 1 0

-- the column of the two bits: its nonzero entry's row gives the bits, and the entry multiplies the phase
unfoldable pub moved : List (List Complex) → ℕ → ℕ → Machine → Machine
moved g q0 q1 M =
    let c = 2 * number (M.bits q0) + number (M.bits q1) in
    let r = nonzero_row g c in
    record {
      bits = with_bit q1 (eqb (r % 2) 1) (with_bit q0 (eqb (r / 2) 1) M.bits);
      phase = M.phase ⊗ read_phase (entry g r c);
    }

-- by pair p of a layer
abbrev pub moved_at : List ℕ → List Float → ℕ → Machine → Machine
moved_at pairs gates p = moved (gate_at gates p) (first pairs p) (second pairs p)

unfoldable pub reply : Call → Machine → View
reply (gate q0 q1 g work) M = accepted none
reply (named q0 q1 name work) M = accepted none
reply (layer pairs gates work) M = accepted none
reply (project q o work) M = accepted (cond (beq (M.bits q) o) (weight one_f) nothing)
reply (measure q flag draw work) M = accepted (bit (M.bits q))
reply (reset q draw work) M = accepted none

unfoldable pub next : Call → Machine → Machine
next (gate q0 q1 g work) M = moved g q0 q1 M
next (named q0 q1 name work) M = moved (matrix_of name) q0 q1 M
next (layer pairs gates work) M = each (pair_count pairs) (moved_at pairs gates) M
next (project q o work) M = M
next (measure q flag draw work) M = M
next (reset q draw work) M = record { bits = with_bit q false M.bits; phase = M.phase }

-- ---- a call, and a list of calls, on a chain of n qubits and cap d whose store is so long

abbrev pub machine_answer : ℕ → ℕ → ℕ → Call → Machine → View
machine_answer n d long c M = let k = refusal n d long c in cond (eqb k 0) (reply c M) (refused k)

abbrev pub machine_next : ℕ → ℕ → ℕ → Call → Machine → Machine
machine_next n d long c M = cond (eqb (refusal n d long c) 0) (next c M) M

abbrev pub machine_answers : ℕ → ℕ → ℕ → List Call → Machine → List View
machine_answers n d long [] M = []
machine_answers n d long (c ∷ cs) M = machine_answer n d long c M ∷ machine_answers n d long cs (machine_next n d long c M)

abbrev pub machine_after : ℕ → ℕ → ℕ → List Call → Machine → Machine
machine_after n d long [] M = M
machine_after n d long (c ∷ cs) M = machine_after n d long cs (machine_next n d long c M)

-- ---- the condition on gates: one nonzero entry in each row and column, that entry being 1, -1, i or -i

-- of the four numbers f 0, .. f 3 one is not zero, and that one is a phase
abbrev pub lone_phase : (ℕ → Complex) → Bool
lone_phase f = eqb (each 4 (λ k m. cond (is_zero (f k)) m (m + 1)) 0) 1 && every 4 (λ k. is_zero (f k) || is_phase (f k))

unfoldable pub monomial : List (List Complex) → Bool
monomial g = every 4 (λ r. lone_phase (entry g r)) && every 4 (λ c. lone_phase (λ r. entry g r c))

-- a call that makes no gate, or one that is refused, or whose gates meet the condition; the named gates meet it
abbrev pub allowed : ℕ → ℕ → ℕ → Call → Bool
allowed n d long (gate q0 q1 g work) = not (eqb (refusal n d long (gate q0 q1 g work)) 0) || monomial g
allowed n d long (named q0 q1 name work) = not (eqb (refusal n d long (named q0 q1 name work)) 0) || monomial (matrix_of name)
allowed n d long (layer pairs gates work) = not (eqb (refusal n d long (layer pairs gates work)) 0) || every (pair_count pairs) (λ p. monomial (gate_at gates p))
allowed n d long (project q o work) = true
allowed n d long (measure q flag draw work) = true
allowed n d long (reset q draw work) = true

abbrev pub all_allowed : ℕ → ℕ → ℕ → List Call → Bool
all_allowed n d long [] = true
all_allowed n d long (c ∷ cs) = allowed n d long c && all_allowed n d long cs
