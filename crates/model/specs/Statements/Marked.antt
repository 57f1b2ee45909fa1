-- The marked examples of document 01, and those of the reasons of ranks and of the bonds' discarded weights (document 02, W3 and W6): one list. That every row holds is one statement, `marked` of Promised. A row has what the definitions compute, and what it has to be.
use Rattle.std.specs.Prelude.{ℕ, ◌/◌, ◌%◌, ◌^◌, Bool, true, false, ◌&&◌, ◌||◌, cond, List, [], ◌∷◌, ◌++◌, map, eqb, replicate, take, Float}
use Rattle.std.specs.Float.{binary64}
use Rattle.std.specs.Float.Ieee.{round, of_bits, to_bits}
use Rattle.complex.specs.Complex.{zero_f, one_f, real, zero_c}
use Rattle.complex.specs.Loops.{tabulate}
use Rattle.complex.specs.declared.Complex.{Complex}
use Rattle.gates.specs.Gate.{entry, gate_of, swap_gate_qubits}
use Rattle.gates.specs.Named.{matrix_of}
use Rattle.gates.specs.declared.NamedGate.TheVariants.{Cx}
use Rattle.root.specs.Root.{root_of}
use Rattle.model.specs.declared.Reason.{Reason}
use Rattle.model.specs.declared.Reason.TheVariants.{Floor, Cap, Tolerance, Full}
use Rattle.model.specs.Chain.{bond_discarded}
use Rattle.model.specs.Slots.{State, held, work_room}
use Rattle.model.specs.Qr.{Kept, qr}
use Rattle.model.specs.Truncation.{rank, rank_reason, resolvable, share, recorded, cut_rank}
use Rattle.model.specs.Moves.{q_at, r_at}
use Rattle.model.specs.Start.{fresh_chain, fresh_store}
use Rattle.model.specs.Answers.{told_applied}
use Rattle.model.specs.Calls.{gate_call, named_gate_call}

pub record Row : Type 0 where
  pub computed : List ℕ
  pub expected : List ℕ

-- two lists are equal, number by number
abbrev pub same : List ℕ → List ℕ → Bool
same [] [] = true
same [] (y ∷ ys) = false
same (x ∷ xs) [] = false
same (x ∷ xs) (y ∷ ys) = eqb x y && same xs ys

-- every row computes to what it should
abbrev pub all_hold : List Row → Bool
all_hold [] = true
all_hold (r ∷ rs) = same r.computed r.expected && all_hold rs

-- ---- rows of whole numbers, of tests, and of floats by their bits

abbrev pub wholes : List ℕ → List ℕ → Row
wholes xs ys = record { computed = xs; expected = ys }

abbrev pub whole : ℕ → ℕ → Row
whole x y = wholes (x ∷ []) (y ∷ [])

abbrev pub test : Bool → Bool → Row
test b c = whole (cond b 1 0) (cond c 1 0)

abbrev pub floats : List Float → List Float → Row
floats xs ys = wholes (map (to_bits binary64) xs) (map (to_bits binary64) ys)

abbrev pub float : Float → Float → Row
float x y = floats (x ∷ []) (y ∷ [])

-- rows of reasons, by their places in the order in which they are tried
abbrev pub place : Reason → ℕ
place Floor = 0
place Cap = 1
place Tolerance = 2
place Full = 3

abbrev pub reason : Reason → Reason → Row
reason r t = whole (place r) (place t)

-- ---- what the rows are written with

-- the float nearest to a / b
abbrev pub ratio : ℕ → ℕ → Float
ratio a b = round binary64 false a b

-- a gate's sixteen real parts by rows, then its imaginary parts
abbrev pub parts : List (List Complex) → List Float
parts g = tabulate 16 (λ k. (entry g (k / 4) (k % 4)).re) ++ tabulate 16 (λ k. (entry g (k / 4) (k % 4)).im)

-- q and r of a column of two numbers
abbrev pub factors : Kept → List Float
factors f = (q_at 2 f 0 0).re ∷ (q_at 2 f 0 0).im ∷ (q_at 2 f 1 0).re ∷ (q_at 2 f 1 0).im ∷ (r_at 2 1 f 0 0).re ∷ (r_at 2 1 f 0 0).im ∷ []

-- a fresh chain of n qubits under the cap d, with epsilon 0, clamp 0 and workspace exponent 5; and a work slice under that cap
abbrev pub fresh : ℕ → ℕ → State
fresh n d = held (fresh_chain n d zero_f zero_f 5) (fresh_store n d [])

abbrev pub work : ℕ → List Float
work d = replicate (work_room d) zero_f

-- the qubits by site after a Cx on q0 and q1, under the cap 1
abbrev pub qubits_after : ℕ → ℕ → ℕ → List ℕ
qubits_after n q0 q1 = take n (named_gate_call (fresh n 1) (work 1) q0 q1 Cx).chain.site_to_logical

-- "E, ones at (0,0) and (3,0) only"; what it answers on q0 and q1: the number, and the place of the reason
abbrev pub ones_first : List (List Complex)
ones_first = gate_of (λ r c. cond (eqb c 0 && (eqb r 0 || eqb r 3)) (real one_f) zero_c)

abbrev pub told : ℕ → ℕ → ℕ → ℕ → List ℕ
told n d q0 q1 = let a = told_applied (gate_call (fresh n d) (work d) q0 q1 ones_first).answer in a.number ∷ map place a.reason

-- what it leaves discarded under the cap 1: by the chain, and at the first m bonds
abbrev pub dropped : ℕ → ℕ → ℕ → ℕ → List Float
dropped n q0 q1 m = let c = (gate_call (fresh n 1) (work 1) q0 q1 ones_first).chain in c.truncation_discarded ∷ tabulate m (bond_discarded c)

-- ---- the list

unfoldable pub table : List Row
table =
    -- "Cx with bits exchanged has ones at (0,0),(1,3),(2,2),(3,1)"; its other parts are +0
    floats (parts (swap_gate_qubits (matrix_of Cx)))
    (one_f ∷ zero_f ∷ zero_f ∷ zero_f
    ∷ zero_f ∷ zero_f ∷ zero_f ∷ one_f
    ∷ zero_f ∷ zero_f ∷ one_f ∷ zero_f
    ∷ zero_f ∷ one_f ∷ zero_f ∷ zero_f ∷ replicate 16 zero_f)
    -- "cut_rank of 1,1,1 is 2; 4,1,4 is 4; 8,16,2 is 4"
    ∷ whole (cut_rank 1 1 1) 2
    ∷ whole (cut_rank 4 1 4) 4
    ∷ whole (cut_rank 8 16 2) 4
    -- "Rank of (4,2,1), epsilon 0.5, D 3, is 1; of (0,0), epsilon 0, D 2, is 1; of (1,1), epsilon 0, D 1, is 1"
    ∷ whole (rank (ratio 1 2) 3 (ratio 4 1 ∷ ratio 2 1 ∷ one_f ∷ [])) 1
    ∷ whole (rank zero_f 2 (zero_f ∷ zero_f ∷ [])) 1
    ∷ whole (rank zero_f 1 (one_f ∷ one_f ∷ [])) 1
    -- (W3) why; of (1,1), epsilon 0, D 2 too
    ∷ reason (rank_reason (ratio 1 2) 3 (ratio 4 1 ∷ ratio 2 1 ∷ one_f ∷ [])) Tolerance
    ∷ reason (rank_reason zero_f 2 (zero_f ∷ zero_f ∷ [])) Floor
    ∷ reason (rank_reason zero_f 1 (one_f ∷ one_f ∷ [])) Cap
    ∷ reason (rank_reason zero_f 2 (one_f ∷ one_f ∷ [])) Full
    -- "(1, 2^-50) kept 1 drops nothing resolvable; (1, 2^-49) does"
    ∷ test (resolvable (one_f ∷ ratio 1 (2 ^ 50) ∷ []) 1) false
    ∷ test (resolvable (one_f ∷ ratio 1 (2 ^ 49) ∷ []) 1) true
    -- "(4,3) kept 1 adds 9/25 rounded"
    ∷ float (recorded zero_f (share (ratio 4 1 ∷ ratio 3 1 ∷ []) 1)) (ratio 9 25)
    -- "Root of 2 is 3FF6A09E667F3BCD; of 2^-1074 is 2^-537"
    ∷ float (root_of (ratio 2 1)) (of_bits binary64 0x3FF6_A09E_667F_3BCD)
    ∷ float (root_of (ratio 1 (2 ^ 1074))) (ratio 1 (2 ^ 537))
    -- "QR of column (3,4): r is 5, q is (0.6000000000000001, 0.8). QR of (0,0): q (1,0), r 0"
    ∷ floats (factors (qr 2 1 (ratio 3 1 ∷ zero_f ∷ ratio 4 1 ∷ zero_f ∷ []))) (ratio 6000000000000001 (10 ^ 16) ∷ zero_f ∷ ratio 8 10 ∷ zero_f ∷ ratio 5 1 ∷ zero_f ∷ [])
    ∷ floats (factors (qr 2 1 (zero_f ∷ zero_f ∷ zero_f ∷ zero_f ∷ []))) (one_f ∷ zero_f ∷ zero_f ∷ zero_f ∷ zero_f ∷ zero_f ∷ [])
    -- "n 4, pair (0,3): qubits by site become 0,3,1,2"
    ∷ wholes (qubits_after 4 0 3) (0 ∷ 3 ∷ 1 ∷ 2 ∷ [])
    -- (W3) E on a fresh n 2: D 1 Cap, D 2 Full
    ∷ wholes (told 2 1 0 1) (0 ∷ place Cap ∷ [])
    ∷ wholes (told 2 2 0 1) (0 ∷ place Full ∷ [])
    -- (W3) E on (0,2) of a fresh n 3, D 2: the gate's own, Full, and not the swap's, Tolerance
    ∷ wholes (told 3 2 0 2) (0 ∷ place Full ∷ [])
    -- (W6) E on a fresh n 2, D 1: the chain's figure and bond 0's have the bits 3FE0000000000000; on (1,2) of a fresh n 3, the chain's and bond 1's, and bond 0's is +0
    ∷ wholes (map (to_bits binary64) (dropped 2 0 1 1)) (0x3FE0_0000_0000_0000 ∷ 0x3FE0_0000_0000_0000 ∷ [])
    ∷ wholes (map (to_bits binary64) (dropped 3 1 2 2)) (0x3FE0_0000_0000_0000 ∷ 0 ∷ 0x3FE0_0000_0000_0000 ∷ [])
    ∷ []
