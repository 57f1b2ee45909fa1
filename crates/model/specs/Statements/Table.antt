-- Document 01's table 'How a call is turned down': for each call its rows in the order in which they are tried, each a number and the ground on which it is answered.
-- The grounds are propositions written from the document and the Rust, and cite none of the tests in the calls' definitions. What they cite of the definitions computes
-- values and states: a gate's entries, a layer's pairs and gates; the pair's decomposition, its values and the rank that is kept; the moves of the centre; the route; and the state that a cut leaves.
use Rattle.std.specs.Prelude.{ℕ, ◌+◌, ◌*◌, ◌^◌, ◌≤◌, ◌<◌, min, ◌≡◌, ◌⊎◌, false, List, [], ◌∷◌, ◌++◌, T, negsuc, length, get_or, Float, Some}
use Rattle.std.specs.Float.{nan, inf, fin, binary64}
use Rattle.std.specs.Float.Ieee.{mul, le, lt}
use Rattle.complex.specs.Complex.{zero_f, one_f}
use Rattle.complex.specs.declared.Complex.{Complex}
use Rattle.gates.specs.Gate.{entry}
use Rattle.model.specs.declared.Chain.{Chain}
use Rattle.model.specs.Chain.{site_of}
use Rattle.model.specs.Slots.{State, lefts, rights}
use Rattle.model.specs.Svd.{Svd, values, raw_value}
use Rattle.model.specs.Moves.{established, prepared_on}
use Rattle.model.specs.Cut.{pair_of, rank_of}
use Rattle.model.specs.Layers.{Placed, pair_count, first, second, gate_at, layer_of}
use Rattle.model.specs.Routing.{Step, route_of, steps_of, stepped, placed_run}
use Rattle.model.specs.Statements.Soundness.{Settings, Sound}

-- ---- a table, and the number that it answers

pub record Row : Type 1 where
  pub number : ℕ
  pub ground : Type 0

infix 68 ◌when◌
abbrev pub ◌when◌ : ℕ → Type 0 → Row
k when ground = record { number = k; ground = ground }

-- k is the number of the first row whose ground holds, and 0 where none holds
abbrev pub FirstGround : List Row → ℕ → Type 0
FirstGround [] k = k ≡ 0
FirstGround (r ∷ rs) k = (r.ground × (k ≡ r.number)) ⊎ ((r.ground → ⊥) × FirstGround rs k)

-- ---- 1: a setting out of range

abbrev pub OutOfRange : ℕ → ℕ → Float → Float → ℕ → Type 0
OutOfRange n d epsilon clamp exponent = Settings n d epsilon clamp exponent → ⊥

-- ---- 2: a lent slice too short

abbrev pub ShortStore : ℕ → ℕ → List Float → Type 0
ShortStore n d store = length store < 4 * n * d * d

abbrev pub ShortSlice : Chain → List Float → List Float → Type 0
ShortSlice c store work =
    let d = c.max_bond_dim in
    ShortStore c.num_qubits d store ⊎ (length work < 80 * d * d + 16 * d)

abbrev pub ShortResult : Chain → List Float → Type 0
ShortResult c out = length out < 2 * c.max_bond_dim * c.max_bond_dim

-- ---- 3: the record not sound

abbrev pub Unsound : Chain → Type 0
Unsound c = Sound c → ⊥

-- ---- 4: an index out of range, or one qubit twice

abbrev pub NoQubit : Chain → ℕ → Type 0
NoQubit c q = c.num_qubits ≤ q

abbrev pub NoPair : Chain → ℕ → ℕ → Type 0
NoPair c q0 q1 = NoQubit c q0 ⊎ NoQubit c q1 ⊎ (q0 ≡ q1)

-- ---- 5: a gate or a draw that is not a proper number

abbrev pub NotFinite : Float → Type 0
NotFinite nan = Unit
NotFinite (inf s) = Unit
NotFinite (fin s m e) = ⊥

-- a part of the element (r, c) for some row and some column
abbrev pub NoGate : List (List Complex) → Type 0
NoGate gate = (r : ℕ) × (r < 4) × ((c : ℕ) × (c < 4) × (NotFinite (entry gate r c).re ⊎ NotFinite (entry gate r c).im))

-- not at least 0 and below 1, which no NaN is
abbrev pub NoDraw : Float → Type 0
NoDraw draw = T (le zero_f draw) × T (lt draw one_f) → ⊥

-- ---- the same over all pairs of a layer, and 9: a qubit named by two of them (document 02, W1)

-- no number of pairs has so many bytes and so many gate numbers
abbrev pub Unpaired : List ℕ → List Float → Type 0
Unpaired pairs gates = ((n : ℕ) × (length pairs ≡ 2 * n) × (length gates ≡ 32 * n)) → ⊥

abbrev pub NoPairAt : Chain → List ℕ → Type 0
NoPairAt c pairs = (p : ℕ) × (p < pair_count pairs) × NoPair c (first pairs p) (second pairs p)

-- pair p names the qubit q
abbrev pub Names : List ℕ → ℕ → ℕ → Type 0
Names pairs p q = (q ≡ first pairs p) ⊎ (q ≡ second pairs p)

abbrev pub NamedTwice : List ℕ → Type 0
NamedTwice pairs = (p : ℕ) × (p < pair_count pairs) × ((r : ℕ) × (r < p) × ((q : ℕ) × Names pairs r q × Names pairs p q))

abbrev pub NoGateAt : List ℕ → List Float → Type 0
NoGateAt pairs gates = (p : ℕ) × (p < pair_count pairs) × NoGate (gate_at gates p)

-- ---- 6 and 7: a cut between the sites k and k + 1

-- its workspace, by the bonds that it meets, above 2 to the exponent
abbrev pub AboveWorkspace : ℕ → State → Type 0
AboveWorkspace k s = 2 ^ s.chain.workspace_exponent < 20 * lefts s k * rights s (k + 1) + 2 * rights s k * rights s (k + 1)

-- the most values that it can have: twice the narrower outer bond, and at most four times the middle one (cut_rank)
abbrev pub most_values : ℕ → State → ℕ
most_values k s = min (2 * min (lefts s k) (rights s (k + 1))) (4 * rights s k)

-- it can lose weight: it can have more values than the cap; or there is a threshold, and it can have 128 values or a bond has had them (cut_can_lose)
abbrev pub CanLose : ℕ → State → Type 0
CanLose k s =
    let c = s.chain in
    (c.max_bond_dim < most_values k s) ⊎ (T (lt zero_f c.svd_epsilon) × ((128 ≤ most_values k s) ⊎ (128 ≤ c.bond_high_water)))

-- it keeps a centre: one is recorded, or it can lose weight
abbrev pub KeepsCentre : ℕ → State → Type 0
KeepsCentre k s = ((j : ℕ) × (s.chain.center ≡ Some j)) ⊎ CanLose k s

-- t is the state in which the pair is first decomposed: with the centre brought onto it if one is kept, else as it stands
abbrev pub FirstIn : ℕ → State → State → Type 0
FirstIn k s t = (KeepsCentre k s × (t ≡ (prepared_on k s.chain.center s).state)) ⊎ ((KeepsCentre k s → ⊥) × (t ≡ s))

abbrev pub SomeNan : Svd → Type 0
SomeNan d = (j : ℕ) × (j < d.wide) × (raw_value d j ≡ nan)

-- the first value that is not kept is above 4 * 2^-52, which is 2^-50, times the first value (discards_resolvable_weight)
abbrev pub Resolvable : List Float → ℕ → Type 0
Resolvable s kept = (kept < length s) × T (lt (mul binary64 (fin false 1 (negsuc 49)) (get_or s 0 nan)) (get_or s kept nan))

-- with no centre kept, and no NaN, the cut would drop weight that can be resolved: then a centre is established on site k, and the cut made again
abbrev pub MadeAgain : List (List Complex) → ℕ → State → Type 0
MadeAgain gate k s = let d = pair_of gate k s in (KeepsCentre k s → ⊥) × (SomeNan d → ⊥) × Resolvable (values d) (rank_of s d)

-- t is a state in which the cut decomposes the pair: the first, and that with the centre established if it is made again
abbrev pub DecomposedIn : List (List Complex) → ℕ → State → State → Type 0
DecomposedIn gate k s t = FirstIn k s t ⊎ (MadeAgain gate k s × (t ≡ established k s))

-- and a singular value is a NaN there
abbrev pub NanIn : List (List Complex) → ℕ → State → State → Type 0
NanIn gate k s t = DecomposedIn gate k s t × SomeNan (pair_of gate k t)

-- cut by cut, each in the state that those before it left
abbrev pub cut_rows : List Step → State → List Row
cut_rows [] s = []
cut_rows (x ∷ xs) s = 6 when AboveWorkspace x.site s ∷ 7 when ((t : State) × NanIn x.gate x.site s t) ∷ cut_rows xs (stepped x s).state

-- the cuts of a gate
abbrev pub gate_steps : State → ℕ → ℕ → List (List Complex) → List Step
gate_steps s q0 q1 gate = steps_of gate (route_of (site_of s.chain q0) (site_of s.chain q1))

-- pair by pair, the cuts of each gate in the state that the gates before it left
abbrev pub layer_rows : List Placed → State → List Row
layer_rows [] s = []
layer_rows (x ∷ xs) s = cut_rows (gate_steps s x.q0 x.q1 x.gate) s ++ layer_rows xs (placed_run x s).state

-- ---- the tables

abbrev pub start_table : ℕ → ℕ → Float → Float → ℕ → List Float → List Row
start_table n d epsilon clamp exponent store = 1 when OutOfRange n d epsilon clamp exponent ∷ 2 when ShortStore n d store ∷ []

abbrev pub gate_table : State → List Float → ℕ → ℕ → List (List Complex) → List Row
gate_table s work q0 q1 gate =
    3 when Unsound s.chain
    ∷ 2 when ShortSlice s.chain s.store work
    ∷ 4 when NoPair s.chain q0 q1
    ∷ 5 when NoGate gate
    ∷ cut_rows (gate_steps s q0 q1 gate) s

abbrev pub layer_table : State → List Float → List ℕ → List Float → List Row
layer_table s work pairs gates =
    3 when Unsound s.chain
    ∷ 2 when (ShortSlice s.chain s.store work ⊎ Unpaired pairs gates)
    ∷ 4 when NoPairAt s.chain pairs
    ∷ 9 when NamedTwice pairs
    ∷ 5 when NoGateAt pairs gates
    ∷ layer_rows (layer_of pairs gates) s

abbrev pub project_table : State → List Float → ℕ → List Row
project_table s work q = 3 when Unsound s.chain ∷ 2 when ShortSlice s.chain s.store work ∷ 4 when NoQubit s.chain q ∷ []

abbrev pub measure_table : State → List Float → ℕ → ℕ → Float → List Row
measure_table s work q flag draw =
    3 when Unsound s.chain ∷ 2 when ShortSlice s.chain s.store work ∷ 4 when (NoQubit s.chain q ⊎ (63 < flag)) ∷ 5 when NoDraw draw ∷ []

abbrev pub reset_table : State → List Float → ℕ → Float → List Row
reset_table s work q draw = 3 when Unsound s.chain ∷ 2 when ShortSlice s.chain s.store work ∷ 4 when NoQubit s.chain q ∷ 5 when NoDraw draw ∷ []

-- `end` is the site that the walk begins at: `from` of a left environment, `to` of a right one
abbrev pub environment_table : State → List Float → List Float → ℕ → ℕ → List Row
environment_table s work out end site =
    3 when Unsound s.chain
    ∷ 2 when (ShortSlice s.chain s.store work ⊎ ShortResult s.chain out)
    ∷ 4 when (NoQubit s.chain end ⊎ (s.chain.num_qubits < site))
    ∷ []
