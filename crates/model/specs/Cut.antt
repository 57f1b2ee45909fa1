-- A gate on two neighbouring sites and the cut between them (cut_adjacent_pair, apply_adjacent_two_qubit), with the reason of its rank.
use Rattle.std.specs.Prelude.{ℕ, ◌+◌, ◌^◌, max, Bool, true, false, not, ◌&&◌, ◌||◌, cond, List, leb, ltb, set, Float, Option, None, Some}
use Rattle.std.specs.Float.Ieee.{lt}
use Rattle.complex.specs.Complex.{zero_f}
use Rattle.complex.specs.declared.Complex.{Complex}
use Rattle.model.specs.declared.Chain.{Chain}
use Rattle.model.specs.declared.Reason.{Reason}
use Rattle.model.specs.Chain.{bond_discarded, with_center, with_truncation}
use Rattle.model.specs.Slots.{State, held, lefts, rights, site_at}
use Rattle.model.specs.Svd.{Svd, values, raw_value, any_nan}
use Rattle.model.specs.Truncation.{rank, rank_reason, resolvable, share, recorded, cut_rank, workspace}
use Rattle.model.specs.Pair.{pair_svd, left_site, right_site}
use Rattle.model.specs.Moves.{pair_stored, established, Prepared, prepared, prepared_on}
use Rattle.model.specs.declared.WeightSide.{WeightSide}
use Rattle.model.specs.declared.WeightSide.TheVariants.{Left, Right}

abbrev pub known : Option ℕ → Bool
known None = false
known (Some k) = true

-- a cut of so many values can reach the cap, or drop values under a threshold where bonds have reached 128 (cut_can_lose)
abbrev pub can_lose : Chain → ℕ → Bool
can_lose c values = ltb c.max_bond_dim values || (lt zero_f c.svd_epsilon && (leb 128 values || leb 128 c.bond_high_water))

-- whether a cut of the pair k, k + 1 keeps a centre: one is recorded, or the cut can lose weight
abbrev pub keeps_centre : ℕ → State → Bool
keeps_centre k s = known s.chain.center || can_lose s.chain (cut_rank (lefts s k) (rights s k) (rights s (k + 1)))

-- the pair as it is decomposed: with the centre on it if one is kept, else as it stands
abbrev pub prepared_for : ℕ → State → Prepared
prepared_for k s = cond (keeps_centre k s) (prepared_on k s.chain.center s) (prepared Right s)

-- the decomposition of the pair with the gate on it
abbrev pub pair_of : List (List Complex) → ℕ → State → Svd
pair_of gate k s = pair_svd s.chain.norm_clamp_min (lefts s k) (rights s k) (rights s (k + 1)) gate (site_at s k) (site_at s (k + 1))

-- how many of its values are kept, and why so many
abbrev pub rank_of : State → Svd → ℕ
rank_of s d = rank s.chain.svd_epsilon s.chain.max_bond_dim (values d)

abbrev pub reason_of : State → Svd → Reason
reason_of s d = rank_reason s.chain.svd_epsilon s.chain.max_bond_dim (values d)

-- of the pair as it stands
abbrev pub reason_in : List (List Complex) → ℕ → State → Reason
reason_in gate k s = reason_of s (pair_of gate k s)

-- what one attempt leaves: the number that refused it, 0 for none; whether it is to be made again with a centre; the state
pub record Tried : Type 0 where
  pub refused : ℕ
  pub again : Bool
  pub state : State

abbrev pub tried : ℕ → Bool → State → Tried
tried refused again s = record { refused = refused; again = again; state = s }

abbrev pub weight_site : WeightSide → ℕ → ℕ
weight_site Left k = k
weight_site Right k = k + 1

-- the totals after a cut of the bond between k and k + 1 that kept chi values: its share, if it has one, is added to the chain's figure and to the bond's own
abbrev pub cut_recorded : ℕ → ℕ → List Float → Chain → Chain
cut_recorded k chi shares c =
    with_truncation c (max c.bond_high_water chi) (recorded c.truncation_discarded shares) (set c.bond_discarded k (recorded (bond_discarded c k) shares))

-- the cut stored: both sites, their bond, the widest bond, the discarded weight, and the centre if one is kept
abbrev pub cut_stored : ℕ → Bool → WeightSide → State → Svd → ℕ → State
cut_stored k maintained side s d chi =
    let t = pair_stored k (left_site side (lefts s k) chi d) chi (right_site side chi (rights s (k + 1)) d) s in
    held (with_center (cut_recorded k chi (share (values d) chi) t.chain) (cond maintained (Some (weight_site side k)) s.chain.center)) t.store

-- 7 at a NaN among the values; again where weight would be lost without a centre; else stored
abbrev pub concluded : ℕ → Bool → WeightSide → State → Svd → Tried
concluded k maintained side s d =
    let chi = rank_of s d in
    cond (any_nan d.wide (raw_value d)) (tried 7 false s)
    (cond (not maintained && resolvable (values d) chi) (tried 0 true s) (tried 0 false (cut_stored k maintained side s d chi)))

unfoldable pub cut_with : List (List Complex) → ℕ → Bool → Prepared → Tried
cut_with gate k maintained p = concluded k maintained p.side p.state (pair_of gate k p.state)

-- 6 above the workspace, by the bonds before any move; else the cut
unfoldable pub attempt : List (List Complex) → ℕ → State → Tried
attempt gate k s =
    cond (ltb (2 ^ s.chain.workspace_exponent) (workspace (lefts s k) (rights s k) (rights s (k + 1)))) (tried 6 false s)
    (cut_with gate k (keeps_centre k s) (prepared_for k s))

-- what a run of cuts leaves: the number that refused one, 0 for none, and the state
pub record Ran : Type 0 where
  pub refused : ℕ
  pub state : State

abbrev pub ran : ℕ → State → Ran
ran refused s = record { refused = refused; state = s }

-- an attempt that would lose weight is made again after a centre is established
unfoldable pub adjacent : List (List Complex) → ℕ → State → Ran
adjacent gate k s =
    let first = attempt gate k s in
    let second = attempt gate k (established k first.state) in
    cond first.again (ran second.refused second.state) (ran first.refused first.state)

-- ---- why the cut keeps as many values as it does (document 02, W3)

-- by the values of an attempt
abbrev pub attempt_reason : List (List Complex) → ℕ → State → Reason
attempt_reason gate k s = reason_in gate k (prepared_for k s).state

-- by those of the attempt that is made last
unfoldable pub adjacent_reason : List (List Complex) → ℕ → State → Reason
adjacent_reason gate k s =
    let first = attempt gate k s in
    cond first.again (attempt_reason gate k (established k first.state)) (attempt_reason gate k s)
