-- DEMAND 1 of cuts. (e) What the discarded weight is after every call. (f) What a gate leaves that is done, and one that is refused at a cut.
-- Statements only; `Laws/CutShares` and `Laws/Gates` prove them.
use Rattle.std.specs.Prelude.{ℕ, ◌+◌, ◌-◌, min, max, ◌≡◌, ◌⊎◌, ◌&&◌, cond, eqb, ltb, leb, length, get_or, set, Float, Err}
use mathlib.Core.List.{List, [], ◌∷◌, ◌++◌, map, foldl}
use Rattle.std.specs.Float.{binary64}
use Rattle.std.specs.Float.Ieee.{add}
use Rattle.complex.specs.Loops.{tabulate}
use Rattle.complex.specs.declared.Complex.{Complex}
use Rattle.gates.specs.Named.{matrix_of}
use Rattle.gates.specs.declared.NamedGate.{NamedGate}
use Rattle.model.specs.Chain.{Labels, labels_of, bond_discarded}
use Rattle.model.specs.Slots.{State}
use Rattle.model.specs.Svd.{Svd, values}
use Rattle.model.specs.Truncation.{share}
use Rattle.model.specs.Cut.{pair_of, rank_of}
use Rattle.model.specs.Layers.{Placed, layer_of}
use Rattle.model.specs.Routing.{Step, stepped, run_steps, placed_run}
use Rattle.model.specs.Answers.{Applied, view_applied, view_layered}
use Rattle.model.specs.Calls.{After, gate_call, named_gate_call, layer_call}
use Rattle.model.specs.Lists.{Call, gate, named, layer, project, measure, reset, left, state_of, final_state}
use Rattle.model.specs.Statements.Table.{AboveWorkspace, NanIn, gate_steps}
use Rattle.model.specs.Statements.Pinned.{last_in, late}

-- ---- the shares of the cuts that are stored

-- the decomposition that a cut of the pair k, k + 1 stores: the last, of the state that `Pinned.last` says
abbrev pub cut_svd : List (List Complex) → ℕ → State → Svd
cut_svd g k s = pair_of g k (last_in g k s)

-- what it records if it is stored: the share of its values past the kept rank; nothing where nothing is dropped, or the total is at most 0
abbrev pub cut_share : List (List Complex) → ℕ → State → List Float
cut_share g k s = let d = cut_svd g k s in share (values d) (rank_of s d)

-- a share with the bond at which it was dropped, that between the sites `bond` and `bond` + 1
pub record Dropped : Type 0 where
  pub bond : ℕ
  pub share : Float

abbrev pub dropped_at : ℕ → Float → Dropped
dropped_at k x = record { bond = k; share = x }

-- of a run, in order: a step that is refused stores no cut and ends the run
unfoldable pub shares_of : List Step → State → List Dropped
shares_of [] s = []
shares_of (x ∷ xs) s = cond (eqb (stepped x s).refused 0) (map (dropped_at x.site) (cut_share x.gate x.site s) ++ shares_of xs (stepped x s).state) []

-- of a call, by the number that it answers: a gate that is refused by another number than 6 or 7 makes no cut
abbrev pub unless_early : ℕ → List Dropped → List Dropped
unless_early number shares = cond (late number) shares []

-- of the gates of a layer in turn: one that is refused ends it
unfoldable pub layer_shares : List Placed → State → List Dropped
layer_shares [] s = []
layer_shares (x ∷ xs) s =
    let r = placed_run x s in
    shares_of (gate_steps s x.q0 x.q1 x.gate) s ++ cond (eqb r.refused 0) (layer_shares xs r.state) []

unfoldable pub call_shares : Call → State → List Dropped
call_shares (gate q0 q1 g work) s = unless_early (view_applied (gate_call s work q0 q1 g).answer).number (shares_of (gate_steps s q0 q1 g) s)
call_shares (named q0 q1 name work) s = unless_early (view_applied (named_gate_call s work q0 q1 name).answer).number (shares_of (gate_steps s q0 q1 (matrix_of name)) s)
call_shares (layer pairs gates work) s = unless_early (view_layered (layer_call s work pairs gates).answer).number (layer_shares (layer_of pairs gates) s)
call_shares (project q o work) s = []
call_shares (measure q flag draw work) s = []
call_shares (reset q draw work) s = []

-- of a list of calls
abbrev pub list_shares : List Call → State → List Dropped
list_shares [] s = []
list_shares (c ∷ cs) s = call_shares c s ++ list_shares cs (state_of c s)

-- the shares by themselves: of every bond, and of the bond between sites k and k + 1
abbrev pub of_chain : List Dropped → List Float
of_chain = map (λ (x : Dropped). x.share)

abbrev pub of_bond : ℕ → List Dropped → List Float
of_bond k [] = []
of_bond k (x ∷ xs) = cond (eqb x.bond k) (x.share ∷ of_bond k xs) (of_bond k xs)

-- the weight that the chain has discarded, and that the bond between sites k and k + 1 has
abbrev pub discarded : State → Float
discarded s = s.chain.truncation_discarded

abbrev pub discarded_at : ℕ → State → Float
discarded_at k s = bond_discarded s.chain k

-- ---- (e) The discarded weight after a call, refused or not, is the weight before with the shares of the call's stored cuts added in their order, the swaps' cuts
-- included. A call that makes no gate, or that 3, 2, 4, 9 or 5 refuse, has no shares; a gate or a layer that 6 or 7 stop has those of the cuts before.

unfoldable pub WeightOfCall : Type 0
WeightOfCall = (c : Call) (s : State) → discarded (state_of c s) ≡ foldl (add binary64) (discarded s) (of_chain (call_shares c s))

unfoldable pub WeightOfList : Type 0
WeightOfList = (cs : List Call) (s : State) → discarded (final_state cs s) ≡ foldl (add binary64) (discarded s) (of_chain (list_shares cs s))

-- ---- labels

-- the qubits at sites k and k + 1 exchanged, in both maps; and swaps in turn
abbrev pub exchanged : ℕ → Labels → Labels
exchanged k l =
    let a = get_or l.qubits k 0 in
    let b = get_or l.qubits (k + 1) 0 in
    record { sites = set (set l.sites a (k + 1)) b k; qubits = set (set l.qubits k b) (k + 1) a }

abbrev pub exchanged_all : List ℕ → Labels → Labels
exchanged_all [] l = l
exchanged_all (k ∷ ks) l = exchanged_all ks (exchanged k l)

-- the sites at which a run's swaps stand
abbrev pub swaps_of : List Step → List ℕ
swaps_of [] = []
swaps_of (x ∷ xs) = cond x.relabels (x.site ∷ swaps_of xs) (swaps_of xs)

-- The labels after a gate, in closed form, its qubits' sites being near and far, near below far.
-- Where the qubit at site k goes: from far to near + 1, from a site between them one up, from any other it stays
abbrev pub site_after : ℕ → ℕ → ℕ → ℕ
site_after near far k = cond (eqb k far) (near + 1) (cond (ltb near k && ltb k far) (k + 1) k)

-- the site from which the qubit at site k comes
abbrev pub site_before : ℕ → ℕ → ℕ → ℕ
site_before near far k = cond (eqb k (near + 1)) far (cond (ltb (near + 1) k && leb k far) (k - 1) k)

unfoldable pub labels_after : Labels → ℕ → ℕ → Labels
labels_after l q0 q1 =
    let p = get_or l.sites q0 0 in
    let q = get_or l.sites q1 0 in
    record {
      sites = map (site_after (min p q) (max p q)) l.sites;
      qubits = tabulate (length l.qubits) (λ k. get_or l.qubits (site_before (min p q) (max p q) k) 0);
    }

-- and after gates in turn
abbrev pub labels_through : List Placed → Labels → Labels
labels_through [] l = l
labels_through (x ∷ xs) l = labels_through xs (labels_after l x.q0 x.q1)

-- ---- (f) A gate that is refused at a cut leaves what the cuts before it left, and its labels and its discarded weight are those of the cuts before

-- by 6: the cut is untouched; t is the state that the cuts before it left
abbrev pub StandsBySix : After Applied → Step → State → Type 0
StandsBySix a x t = (a.answer ≡ Err 6) × AboveWorkspace x.site t × (left a ≡ t)

-- by 7: any centre move of this cut stands too, and the cut is not stored: what is left is the state in which there is a NaN
abbrev pub StandsBySeven : After Applied → Step → State → Type 0
StandsBySeven a x t = (a.answer ≡ Err 7) × NanIn x.gate x.site t (left a)

-- `before` are the cuts before it, done by the fold that an accepted gate is
pub record StopsAt (steps : List Step) (s : State) (a : After Applied) : Type 0 where
  pub before : List Step
  pub cut : Step
  pub rest : List Step
  pub route : steps ≡ before ++ (cut ∷ rest)
  pub done : (run_steps before s).refused ≡ 0
  pub stands : (let t = (run_steps before s).state in StandsBySix a cut t ⊎ StandsBySeven a cut t)
  -- the refused cut adds no weight, and a refused swap exchanges no labels
  pub weight : discarded (left a) ≡ foldl (add binary64) (discarded s) (of_chain (shares_of before s))
  pub bond_weight : (k : ℕ) → discarded_at k (left a) ≡ foldl (add binary64) (discarded_at k s) (of_bond k (shares_of before s))
  pub labels : labels_of a.chain ≡ exchanged_all (swaps_of before) (labels_of s.chain)

-- a gate on q0 and q1: done, with the labels of the closed form, or stopped
pub record GateEnds (s : State) (q0 q1 : ℕ) (g : List (List Complex)) (a : After Applied) : Type 0 where
  pub done : (view_applied a.answer).number ≡ 0 → labels_of a.chain ≡ labels_after (labels_of s.chain) q0 q1
  pub stopped : ((view_applied a.answer).number ≡ 6) ⊎ ((view_applied a.answer).number ≡ 7) → StopsAt (gate_steps s q0 q1 g) s a

pub record Stops : Type 0 where
  pub gate : (s : State) (work : List Float) (q0 q1 : ℕ) (g : List (List Complex)) → GateEnds s q0 q1 g (gate_call s work q0 q1 g)
  pub named : (s : State) (work : List Float) (q0 q1 : ℕ) (name : NamedGate) → GateEnds s q0 q1 (matrix_of name) (named_gate_call s work q0 q1 name)
