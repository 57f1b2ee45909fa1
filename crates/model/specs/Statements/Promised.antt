-- EVERY PROMISE that a theorem over the definitions carries, one field each; `Laws/Promises` has the one inhabitant. docs/PROMISES.md goes through the buyer's sentences and
-- names these fields.
use Rattle.std.specs.Prelude.{ℕ, ◌+◌, ◌<◌, ◌≡◌, ◌≢◌, true, List, T, Float, Ok}
use Rattle.complex.specs.declared.Complex.{Complex}
use Rattle.model.specs.Slots.{State}
use Rattle.model.specs.Moves.{established}
use Rattle.model.specs.Cut.{attempt, adjacent}
use Rattle.model.specs.Sound.{sound}
use Rattle.model.specs.Calls.{start_call}
use Rattle.model.specs.Lists.{Call, state_of}
use Rattle.model.specs.Statements.Demand1.{Numbered, Remains, Clamped}
use Rattle.model.specs.Statements.Demand1Sound.{Orderly}
use Rattle.model.specs.Statements.Demand1Cuts.{WeightOfCall, WeightOfList, Stops}
use Rattle.model.specs.Statements.BondWeights.{BondWeights}
use Rattle.model.specs.Statements.Pinned.{Pinned}
use Rattle.model.specs.Statements.Factorings.{RotationLaw, PairLaw, SweepLaw, QuietLaw, OrderLaw, ValueLaw, SvdLaw, TransposeLaw, GramSchmidtLaw, PassLaw, QrLaw}
use Rattle.model.specs.Statements.CutsAndMoves.{ElementLaw, FillLaw, BondLaw, MoveLaw, EstablishLaw}
use Rattle.model.specs.Statements.Roots.{RootsOfSquares}
use Rattle.model.specs.Statements.Demand3.{Demand3}
use Rattle.model.specs.Statements.Product.{ProductClause, RunClause}
use Rattle.model.specs.Statements.ZeroSigns.{ZeroSigns}
use Rattle.model.specs.Statements.Uncapped.{NeverSix, AsAt63}
use Rattle.model.specs.Statements.Reasons.{RankReasons, RankByReason, GateReasons}
use Rattle.model.specs.Statements.Layers.{LayerAsGates, AtMost32}
use Rattle.model.specs.Statements.Marked.{all_hold, table}

pub record Promised : Type 0 where
  -- demand 1: numbers and after-states
  pub numbered : Numbered
  pub remains : Remains
  pub stops : Stops
  pub clamped : Clamped
  pub pinned : Pinned
  -- a sound record stays sound: of every call, and of an accepted start
  pub call_orderly : (c : Call) (s : State) → T (sound s.chain) → Orderly s.chain.num_qubits s.chain.max_bond_dim (state_of c s).chain
  pub call_sound : (c : Call) (s : State) → T (sound s.chain) → T (sound (state_of c s).chain)
  pub start_sound : (n d : ℕ) (epsilon clamp : Float) (exponent : ℕ) (store : List Float)
      → (start_call n d epsilon clamp exponent store).answer ≡ Ok tt → T (sound (start_call n d epsilon clamp exponent store).chain)
  -- a cut made again is not refused by 6 then; so a cut that 6 refuses is untouched
  pub second_cut_not_6 : (gate : List (List Complex)) (k : ℕ) (s : State) → T (sound s.chain) → k + 1 < s.chain.num_qubits
      → (attempt gate k s).again ≡ true → (attempt gate k (established k (attempt gate k s).state)).refused ≢ 6
  pub cut_6_untouched : (gate : List (List Complex)) (k : ℕ) (s : State) → T (sound s.chain) → k + 1 < s.chain.num_qubits
      → (adjacent gate k s).refused ≡ 6 → (adjacent gate k s).state ≡ s
  -- demand 2: the discarded weight, and what the books state
  pub weight_of_call : WeightOfCall
  pub weight_of_list : WeightOfList
  pub rotation_law : RotationLaw
  pub pair_law : PairLaw
  pub sweep_law : SweepLaw
  pub quiet_law : QuietLaw
  pub order_law : OrderLaw
  pub value_law : ValueLaw
  pub svd_law : SvdLaw
  pub transpose_law : TransposeLaw
  pub gram_schmidt_law : GramSchmidtLaw
  pub pass_law : PassLaw
  pub qr_law : QrLaw
  pub element_law : ElementLaw
  pub fill_law : FillLaw
  pub bond_law : BondLaw
  pub move_law : MoveLaw
  pub establish_law : EstablishLaw
  pub roots_of_squares : RootsOfSquares
  -- demand 3
  pub demand3 : Demand3
  pub product_clause : ProductClause
  pub run_clause : RunClause
  pub zero_signs : ZeroSigns
  -- W9: a workspace exponent of 64 or more
  pub never_six : NeverSix
  pub as_at_63 : AsAt63
  -- W3: why a rank was chosen
  pub rank_reasons : RankReasons
  pub rank_by_reason : RankByReason
  pub gate_reasons : GateReasons
  -- W6: the discarded weight of each bond
  pub bond_weights : BondWeights
  -- W1: a layer of pairs in one call
  pub layer_as_gates : LayerAsGates
  pub at_most_32 : AtMost32
  -- the marked examples of documents 01 and 02
  pub marked : all_hold table ≡ true
