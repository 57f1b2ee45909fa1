-- W1. A layer of pairs is its gates, called one by one up to the first that is refused. So all that is stated of gates holds of a layer, pair by pair.
-- Statements only; `Laws/LayerCalls` and `Laws/LayerMachine` prove them.
use Rattle.std.specs.Prelude.{ℕ, ◌+◌, ◌≤◌, ◌≡◌, ◌⊎◌, cond, List, [], ◌∷◌, ◌++◌, eqb, length, Float, Err}
use Rattle.model.specs.declared.Layered.{Layered}
use Rattle.model.specs.declared.Layered.TheVariants as layered
use Rattle.model.specs.Chain.{labels_of}
use Rattle.model.specs.Slots.{State}
use Rattle.model.specs.Layers.{pair_count, Placed, layer_of}
use Rattle.model.specs.Answers.{Applied, view_applied, view_layered}
use Rattle.model.specs.Calls.{After, after, cleared, gate_call, layer_call}
use Rattle.model.specs.Lists.{left}
use Rattle.model.specs.Statements.Table.{gate_steps}
use Rattle.model.specs.Statements.Demand1.{Late}
use Rattle.model.specs.Statements.Demand1Cuts.{labels_through, StopsAt}

-- a gate of a layer as a call of its own
abbrev pub placed_call : Placed → State → List Float → After Applied
placed_call x s work = gate_call s work x.q0 x.q1 x.gate

-- The gates called one by one, each with the record, the store and the work slice that the one before left, up to the first that is refused: that stops them, and the
-- answer has its number and its place, the first of them being pair p.
unfoldable pub one_by_one : ℕ → List Placed → State → List Float → After Layered
one_by_one p [] s work = after layered.Done s work
one_by_one p (x ∷ xs) s work =
    let a = placed_call x s work in
    let number = (view_applied a.answer).number in
    cond (eqb number 0) (one_by_one (p + 1) xs (left a) a.work) (after (layered.Stopped number p) (left a) a.work)

-- The gates before pair `pair` are accepted, and its own is refused by `number`: what is left is what that call leaves, and `cut` says what it is. The first of the
-- gates is that of pair p.
pub record StopsAtPair (p : ℕ) (xs : List Placed) (s : State) (work : List Float) (number pair : ℕ) (a : After Layered) : Type 0 where
  pub before : List Placed
  pub at : Placed
  pub rest : List Placed
  pub layer : xs ≡ before ++ (at ∷ rest)
  pub place : p + length before ≡ pair
  pub done : (one_by_one p before s work).answer ≡ layered.Done
  pub refused : (let b = one_by_one p before s work in (placed_call at (left b) b.work).answer ≡ Err number)
  pub state : (let b = one_by_one p before s work in left a ≡ left (placed_call at (left b) b.work))
  pub cut : (let b = one_by_one p before s work in StopsAt (gate_steps (left b) at.q0 at.q1 at.gate) (left b) (placed_call at (left b) b.work))

-- a layer that 3, 2, 4, 9 and 5 do not refuse has at most 32 pairs: more would need no ground of their own
unfoldable pub AtMost32 : Type 0
AtMost32 = (s : State) (work : List Float) (pairs : List ℕ) (gates : List Float) → Late (view_layered (layer_call s work pairs gates).answer).number → pair_count pairs ≤ 32

-- what a layer leaves that 3, 2, 4, 9 and 5 do not refuse
pub record LayerAsGates : Type 0 where
  -- one pair or more: answer, record, store and work slice are those of the calls one by one
  pub gates : (s : State) (work : List Float) (pairs : List ℕ) (gates : List Float) →
      (let a = layer_call s work pairs gates in
      Late (view_layered a.answer).number → (x : Placed) (xs : List Placed) → layer_of pairs gates ≡ x ∷ xs → a ≡ one_by_one 0 (x ∷ xs) s work)
  -- no pair: the record and the store are as they were, and the work slice is +0 as far as a call needs it
  pub empty : (s : State) (work : List Float) (pairs : List ℕ) (gates : List Float) →
      (let a = layer_call s work pairs gates in Late (view_layered a.answer).number → layer_of pairs gates ≡ [] → a ≡ after layered.Done s (cleared s.chain work))
  -- done, it has the labels of the gates in turn, in closed form
  pub done : (s : State) (work : List Float) (pairs : List ℕ) (gates : List Float) →
      (let a = layer_call s work pairs gates in
      (view_layered a.answer).number ≡ 0 → (a.answer ≡ layered.Done) × (labels_of a.chain ≡ labels_through (layer_of pairs gates) (labels_of s.chain)))
  -- stopped, it tells the pair, and it is stopped by 6 or 7 and by no other number
  pub stopped : (s : State) (work : List Float) (pairs : List ℕ) (gates : List Float) (number pair : ℕ) →
      (let a = layer_call s work pairs gates in
      a.answer ≡ layered.Stopped number pair → ((number ≡ 6) ⊎ (number ≡ 7)) × StopsAtPair 0 (layer_of pairs gates) s work number pair a)
  -- refused, it is refused by another number
  pub refused : (s : State) (work : List Float) (pairs : List ℕ) (gates : List Float) (number : ℕ) → (layer_call s work pairs gates).answer ≡ layered.Refused number → Late number → ⊥
