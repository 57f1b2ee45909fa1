-- A layer's run by what is left of it.
use Rattle.std.specs.Prelude.{ℕ, suc, ◌+◌, ◌-◌, ◌≤◌, ◌<◌, ◌≡◌, List, Float}
use Rattle.std.proofs.Math.Nat.{sub-zero}
use Rattle.std.proofs.Common.{◌∙◌, arith, eq-eqb, ne_eqb}
use Rattle.model.specs.declared.Layered.TheVariants as layered
use Rattle.model.specs.declared.Reason.{Reason}
use Rattle.model.specs.Slots.{State}
use Rattle.model.specs.Cut.{Ran}
use Rattle.model.specs.Layers.{pair_count, first, second, gate_at, placed_at, placed_from, layer_of}
use Rattle.model.specs.Routing.{gate_reason, LayerRan, layer_ran, placed_run, onward, layer_run}

module _ (pairs : List ℕ) (gates : List Float) where
  -- pair p, and why its gate's cut keeps as many values as it does
  abbrev pub pair_run : ℕ → State → Ran
  pair_run p s = placed_run (placed_at pairs gates p) s

  abbrev pub pair_reason : ℕ → State → Reason
  pair_reason p s = gate_reason (gate_at gates p) (first pairs p) (second pairs p) s

  -- the pairs from p on; from the first on, they are all
  unfoldable pub rest : ℕ → State → LayerRan
  rest p s = layer_run p (placed_from pairs gates (pair_count pairs - p) p) s

  pub rest_all : (s : State) → rest 0 s ≡ layer_run 0 (layer_of pairs gates) s
  unfolding rest
  rest_all s = rw sub-zero

  module _ (p : ℕ) (s : State) where
    pub rest_done : pair_count pairs ≤ p → rest p s ≡ layer_ran layered.Done s
    unfolding rest layer_run placed_from
    rest_done l = let e : pair_count pairs - p ≡ 0 = omega arith in rw e

    rest_turn : p < pair_count pairs → rest p s ≡ onward p (pair_run p s) (rest (p + 1))
    unfolding rest layer_run placed_from
    rest_turn l = let e : pair_count pairs - p ≡ suc (pair_count pairs - (p + 1)) = omega arith in rw e

    -- a turn of the loop: pair p left x, and the rest follows or the layer stops
    pub rest_on : (x : Ran) → p < pair_count pairs → x ≡ pair_run p s → x.refused ≡ 0 → rest p s ≡ rest (p + 1) x.state
    rest_on x l e z = rest_turn l ∙ rw (← e, eq-eqb _ _ z)

    pub rest_out : (x : Ran) → p < pair_count pairs → x ≡ pair_run p s → (x.refused ≡ 0 → ⊥) → rest p s ≡ layer_ran (layered.Stopped x.refused p) x.state
    rest_out x l e z = rest_turn l ∙ rw (← e, ne_eqb _ _ z)
