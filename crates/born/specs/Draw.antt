-- The outcome of a draw, from the weights of both outcomes.
use Rattle.std.specs.Prelude.{◌≡◌, refl, true, false, List, ℕ, Float}
use Rattle.std.specs.Float.{binary64}
use Rattle.std.specs.Float.Ieee.{add, mul, lt}
use Rattle.model.specs.Born.{weight, drawn}

pub drawn_weights : (draw : Float) (bl br : ℕ) (site : List Float)
    → lt (mul binary64 draw (add binary64 (weight bl br site false) (weight bl br site true))) (weight bl br site true) ≡ drawn draw bl br site
unfolding drawn
drawn_weights draw bl br site = refl
