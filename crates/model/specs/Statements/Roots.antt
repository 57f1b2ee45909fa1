-- The roots that a call takes: none is of -0 or of a number below zero, so no call turns on what the root does there.
-- They are taken in `l2_norm` (Columns.antt), `tangent` and `rotation` (Jacobi.antt) and `rescale` (Born.antt). The size of a complex number is no root of an f64 (`norm_of` of crate root). Statements only; `Laws/RootsOfSquares` proves them.
use Rattle.std.specs.Prelude.{ℕ, Bool, ◌||◌, List, T, Float}
use Rattle.std.specs.Float.Ieee.{is_nan}
use Rattle.root.specs.Units.{sign_clear}
use Rattle.model.specs.Columns.{squares}
use Rattle.model.specs.Jacobi.{one_plus_square}
use Rattle.model.specs.Born.{weight}

-- not -0, and not below zero; a NaN may be, and its root is a NaN
abbrev pub Rooted : Float → Type 0
Rooted x = T (is_nan x || sign_clear x)

-- every root that a call takes is of a sum of squares
pub record RootsOfSquares : Type 0 where
  -- of a column's squared moduli
  pub column : (w : List Float) (base n : ℕ) → Rooted (squares w base n)
  -- for the tangent of a rotation's angle, and for the cosine
  pub rotation : (x : Float) → Rooted (one_plus_square x)
  -- of an outcome's weight
  pub outcome : (bl br : ℕ) (site : List Float) (o : Bool) → Rooted (weight bl br site o)
