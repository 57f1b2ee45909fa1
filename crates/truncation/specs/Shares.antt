-- The share that a cut drops, as the model's list of one or none.
use Rattle.std.specs.Prelude.{List, [], ◌∷◌, Float, Option, None, Some}

abbrev pub shares_of : Option Float → List Float
shares_of None = []
shares_of (Some x) = x ∷ []
