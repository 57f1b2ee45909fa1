-- What the laws of `Nearest` are stated with: the value of a pattern up to a candidate's.
use Rattle.std.specs.Prelude.{◌≡◌, ℕ, Float}
use Rattle.std.specs.Float.{binary64}
use Rattle.std.specs.Float.Ieee.{to_bits}
use Rattle.root.specs.Nearest.{Candidate}

-- ---- Two values, r below s, are not both nearest: the root would be their midpoint and both patterns even, so that a candidate lies between, to which the root is nearer.

pub record At (b : ℕ) : Type 0 where
  pub t : Float
  pub value : Candidate t
  pub bits : to_bits binary64 t ≡ b
