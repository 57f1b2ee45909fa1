-- The size of a complex number (document 02, W5): the value nearest to the exact root of the sum of its parts' squares.
-- That it is nearest is `norm_nearest` of `proofs/Laws/NormTheorems.antt`; its special values stand in `proofs/Laws/Norm.antt`.
use Rattle.std.specs.Prelude.{ℕ, ◌+◌, ◌*◌, Bool, true, false, cond, ◌||◌, Float}
use Rattle.std.specs.Float.Ieee.{nan, is_nan}
use Rattle.std.specs.Float.{inf, fin}
use Rattle.complex.specs.declared.Complex.{Complex}
use Rattle.root.specs.Units.{in_units}
use Rattle.root.specs.NearestRoot.{nearest_root}

-- an infinity, of either sign
abbrev pub infinite : Float → Bool
infinite nan = false
infinite (inf s) = true
infinite (fin s m e) = false

-- the squares of two finite values, added, in squares of a unit: exact
abbrev pub sum_of_squares : Float → Float → ℕ
sum_of_squares x y = in_units x * in_units x + in_units y * in_units y

-- an infinite part gives the infinity, also beside a NaN; else a NaN part gives NaN
unfoldable pub norm_of : Complex → Float
norm_of a = cond (infinite a.re || infinite a.im) (inf false) (cond (is_nan a.re || is_nan a.im) nan (nearest_root (sum_of_squares a.re a.im)))
