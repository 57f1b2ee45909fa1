-- The square root of binary64 (IEEE 754-2019, 5.4.1, squareRoot): the definition that the contracts cite, and its special values.
-- That it is the value of the format nearest to the exact root, and never a tie, is `root_nearest` and `root_no_tie` of `Theorems.antt`. Assumes nothing.
use Rattle.std.specs.Prelude.{zero, suc, ◌*◌, ◌^◌, true, false, Float}
use Rattle.std.specs.Float.{nan, inf, fin}
use Rattle.root.specs.Units.{in_units}
use Rattle.root.specs.NearestRoot.{nearest_root}

-- A zero is its own root, with its sign, and so is the infinity. Nothing else below zero has a root. A unit is 2 ^ 1074 squares of a unit.
unfoldable pub root_of : Float → Float
unfolding nearest_root in_units
root_of nan = nan
root_of (inf true) = nan
root_of (inf false) = inf false
root_of (fin s zero e) = fin s zero e
root_of (fin true (suc m) e) = nan
root_of (fin false (suc m) e) = nearest_root (in_units (fin false (suc m) e) * 2 ^ 1074)
