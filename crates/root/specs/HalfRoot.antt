-- Half of a whole root, rounded, as a value: where the whole root is of four times an exact square, that value is the one nearest to the square's root.
-- The program finds it so (`half_root`), and the definition `nearest_root` is one case of it (`NearestRootLaws.antt`). Assumes nothing.
use Rattle.std.specs.Prelude.{ℕ, ◌-◌, ◌*◌, ◌^◌, ◌<◌, ◌≤◌, Bool, false, ◌||◌, nat_lt, Float}
use Rattle.std.specs.Float.Ieee.{binary64, units}
use Rattle.root.specs.Whole.{whole_root}
use Rattle.root.specs.NearestHalf.{nearest_half}
use Rattle.root.specs.declared.wide.Wide.{Wide}

-- half of N's root, rounded, times 2 ^ g units; cut says that something was cut off below N
unfoldable pub half_root : ℕ → Bool → ℕ → Float
unfolding whole_root nearest_half units
half_root N cut g = let w = whole_root 54 N in units binary64 false (nearest_half w (cut || nat_lt 0 (N - w * w))) g

-- a number in two words whose root has 54 digits, unless g is 0, so that its half times 2 ^ g units is a value or past the largest
pub record Halvable (n : Wide) (g : ℕ) : Type 0 where
  pub upper : n.hi < 2 ^ 54
  pub full : 0 < g → 2 ^ 52 ≤ n.hi
  pub exponent : g ≤ 2046
