-- The binary64 value nearest to a square root, ties to even (IEEE 754-2019, 4.3.1), found by comparing whole numbers. Definition only.
-- That it is `Nearest`, for every q, is `nearest_root_lem` of `NearestRootLaws.antt`.
use Rattle.std.specs.Prelude.{ℕ, suc, ◌+◌, ◌-◌, ◌*◌, ◌/◌, ◌^◌, false, Float}
use Prim.Native.Nat.{compare}
use Rattle.std.specs.Float.{binary64}
use Rattle.std.specs.Float.Ieee.{size, nearest, units}
use Rattle.root.specs.Whole.{whole_root}

-- The root of q squares of a unit. It has half as many binary digits as q, rounded up, of which 53 are kept and k dropped, so it is a multiple of 2 ^ k units: m of them,
-- or one more, by how q compares with the square of the midpoint, which is (m + 1/2) ^ 2 * 4 ^ k. From 2 ^ 1024 on it is the infinity (`units`).
unfoldable pub nearest_root : ℕ → Float
unfolding whole_root size units
nearest_root q =
    let k = suc (size q) / 2 - 53 in
    let m = whole_root 53 (q / 4 ^ k) in
    units binary64 false (nearest m (compare (4 * q) ((2 * m + 1) * (2 * m + 1) * 4 ^ k))) k
