-- Half of a whole root, rounded to nearest, ties to even. That it is the number of 53 binary digits nearest to half of the exact root stands in proofs/Laws. Nothing here is about floats.
use Rattle.std.specs.Prelude.{◌≡◌, ℕ, suc, ◌+◌, ◌/◌, ◌%◌, Bool, false, cond, ◌==◌}
use Prim.Native.Nat.{Ordering}
use Rattle.std.specs.Float.Ieee.{nearest}

-- Half of w, by the rule of IEEE 754-2019, 4.3.1 (`nearest`): w / 2 is below the midpoint of two numbers where w is even; where w is odd it is at it, or above it if there is more than w.
unfoldable pub nearest_half : ℕ → Bool → ℕ
nearest_half w more = nearest (w / 2) (cond (w % 2 == 0) Ordering.lt (cond more Ordering.gt Ordering.eq))

-- twice the half h is w, or one more, or one less; the last at a tie alone
pub data Halved (w h : ℕ) (more : Bool) : Type 0 where
  even : w ≡ h + h → Halved w h more
  up : suc w ≡ h + h → (more ≡ false → h % 2 ≡ 0) → Halved w h more
  down : w ≡ suc (h + h) → more ≡ false → h % 2 ≡ 0 → Halved w h more
