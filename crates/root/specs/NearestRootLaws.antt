-- What an order of two numbers says of them, as the law of `nearest_root` uses it.
use Rattle.std.specs.Prelude.{◌≡◌, ℕ, ◌<◌}
use Prim.Native.Nat.{Ordering}

abbrev pub Compared : Ordering → ℕ → ℕ → Type 0
Compared Ordering.lt a b = a < b
Compared Ordering.eq a b = a ≡ b
Compared Ordering.gt a b = b < a
