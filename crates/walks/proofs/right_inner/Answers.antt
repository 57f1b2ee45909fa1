use native.Mathlib.Nat.{mul-le-mul_right}
use native.Mathlib.Omega.{arith}
use Rattle.walks.proofs.right_inner.Goals as goal

pub complex_at-x-requires : goal.complex_at-x-requires
complex_at-x-requires c = omega (arith, mul-le-mul_right c.args.site.right c.requires.0)
