use Prim.Native.Nat.{◌*◌}
use native.Mathlib.Nat.{mul-le-mul_right}
use native.Mathlib.Omega.{arith}
use Rattle.born.specs.Kept.{kept_more}
use Rattle.born.proofs.keep_rows.Goals as goal

pub loop-a-preserved : goal.loop-a-preserved
loop-a-preserved c = let m = mul-le-mul_right (4 * c.args.br) c.loop-a-test.true in grind (arith, kept_more)
