use Prim.Native.Nat.{◌+◌, ◌*◌}
use native.Mathlib.Nat.{mul-le-mul_right}
use native.Mathlib.Omega.{arith}
use Rattle.std.proofs.iter.Serving.{serving}
use Rattle.std.proofs.Common.{rules}
use Rattle.complex.specs.Complex.{mul_c, conj_c, zero_c}
use Rattle.complex.specs.Loops.{sum_c}
use Rattle.complex.specs.Numbers.{at}
use Rattle.model.specs.Moves.{absorbed_left}
use Rattle.gauge.proofs.absorb_left.Goals as goal

pub returns : goal.returns
unfolding absorbed_left
returns c = let a = c.args in
    c.fill_rows.ensures (λ r g. sum_c a.bonds.mid (λ d. mul_c (at a.prev.now (r * a.bonds.mid + d)) (conj_c (at a.w.now (a.bonds.mid * (2 * a.bonds.right) + (g * a.bonds.mid + d))))) zero_c) (λ g r z l m p. search rules)

pub fill_rows-requires : goal.fill_rows-requires
fill_rows-requires c = (omega arith, λ r g h l. let m = mul-le-mul_right c.args.bonds.mid h in let n = mul-le-mul_right c.args.bonds.mid l in grind (arith, serving))
