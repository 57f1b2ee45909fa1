use Prim.Native.Nat.{◌+◌, ◌*◌}
use Rattle.std.proofs.Common.{rules}
use Rattle.complex.specs.Complex.{mul_c, zero_c}
use Rattle.complex.specs.Loops.{sum_c}
use Rattle.complex.specs.Numbers.{at}
use Rattle.model.specs.Moves.{absorbed_right}
use Rattle.gauge.proofs.absorb_right.Goals as goal

pub returns : goal.returns
unfolding absorbed_right
returns c = let a = c.args in
    c.fill_rows.ensures (λ g k. sum_c a.bonds.mid (λ d. mul_c (at a.w.now (a.bonds.mid * (2 * a.bonds.left) + (g * a.bonds.mid + d))) (at a.next.now (d * (2 * a.bonds.right) + k))) zero_c) (λ g r z l m p. search rules)
