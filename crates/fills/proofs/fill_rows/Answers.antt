use mathlib.Core.Path.{◌≡◌}
use Prim.Native.Nat.{◌*◌}
use native.Mathlib.Nat.{mul-le-mul_right, le_antisymm}
use native.Mathlib.Omega.{arith}
use Rattle.complex.specs.Numbers.{numbers, length_numbers}
use Rattle.complex.specs.Matrix.{block_more}
use Rattle.columns.specs.Cleared.{rows_cleared}
use Rattle.fills.proofs.fill_rows.Goals as goal

pub loop-r-preserved : goal.loop-r-preserved
loop-r-preserved g c = let a = c.args in
    let x = c.loop-r-test.true in
    λ f h. rw (c.fill_row.ensures (f c.loop-r.r) (λ k z. h c.loop-r.r k z x), c.loop-r.invariant f h)
    (block_more (2 * a.wide) (λ r. numbers a.wide (f r)) (λ r. length_numbers a.wide _) c.loop-r.r a.slot.now (omega (arith, c.requires.0, mul-le-mul_right (2 * a.wide) x)))

pub returns : goal.returns
returns g c = let a = c.args in
    let e : 2 * (a.high * a.wide) ≡ a.high * (2 * a.wide) = omega arith in
    λ f h. rw (c.clear_from.ensures, e, c.loop-r.auto.slot, c.loop-r.invariant f h, le_antisymm c.loop-r.auto.r-end c.loop-r-test.false) (rows_cleared a.high (2 * a.wide) (λ r. numbers a.wide (f r)) (λ r. length_numbers a.wide _) a.slot.now)
