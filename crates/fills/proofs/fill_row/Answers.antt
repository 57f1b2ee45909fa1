use native.Mathlib.Nat.{le_antisymm}
use Rattle.complex.specs.Numbers.{stores_numbers}
use Rattle.fills.proofs.fill_row.Goals as goal

pub returns : goal.returns
returns g c = λ f h. rw (c.loop-c.invariant f h, le_antisymm c.loop-c.auto.c-end c.loop-c-test.false) (stores_numbers c.args.wide f c.args.out.now c.requires.0)
