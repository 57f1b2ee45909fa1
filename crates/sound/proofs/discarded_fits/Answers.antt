use native.Mathlib.Omega.{arith}
use Rattle.std.proofs.Common.{◌∙◌, ◌+◌, ◌-◌, ltb, eqb, lt-ltb, le-ltb, le_antisymm}
use Rattle.std.specs.Float.{nan, binary64}
use Rattle.std.specs.Float.Ieee.{to_bits}
use Rattle.model.specs.Sound.{discarded_fits}
use Rattle.sound.specs.First.{every_dropped}
use Rattle.sound.proofs.discarded_fits.Goals as goal

pub returns : goal.returns
unfolding discarded_fits
returns c = let n = c.args.n in
    (rw (le_antisymm c.loop-x.auto.x-index-end c.loop-x-test.false) at c.loop-x.invariant)
    ∙ every_dropped 63 c.args.bond_discarded.now c.told-bond_discarded nan (n - 1) (omega arith) (λ k. ltb (k + 1) n)
    (λ k l. lt-ltb (k + 1) n (omega arith)) (λ k l. le-ltb (k + 1) n (omega arith)) (λ x. eqb (to_bits binary64 x) 0)
