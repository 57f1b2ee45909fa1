use Rattle.std.proofs.Common.{◌∙◌, ltb, eqb, lt-ltb, le-ltb, le_antisymm}
use Rattle.sound.specs.First.{every_dropped}
use Rattle.sound.proofs.zeros_from.Goals as goal

pub returns : goal.returns
returns c = let n = c.args.n in
    (rw (le_antisymm c.loop-x.auto.x-index-end c.loop-x-test.false) at c.loop-x.invariant)
    ∙ every_dropped 64 c.args.xs.now c.told-xs 0 n c.requires (λ i. ltb i n) (λ i l. lt-ltb i n l) (λ i l. le-ltb i n l) (λ x. eqb x 0)
