use Rattle.std.proofs.Common.{◌∙◌, sym, le_antisymm}
use Rattle.model.specs.Sound.{within}
use Rattle.sound.specs.First.{every_taken, every_parted}
use Rattle.sound.proofs.bonds_within.Goals as goal

pub returns : goal.returns
returns c = let a = c.args in
    let e = (rw (le_antisymm c.loop-x.auto.x-index-end c.loop-x-test.false) at c.loop-x.invariant) ∙ every_taken 64 a.bonds.now c.told-bonds 0 a.n c.requires (λ k. within 1 a.high) in
    rw (e, c.zeros_from.ensures) (sym (every_parted _ 64 _ _ c.requires))
