use Rattle.std.proofs.Common.{◌∙◌, sym, ◌&&◌, ltb, eqb, get_or, le_antisymm}
use Rattle.model.specs.Sound.{undoes}
use Rattle.sound.specs.First.{every_taken, every_parted}
use Rattle.sound.proofs.is_undone.Goals as goal

pub returns : goal.returns
unfolding undoes
returns c = let a = c.args in
    let e = (rw (le_antisymm c.loop-i.auto.i-end c.loop-i-test.false) at c.loop-i.invariant)
    ∙ every_taken 64 a.there.now c.told-there 0 a.n c.requires (λ k s. ltb s a.n && eqb (get_or a.back.now s 0) k) in
    rw (e, c.zeros_from.ensures) (sym (every_parted _ 64 _ _ c.requires))
