use mathlib.Core.Path.{◌∙◌}
use Prim.Native.Nat.{◌/◌, ◌%◌, ◌<◌, ◌*◌, ◌+◌}
use native.Mathlib.Nat.{le_antisymm, div-lt_iff_lt-mul, mod-lt}
use native.Mathlib.Omega.{arith}
use Rattle.complex.specs.Numbers.{take_store}
use Rattle.walks.specs.Steps.{area_more}
use Rattle.walks.proofs.fill_area.Goals as goal

pub loop-k-preserved : goal.loop-k-preserved
loop-k-preserved g c = let a = c.args in
    let l = c.loop-k in
    let z = c.number-z in
    let w = c.set_complex in
    let row : l.k / a.wide < a.high = (div-lt_iff_lt-mul c.requires.room.0).1 c.loop-k-test.true in
    let column : l.k % a.wide < a.wide = mod-lt l.k c.requires.room.0 in (
      rw w.ensures (take_store (2 * a.to) (a.to + l.k) z.result l.work (omega arith)) ∙ l.invariant.0,
      λ f h. (area_more a.to l.k (λ _ k. f (k / a.wide) (k % a.wide)) a.work.now l.work w.new.s z.result l.invariant.0 (l.invariant.1 f h) (h _ _ _ _ l.invariant.0 row column z.ensures) w.ensures).1,
    )

pub returns : goal.returns
returns g c = λ f h. rw (le_antisymm c.loop-k.auto.k-end c.loop-k-test.false) at (c.loop-k.invariant.1 f h)
