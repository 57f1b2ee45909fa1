-- The inner sums are written where they are read; what is copied to the front is the new environment.
use mathlib.Core.Path.{ap, ◌∙◌}
use mathlib.Core.List.{List}
use Prim.Native.Nat.{◌+◌, ◌*◌}
use lib.Ieee.{Float}
use lib.ListN.{take}
use Rattle.std.proofs.Common.{rules}
use Rattle.walks.specs.Products.{inner_left, entry_left}
use Rattle.walks.specs.Steps.{left_few_copied, left_many_copied}
use Rattle.walks.proofs.left_across.Goals.{then-bl-br-gt4, else-bl-br-gt4}
use Rattle.walks.proofs.left_across.Goals as goal

pub returns : goal.returns
returns c = let s = c.args.site in
    let w = c.args.work.now in
    let mid = s.left * s.left in
    let to = mid + s.left * (2 * s.right) in
    let j = c.if-bl-br-gt4 in
    let f = c.fill_area-2 in
    let e = f.ensures (entry_left s.left s.right mid s.numbers.now (take (2 * to) j.work))
    (λ front g k z same l m p. search rules ∙ ap (λ (xs : List Float). entry_left s.left s.right mid s.numbers.now xs g k) same) in
    c.copy_down.ensures
    ∙ elim j.branch [
      | then-bl-br-gt4 v ↦ left_many_copied s.left s.right s.numbers.now w j.work f.new.work v.if-bl-br-gt4.true c.requires
          (v.work-is ∙ v.fill_area.ensures (inner_left s.left s.right s.numbers.now (take (2 * mid) w)) (λ front a k z same l m p. search rules ∙ ap (λ (xs : List Float). inner_left s.left s.right s.numbers.now xs a k) same)) e
      | else-bl-br-gt4 v ↦ left_few_copied s.left s.right s.numbers.now w j.work f.new.work v.if-bl-br-gt4.false c.requires v.work-is e
    ]
