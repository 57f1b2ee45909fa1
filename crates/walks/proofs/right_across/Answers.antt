-- The inner sums are written where they are read; what is copied to the front is the new environment.
use mathlib.Core.Path.{ap, ◌∙◌}
use mathlib.Core.List.{List}
use Prim.Native.Nat.{◌+◌, ◌*◌}
use lib.Ieee.{Float}
use lib.ListN.{take}
use Rattle.std.proofs.Common.{rules}
use Rattle.walks.specs.Products.{inner_right, entry_right}
use Rattle.walks.specs.Steps.{right_few_copied, right_many_copied}
use Rattle.walks.proofs.right_across.Goals.{then-bl-br-gt4, else-bl-br-gt4}
use Rattle.walks.proofs.right_across.Goals as goal

pub returns : goal.returns
returns c = let s = c.args.site in
    let w = c.args.work.now in
    let mid = s.right * s.right in
    let to = mid + 2 * s.left * s.right in
    let j = c.if-bl-br-gt4 in
    let f = c.fill_area-2 in
    let e = f.ensures (entry_right s.left s.right mid s.numbers.now (take (2 * to) j.work))
    (λ front g k z same l m p. search rules ∙ ap (λ (xs : List Float). entry_right s.left s.right mid s.numbers.now xs g k) same) in
    c.copy_down.ensures
    ∙ elim j.branch [
      | then-bl-br-gt4 v ↦ right_many_copied s.left s.right s.numbers.now w j.work f.new.work v.if-bl-br-gt4.true c.requires
          (v.work-is ∙ v.fill_area.ensures (inner_right s.right s.numbers.now (take (2 * mid) w)) (λ front a k z same l m p. search rules ∙ ap (λ (xs : List Float). inner_right s.right s.numbers.now xs a k) same)) e
      | else-bl-br-gt4 v ↦ right_few_copied s.left s.right s.numbers.now w j.work f.new.work v.if-bl-br-gt4.false c.requires v.work-is e
    ]
