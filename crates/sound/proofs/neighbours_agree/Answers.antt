use borrow.Author.Rules.{rules}
use native.Mathlib.Omega.{arith}
use Rattle.std.proofs.Common.{◌≡◌, ◌∙◌, sym, ap, ◌+◌, ◌-◌, leb, le-leb, length, length-append, get_or, take, drop}
use Rattle.std.proofs.lemmas.List.{length-drop, length-take, get_or-drop, get_or-take}
use Rattle.std.proofs.lemmas.Bool.{lt-leb}
use Rattle.std.proofs.lemmas.Slice.Zip.{zip_turn, zip_end}
use Rattle.std.specs.Slice.Iter.{iter_rest}
use Rattle.complex.specs.Loops.{every_more}
use Rattle.sound.specs.First.{every_first}
use Rattle.sound.proofs.neighbours_agree.Goals as goal
use Rattle.sound.proofs.neighbours_agree.Goals.{After-into_iter-a-iterator}

-- what the two sides of the zip are
sides : (c : After-into_iter-a-iterator) → (iter_rest c.into_iter-a-iterator.result.a ≡ take (c.args.n - 1) c.args.right.now) × (iter_rest c.into_iter-a-iterator.result.b ≡ take 63 (drop 1 c.args.left.now))
sides c = (search rules, search rules)

pub loop-a-preserved : goal.loop-a-preserved
loop-a-preserved c =
    let n = c.args.n in let k = length c.loop-a.yielded in
    let s = sides (goal.at.loop-a-preserved c).After-into_iter-a-iterator in
    let t = zip_turn _ _ c.loop-a.yielded c.into_iter-a-iterator.result c.loop-a.a-iterator c.next.new.self c.next.result s.0 s.1 c.loop-a.yielded_by _ c.in-Some.is c.next.ensures.steps in
    let x : c.in-Some.a.now ≡ get_or c.args.right.now k 0 =
    t.2 0 ∙ get_or-take (n - 1) c.args.right.now k 0 (omega (arith, t.0, length-take (n - 1) c.args.right.now)) in
    let y : c.in-Some.b.now ≡ get_or c.args.left.now (k + 1) 0 =
    t.3 0 ∙ get_or-take 63 (drop 1 c.args.left.now) k 0 (omega (arith, t.1, length-take 63 (drop 1 c.args.left.now)))
    ∙ get_or-drop 1 c.args.left.now k 0 ∙ ap (λ i. get_or c.args.left.now i 0) (omega arith) in
    rw (length-append, every_more, c.loop-a.invariant, x, y)

pub returns : goal.returns
returns c =
    let n = c.args.n in
    let s = sides (goal.at.returns c).After-into_iter-a-iterator in
    let z = zip_end _ _ c.loop-a.yielded c.into_iter-a-iterator.result c.loop-a.a-iterator c.next.new.self c.next.result s.0 s.1 c.loop-a.yielded_by c.in-None.is c.next.ensures.steps in
    let e : length c.loop-a.yielded ≡ n - 1 =
    omega (arith, z, c.told-right, c.told-left, length-take (n - 1) c.args.right.now, length-take 63 (drop 1 c.args.left.now), length-drop 1 c.args.left.now) in
    (rw e at c.loop-a.invariant) ∙ sym (every_first (λ k. leb n (k + 1)) _ (n - 1) (λ k l. lt-leb n (k + 1) (omega arith)) 63 (omega arith) (λ k l _. le-leb n (k + 1) (omega arith)))
