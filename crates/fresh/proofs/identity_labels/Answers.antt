use borrow.Author.Rules.{rules}
use Rattle.std.specs.Prelude.{cond, ltb}
use Rattle.fresh.specs.Given.{given}
use Rattle.fresh.proofs.identity_labels.Goals as goal

pub returns : goal.returns
returns c = given _ (λ i. cond (ltb i c.args.n) i 0) _ (λ i y q k. search rules) _ 64 c.from_fn.ensures.items
