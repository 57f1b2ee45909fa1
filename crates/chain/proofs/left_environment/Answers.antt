use Rattle.std.proofs.lemmas.Result.{err_from_is_err_and}
use Rattle.chain.specs.Ends.{left_refused}
use Rattle.chain.proofs.left_environment.Goals as goal

pub returns-in_err-walk_refusal : goal.returns-in_err-walk_refusal
returns-in_err-walk_refusal c =
    let p = err_from_is_err_and c.from_residual.result c.from_residual.ensures.1 in
    rw (p.1, p.2) (left_refused _ _ _ _ _ _ _ c.in_err-walk_refusal.ensures)
