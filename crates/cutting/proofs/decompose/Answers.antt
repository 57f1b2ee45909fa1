-- What svd_jacobi is lent begins with the matrix, and what it leaves is the model's list.
use Rattle.cutting.proofs.Lent.{nan_told, made_told}
use Rattle.cutting.proofs.decompose.Goals as goal

pub returns-in-Ok-clause-nan : goal.returns-in-Ok-clause-nan
returns-in-Ok-clause-nan c =
    nan_told _ _ _ _ _ _ _ _ c.shape_of-s.ensures _ _ _ c.requires.work_bound c.contract_pair.auto.out c.contract_pair.ensures c.svd_jacobi.ensures.w_after _ c.in-Ok.ensures.nan_value

pub returns-in-Ok-clause-made : goal.returns-in-Ok-clause-made
returns-in-Ok-clause-made c = let l = c.requires.le_left in let few = c.args.pair.now.few in
    made_told _ _ _ _ _ _ _ _ c.shape_of-s.ensures _ _ _ c.requires.work_bound c.contract_pair.auto.out c.contract_pair.ensures c.svd_jacobi.ensures.w_after _ c.in-Ok.ensures.order_value l.0 few.0 l.1 few.2 _ c.svd_jacobi.auto.w

pub returns-in-Err-clause-nan : goal.returns-in-Err-clause-nan
returns-in-Err-clause-nan c =
    nan_told _ _ _ _ _ _ _ _ c.shape_of-s.ensures _ _ _ c.requires.work_bound c.contract_pair.auto.out c.contract_pair.ensures c.svd_jacobi.ensures.w_after _ c.in-Err.ensures.nan_value

pub returns-in-Err-clause-made : goal.returns-in-Err-clause-made
returns-in-Err-clause-made c = let l = c.requires.le_left in let few = c.args.pair.now.few in
    made_told _ _ _ _ _ _ _ _ c.shape_of-s.ensures _ _ _ c.requires.work_bound c.contract_pair.auto.out c.contract_pair.ensures c.svd_jacobi.ensures.w_after _ c.in-Err.ensures.order_value l.0 few.0 l.1 few.2 _ c.svd_jacobi.auto.w
