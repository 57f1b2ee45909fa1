-- Laws of `specs/Promises.antt`.
use Rattle.root.proofs.Laws.Root as special
use Rattle.root.proofs.Laws.Norm as norm
use Rattle.root.proofs.Laws.Marked as table
use Rattle.root.proofs.Laws.Theorems as theorems
use Rattle.root.proofs.Laws.NormTheorems as size
use Rattle.root.specs.Promises.{Promised}

pub promised : Promised
promised = record {
  root_nearest = theorems.root_nearest;
  only_nearest = theorems.only_nearest;
  root_no_tie = theorems.root_no_tie;
  root_zero = special.root_zero;
  root_inf = special.root_inf;
  root_nan = special.root_nan;
  root_negative = special.root_negative;
  root_one_f = special.root_one_f;
  norm_nearest = size.norm_nearest;
  norm_overflow = size.norm_overflow;
  norm_root = size.norm_root;
  root_instance = special.root_instance;
  norm_far = size.norm_far;
  norm_infinite = norm.norm_infinite;
  norm_nan = norm.norm_nan;
  norm_zero = size.norm_zero;
  norm_of_real = size.norm_of_real;
  marked = table.marked;
}
