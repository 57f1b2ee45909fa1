-- What a cut keeps of its values, in order.
use Rattle.std.specs.Prelude.{ℕ, ◌≡◌, List, Float}
use Rattle.model.specs.Truncation as model
use Rattle.truncation.specs.Shares.{shares_of}
use Rattle.cutting.specs.declared.Kept.{Kept}

pub record KeptOf (epsilon : Float) (cap : ℕ) (s : List Float) (r : Kept) : Type 0 where
  pub rank : r.chi ≡ model.rank epsilon cap s
  pub reason : r.reason ≡ model.rank_reason epsilon cap s
  pub resolvable : r.resolvable ≡ model.resolvable s r.chi
  pub share : shares_of r.share ≡ model.share s r.chi
