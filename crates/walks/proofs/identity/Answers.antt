use mathlib.Core.Path.{◌∙◌}
use mathlib.Core.Bool.{cond}
use native.Mathlib.Omega.{arith}
use Rattle.std.proofs.Common.{rules}
use lib.Dec.{eqb}
use Prim.Native.Nat.{ℕ}
use Rattle.complex.specs.declared.Complex.{Complex}
use Rattle.complex.specs.Complex.{zero_c, real, one_f}
use Rattle.fills.specs.Whole.{whole_rows}
use Rattle.walks.proofs.identity.Goals as goal

pub returns : goal.returns
returns c = let one : ℕ → ℕ → Complex = λ r q. cond (eqb r q) (real one_f) zero_c in
    c.fill_rows.ensures one (λ r k z l m p. search rules) ∙ whole_rows c.args.dim c.args.dim one _ (omega arith)
