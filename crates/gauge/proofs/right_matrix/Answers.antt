use Prim.Native.Nat.{ℕ, ◌+◌, ◌*◌}
use native.Mathlib.Omega.{arith}
use mathlib.Core.Path.{◌∙◌}
use Rattle.std.proofs.Common.{rules}
use Rattle.complex.specs.Numbers.{at}
use Rattle.complex.specs.declared.Complex.{Complex}
use Rattle.fills.specs.Whole.{whole_rows}
use Rattle.gauge.proofs.right_matrix.Goals as goal

pub returns : goal.returns
returns c = let a = c.args in
    let f : ℕ → ℕ → Complex = λ g r. at a.site.now (r * a.bond + g) in
    c.fill_rows.ensures f (λ g r z l m p. search rules) ∙ whole_rows a.bond (2 * a.bl) f _ (omega arith)
