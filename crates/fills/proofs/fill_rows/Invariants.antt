-- The invariant: the first r rows stand in the slot, whatever they are, and the rest is as it was.
use mathlib.Core.Path.{◌≡◌}
use mathlib.Core.List.{◌++◌}
use Prim.Native.Nat.{ℕ, ◌<◌, ◌*◌}
use lib.ListN.{drop}
use Rattle.complex.specs.Numbers.{numbers}
use Rattle.complex.specs.Matrix.{rows}
use Rattle.complex.specs.declared.Complex.{Complex}
use Rattle.fills.proofs.fill_rows.Given as goal

abbrev pub invariant-loop-r : goal.invariant-loop-r
invariant-loop-r g l =
    (f : ℕ → ℕ → Complex) → ((r c : ℕ) (z : Complex) → r < l.high → c < l.wide → goal.F-post g l.number r c z → z ≡ f r c)
    → l.slot ≡ rows l.r (λ r. numbers l.wide (f r)) ++ drop (l.r * (2 * l.wide)) l.initial.slot
