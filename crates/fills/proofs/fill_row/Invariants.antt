-- The invariant: the first c numbers are stored, whatever they are.
use mathlib.Core.Path.{◌≡◌}
use Prim.Native.Nat.{ℕ, ◌<◌}
use Rattle.complex.specs.Numbers.{stores}
use Rattle.complex.specs.declared.Complex.{Complex}
use Rattle.fills.proofs.fill_row.Given as goal

abbrev pub invariant-loop-c : goal.invariant-loop-c
invariant-loop-c g l =
    (f : ℕ → Complex) → ((c : ℕ) (z : Complex) → c < l.wide → goal.F-post g l.number l.r c z → z ≡ f c) → l.out ≡ stores l.c (λ k. k) f l.initial.out
