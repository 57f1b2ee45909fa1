-- The invariant: the area has its first k numbers, whatever they are, and what lies before it is as it was.
use mathlib.Core.Path.{◌≡◌}
use Prim.Native.Nat.{ℕ, ◌<◌, ◌+◌, ◌/◌, ◌%◌}
use lib.ListN.{take}
use lib.Ieee.{Float}
use mathlib.Core.List.{List}
use Rattle.std.proofs.Common.{Bor}
use Rattle.complex.specs.Numbers.{stores}
use Rattle.complex.specs.declared.Complex.{Complex}
use Rattle.walks.proofs.fill_area.Given as goal

abbrev pub invariant-loop-k : goal.invariant-loop-k
invariant-loop-k g l =
    (take l.e l.work ≡ take l.e l.initial.work)
    × ((f : ℕ → ℕ → Complex) → ((front : Bor (List Float)) (r c : ℕ) (z : Complex) → front.now ≡ take l.e l.initial.work → r < l.high → c < l.wide → goal.F-post g l.number front r c z → z ≡ f r c) → l.work ≡ stores l.k (λ i. l.to + i) (λ k. f (k / l.wide) (k % l.wide)) l.initial.work)
