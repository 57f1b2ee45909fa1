-- Rows that fill a slot leave nothing of it to clear.
use Rattle.std.specs.Prelude.{◌≡◌, ◌++◌, ℕ, ◌*◌, ◌-◌, length, replicate}
use Rattle.std.proofs.Common.{ap, ◌∙◌, arith}
use mathlib.Core.List.{append-nil}
use Rattle.complex.specs.Complex.{zero_f}
use Rattle.complex.specs.Numbers.{numbers, length_numbers}
use Rattle.complex.specs.Matrix.{rows, length_rows}
use Rattle.complex.specs.declared.Complex.{Complex}
use Rattle.model.specs.Slots.{filled}

pub whole_rows : (high wide : ℕ) (f : ℕ → ℕ → Complex) (n : ℕ) → n ≡ 2 * (high * wide) → filled n (rows high (λ r. numbers wide (f r))) ≡ rows high (λ r. numbers wide (f r))
unfolding filled
whole_rows high wide f n e =
    let xs = rows high (λ r. numbers wide (f r)) in
    let z : n - length xs ≡ 0 = omega (arith, length_rows wide (λ r. numbers wide (f r)) (λ r. length_numbers wide (f r)) high) in
    ap (λ (k : ℕ). xs ++ replicate k zero_f) z ∙ append-nil xs
