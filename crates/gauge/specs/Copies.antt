-- A copy of a neighbour's numbers serves as well as its slot.
use Rattle.std.specs.Prelude.{◌≡◌, List, ℕ, ◌+◌, ◌*◌, ◌≤◌, take, Float}
use Rattle.std.proofs.Common.{mul-le-mul_right, arith}
use Rattle.complex.specs.Complex.{zero_c}
use Rattle.complex.specs.Loops.{each_same}
use Rattle.complex.specs.Numbers.{numbers_same, at_take}
use Rattle.complex.specs.Matrix.{rows_same}
use Rattle.model.specs.Qr.{Kept}
use Rattle.model.specs.Moves.{absorbed_right, absorbed_left}

pub absorbed_right_copy : (bl bond br n : ℕ) (f : Kept) (next : List Float) → 2 * (bond * (2 * br)) ≤ n → absorbed_right bl bond br f (take n next) ≡ absorbed_right bl bond br f next
unfolding absorbed_right
absorbed_right_copy bl bond br n f next h =
    rows_same f.rank _ _
    (λ g _. numbers_same (2 * br) _ _
    (λ c l. each_same bond _ _ zero_c
    (λ d m. rw (at_take n (d * (2 * br) + c) next (omega (arith, mul-le-mul_right (2 * br) m))))))

pub absorbed_left_copy : (bl bond br n : ℕ) (f : Kept) (prev : List Float) → 2 * (2 * bl * bond) ≤ n → absorbed_left bl bond br f (take n prev) ≡ absorbed_left bl bond br f prev
unfolding absorbed_left
absorbed_left_copy bl bond br n f prev h =
    rows_same (2 * bl) _ _
    (λ r l. numbers_same f.rank _ _
    (λ g _. each_same bond _ _ zero_c
    (λ d m. rw (at_take n (r * bond + d) prev (omega (arith, mul-le-mul_right bond l))))))
