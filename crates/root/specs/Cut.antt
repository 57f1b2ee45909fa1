-- A number cut to its whole quotient by d, and whether anything is left over. Nothing here is about floats. Assumes nothing.
use Rattle.std.specs.Prelude.{◌≡◌, ℕ, ◌/◌, ◌%◌, Bool, nat_lt}

pub record Cut (n d N : ℕ) (cut : Bool) : Type 0 where
  pub value : N ≡ n / d
  pub left : cut ≡ nat_lt 0 (n % d)
