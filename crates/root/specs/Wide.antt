-- Numbers of 108 binary digits in two words: what `square`, `quotient` and `sum` of the program do with them. Assumes nothing.
use Rattle.std.specs.Prelude.{◌≡◌, ℕ, ◌+◌, ◌*◌, ◌%◌, ◌^◌, Bool}
use Rattle.root.specs.declared.wide.Wide.{Wide}

-- the number that the two words stand for
abbrev pub whole : Wide → ℕ
whole n = n.hi * 2 ^ 54 + n.lo

-- n stands for N, and says whether anything was cut off below it
pub record Holds (n : Wide) (N : ℕ) (cut : Bool) : Type 0 where
  pub value : whole n ≡ N
  pub flag : n.cut ≡ cut

-- ---- the square of m = a * 2 ^ 27 + b

-- the word that holds the low digits, a carry included
abbrev pub low_word : ℕ → ℕ → ℕ
low_word a b = b * b + a * b % 2 ^ 26 * 2 ^ 28
