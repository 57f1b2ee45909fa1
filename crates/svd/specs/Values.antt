-- The values of a matrix's columns, as they stand in the slice, and which goes before another.
use Rattle.std.specs.Prelude.{ℕ, ◌+◌, Bool, cond, Float}
use Rattle.std.specs.Float.Ieee.{le, lt}
use Rattle.complex.specs.Numbers.{at}
use Rattle.svd.specs.declared.Values.{Values}

-- the value of column k
abbrev pub value_of : Values → ℕ → Float
value_of s k = (at s.numbers.now (s.base + k)).re

-- a column with the value x goes before one with the value own: x is greater, or equal if ties do
abbrev pub goes_before : Bool → Float → Float → Bool
goes_before ties own x = cond ties (le own x) (lt own x)
