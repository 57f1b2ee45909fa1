-- The columns of a factor and the values, as they stand in a factored list w: column g of a factor f from number f .base + order g * f.stride on, its value at vals + order g.
use Rattle.std.specs.Prelude.{ℕ, ◌+◌, ◌*◌, ◌≤◌, ◌<◌, List, get_or, Float}
use Rattle.std.proofs.Common.{mul-le-mul_right, arith}
use Rattle.complex.specs.Complex.{conj_c}
use Rattle.complex.specs.Numbers.{count, at}
use Rattle.complex.specs.declared.Complex.{Complex}
use Rattle.fills.specs.declared.Factor.{Factor}

abbrev pub column_of : List Float → List ℕ → Factor → ℕ → ℕ → Complex
column_of w order f r g = at w (f.base + (get_or order g 0 * f.stride + r))

abbrev pub row_of : List Float → List ℕ → Factor → ℕ → ℕ → Complex
row_of w order f g c = conj_c (column_of w order f c g)

abbrev pub value_of : List Float → List ℕ → ℕ → ℕ → Float
value_of w order vals g = (at w (vals + get_or order g 0)).re

-- the first chi columns, and their values, are within w
abbrev pub ColumnsIn : List Float → List ℕ → Factor → ℕ → Type 0
ColumnsIn w order f chi = (g : ℕ) → g < chi → f.base + (get_or order g 0 * f.stride + f.stride) ≤ count w

abbrev pub ValuesIn : List Float → List ℕ → ℕ → ℕ → Type 0
ValuesIn w order vals chi = (g : ℕ) → g < chi → vals + get_or order g 0 < count w

-- ---- laws: where the order names columns below `wide`, and these are within w

pub columns_in : (w : List Float) (order : List ℕ) (f : Factor) (wide chi : ℕ) → ((g : ℕ) → g < chi → get_or order g 0 < wide) → f.base + wide * f.stride ≤ count w
    → ColumnsIn w order f chi
columns_in w order f wide chi below room g h = omega (arith, mul-le-mul_right f.stride (below g h))

pub values_in : (w : List Float) (order : List ℕ) (vals wide chi : ℕ) → ((g : ℕ) → g < chi → get_or order g 0 < wide) → vals + wide ≤ count w → ValuesIn w order vals chi
values_in w order vals wide chi below room g h = omega (arith, below g h)
