-- A product by a factor that has its negated imaginary part beside it, and a pair of numbers rotated by four of them.
use Rattle.std.specs.Prelude.{ℕ, ◌≡◌, List, Float}
use Rattle.std.specs.Float.{binary64}
use Rattle.std.specs.Float.Ieee.{add, mul}
use Rattle.complex.specs.Complex.{add_c, mul_c}
use Rattle.complex.specs.Numbers.{at, store}
use Rattle.complex.specs.declared.Complex.{Complex}
use Rattle.model.specs.Jacobi.{rotated_p, rotated_q}
use Rattle.model.specs.declared.Rotation.{Rotation}
use Rattle.jacobi.specs.declared.Factor.{Factor}
use Rattle.jacobi.specs.declared.Turn.{Turn}

abbrev pub applied : Factor → Complex → Complex
applied a z = record {
  re = add binary64 (mul binary64 a.re z.re) (mul binary64 a.minus_im z.im);
  im = add binary64 (mul binary64 a.re z.im) (mul binary64 a.im z.re);
}

-- the factor multiplies as the complex number k does
abbrev pub Acts : Factor → Complex → Type 0
Acts a k = (z : Complex) → applied a z ≡ mul_c k z

abbrev pub turned_p : Turn → Complex → Complex → Complex
turned_p t x y = add_c (applied t.px x) (applied t.py y)

abbrev pub turned_q : Turn → Complex → Complex → Complex
turned_q t x y = add_c (applied t.qx x) (applied t.qy y)

-- the factors are those of the rotation r
pub record Turns (t : Turn) (r : Rotation) : Type 0 where
  pub on_p : (x y : Complex) → turned_p t x y ≡ rotated_p r x y
  pub on_q : (x y : Complex) → turned_q t x y ≡ rotated_q r x y

unfoldable pub turned_pair : Turn → ℕ → ℕ → List Float → List Float
turned_pair t i j w = store (store w i (turned_p t (at w i) (at w j))) j (turned_q t (at w i) (at w j))
