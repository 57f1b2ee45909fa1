-- Laws of `specs/Norm.antt`.
use Rattle.std.specs.Prelude.{◌≡◌, Bool, true, false, cond, not, ◌||◌, T, refl, Float}
use Rattle.std.proofs.Math.Path.{ap}
use Rattle.std.proofs.Common.{ap₂, ◌∙◌}
use Rattle.std.specs.Float.Ieee.{nan, is_nan}
use Rattle.std.specs.Float.{inf, fin}
use Rattle.std.specs.Float.Ieee.Bits.{is_true, is_false}
use Rattle.std.specs.Float.Ieee.Scale.{finite}
use Rattle.complex.specs.declared.Complex.{Complex}
use Rattle.root.specs.NearestRoot.{nearest_root}
use Rattle.root.specs.Norm.{infinite, sum_of_squares, norm_of}

-- ---- which case it is

neither : (x : Float) → T (finite x) → (infinite x ≡ false) × (is_nan x ≡ false)
unfolding is_nan
neither nan h = absurd h
neither (inf s) h = absurd h
neither (fin s m e) h = (refl, refl)

module _ (a : Complex) where
  abbrev some_infinite : Bool
  some_infinite = infinite a.re || infinite a.im

  abbrev some_nan : Bool
  some_nan = is_nan a.re || is_nan a.im

  abbrev rounded : Float
  rounded = nearest_root (sum_of_squares a.re a.im)

  pub infinite_part : some_infinite ≡ true → norm_of a ≡ inf false
  unfolding norm_of
  infinite_part e = ap (λ (b : Bool). cond b (inf false) (cond some_nan nan rounded)) e

  no_infinite : some_infinite ≡ false → norm_of a ≡ cond some_nan nan rounded
  unfolding norm_of
  no_infinite e = ap (λ (b : Bool). cond b (inf false) (cond some_nan nan rounded)) e

  pub nan_part : some_infinite ≡ false → some_nan ≡ true → norm_of a ≡ nan
  nan_part e f = no_infinite e ∙ ap (λ (b : Bool). cond b nan rounded) f

  pub finite_parts : some_infinite ≡ false → some_nan ≡ false → norm_of a ≡ rounded
  finite_parts e f = no_infinite e ∙ ap (λ (b : Bool). cond b nan rounded) f

  pub norm_infinite : T (infinite a.re || infinite a.im) → norm_of a ≡ inf false
  norm_infinite h = infinite_part (is_true some_infinite h)

  pub norm_nan : T (not (infinite a.re || infinite a.im)) → T (is_nan a.re || is_nan a.im) → norm_of a ≡ nan
  norm_nan h k = nan_part (is_false some_infinite h) (is_true some_nan k)

  pub norm_finite : T (finite a.re) → T (finite a.im) → norm_of a ≡ nearest_root (sum_of_squares a.re a.im)
  norm_finite h k = let x = neither a.re h in let y = neither a.im k in finite_parts (ap₂ (λ (b c : Bool). b || c) x.0 y.0) (ap₂ (λ (b c : Bool). b || c) x.1 y.1)
