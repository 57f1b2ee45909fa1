-- A factor multiplies as its number does: where its real part is the NaN, so is every part of every product, and else a
-- negated factor negates a product. Assumes nothing.
use mathlib.Core.Path.{◌≡◌, refl, ap, ◌∙◌}
use mathlib.Core.Bool.{Bool, true, false, not, cond}
use Prim.Native.Nat.{ℕ, zero, suc, ◌+◌, ◌-◌, ◌*◌, ◌/◌, ◌%◌, ◌^◌, compare}
use lib.Dec.{ltb, eqb}
use lib.Ieee.{Float, nan, inf, fin, Format, prec, emax, low, size, nearest, unlike, up, down, odd, units, round, neg, is_nan, add, sub, mul, binary64}
use Rattle.complex.specs.Complex.{mul_c}
use Rattle.complex.specs.declared.Complex.{Complex}
use Rattle.jacobi.specs.Factors.{applied}

odd_not : (d : ℕ) (s : Bool) (q k l : ℕ) → odd d (not s) q k l ≡ neg (odd d s q k l)
unfolding odd neg
odd_not d s zero k l = refl
odd_not d s (suc q) k l = refl

either : (b : Bool) (x y x' y' : Float) → x' ≡ neg x → y' ≡ neg y → cond b x' y' ≡ neg (cond b x y)
either true x y x' y' h g = h
either false x y x' y' h g = g

inf_not : (s : Bool) → inf (not s) ≡ neg (inf s)
unfolding neg
inf_not s = refl

nan_not : nan ≡ neg nan
unfolding neg
nan_not = refl

units_not : (f : Format) (s : Bool) (q k : ℕ) → units f (not s) q k ≡ neg (units f s q k)
unfolding units
units_not f s q k = either (ltb (q * 2 ^ k) (2 ^ (low f + suc (emax f)))) (odd (suc (prec f)) s q k (low f)) (inf s) (odd (suc (prec f)) (not s) q k (low f)) (inf (not s)) (odd_not (suc (prec f)) s q k (low f)) (inf_not s)

round_not : (f : Format) (s : Bool) (num den : ℕ) → round f (not s) num den ≡ neg (round f s num den)
unfolding round
round_not f s num den =
    let n = num * 2 ^ low f in
    let k = size (n / den) - prec f in
    let u = den * 2 ^ k in
    units_not f s (nearest (n / u) (compare (n % u * 2) u)) k

unlike_not : (s t : Bool) → unlike (not s) t ≡ not (unlike s t)
unlike_not true true = refl
unlike_not true false = refl
unlike_not false true = refl
unlike_not false false = refl

inf_unlike : (s t : Bool) → inf (unlike (not s) t) ≡ neg (inf (unlike s t))
inf_unlike s t = ap inf (unlike_not s t) ∙ inf_not (unlike s t)

mul_neg : (f : Format) (x y : Float) → mul f (neg x) y ≡ neg (mul f x y)
unfolding mul neg
mul_neg f nan y = refl
mul_neg f (inf s) nan = refl
mul_neg f (inf s) (inf t) = inf_unlike s t
mul_neg f (inf s) (fin t n d) = either (eqb n 0) _ _ _ _ nan_not (inf_unlike s t)
mul_neg f (fin s m e) nan = refl
mul_neg f (fin s m e) (inf t) = either (eqb m 0) _ _ _ _ nan_not (inf_unlike s t)
mul_neg f (fin s m e) (fin t n d) = ap (λ (b : Bool). round f b (m * up e * (n * up d)) (down e * down d)) (unlike_not s t) ∙ round_not f (unlike s t) (m * up e * (n * up d)) (down e * down d)

pub negated_acts : (a z : Complex) → mul_c a z ≡ applied (record { re = a.re; im = a.im; minus_im = neg a.im }) z
unfolding mul_c sub
negated_acts a z = rw (mul_neg binary64 a.im z.im)

nan_times : (x i : Float) (z : Complex) → is_nan x ≡ true → mul_c (record { re = x; im = i }) z ≡ applied (record { re = x; im = x; minus_im = x }) z
unfolding mul_c add sub mul is_nan
nan_times nan i z h = refl
nan_times (inf s) i z h = cc
nan_times (fin s m e) i z h = cc

pub nan_acts : (a z : Complex) → is_nan a.re ≡ true → mul_c a z ≡ applied (record { re = a.re; im = a.re; minus_im = a.re }) z
nan_acts a z h = nan_times a.re a.im z h
