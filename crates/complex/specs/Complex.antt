-- Complex numbers of binary64 numbers. Every operation on parts is rounded once, as IEEE 754-2019 has it (4.3.1, 5.4.1), in the order written.
use Rattle.std.specs.Prelude.{Bool, ◌&&◌, Float}
use Rattle.std.specs.Float.{binary64}
use Rattle.std.specs.Float.Ieee.{add, sub, mul, div, neg, eq, of_bits}
use Rattle.complex.specs.declared.Complex.{Complex}

-- +0 and 1, as a program writes 0.0 and 1.0
abbrev pub zero_f : Float
zero_f = of_bits binary64 0

abbrev pub one_f : Float
one_f = of_bits binary64 0x3ff0_0000_0000_0000

-- a real number as a complex one, and +0
abbrev pub real : Float → Complex
real x = record { re = x; im = zero_f }

abbrev pub zero_c : Complex
zero_c = real zero_f

unfoldable pub add_c : Complex → Complex → Complex
add_c a b = record { re = add binary64 a.re b.re; im = add binary64 a.im b.im }

unfoldable pub sub_c : Complex → Complex → Complex
sub_c a b = record { re = sub binary64 a.re b.re; im = sub binary64 a.im b.im }

unfoldable pub neg_c : Complex → Complex
neg_c a = record { re = neg a.re; im = neg a.im }

unfoldable pub conj_c : Complex → Complex
conj_c a = record { re = a.re; im = neg a.im }

-- (a c - b d, a d + b c)
unfoldable pub mul_c : Complex → Complex → Complex
mul_c a b = record {
  re = sub binary64 (mul binary64 a.re b.re) (mul binary64 a.im b.im);
  im = add binary64 (mul binary64 a.re b.im) (mul binary64 a.im b.re);
}

-- re * re + im * im
unfoldable pub norm_sqr : Complex → Float
norm_sqr a = add binary64 (mul binary64 a.re a.re) (mul binary64 a.im a.im)

-- times a real number, and divided by one
unfoldable pub scale_c : Complex → Float → Complex
scale_c a t = record { re = mul binary64 a.re t; im = mul binary64 a.im t }

unfoldable pub unscale_c : Complex → Float → Complex
unscale_c a t = record { re = div binary64 a.re t; im = div binary64 a.im t }

-- both parts are zeros, of either sign
unfoldable pub is_zero : Complex → Bool
is_zero a = eq a.re zero_f && eq a.im zero_f
