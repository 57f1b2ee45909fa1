-- The four phases 1, -1, i and -i, as a group, as complex numbers, and read off one.
use Rattle.std.specs.Prelude.{Bool, true, false, ◌&&◌, ◌||◌, cond, Float}
use Rattle.std.specs.Float.Ieee.{neg, eq, lt, unlike}
use Rattle.complex.specs.Complex.{zero_f, one_f}
use Rattle.complex.specs.declared.Complex.{Complex}

infixl 70 ◌⊗◌
-- phase imaginary negative: 1 is phase false false, -1 phase false true, i phase true false, -i phase true true
pub data Phase : Type 0 where
  phase : Bool → Bool → Phase

abbrev pub one : Phase
one = phase false false

-- the product: i times i is -1
abbrev pub ◌⊗◌ : Phase → Phase → Phase
phase i m ⊗ phase j n = phase (unlike i j) (unlike (i && j) (unlike m n))

abbrev pub signed : Bool → Float
signed n = cond n (neg one_f) one_f

abbrev pub phase_c : Phase → Complex
phase_c (phase false n) = record { re = signed n; im = zero_f }
phase_c (phase true n) = record { re = zero_f; im = signed n }

-- two complex numbers are equal, zeros of either sign counting as zero
unfoldable pub equals : Complex → Complex → Bool
equals z w = eq z.re w.re && eq z.im w.im

-- z is 1, -1, i or -i; and which
unfoldable pub is_phase : Complex → Bool
is_phase z = equals z (phase_c (phase false false)) || equals z (phase_c (phase false true)) || equals z (phase_c (phase true false)) || equals z (phase_c (phase true true))

unfoldable pub read_phase : Complex → Phase
read_phase z = cond (eq z.re zero_f) (phase true (lt z.im zero_f)) (phase false (lt z.re zero_f))
