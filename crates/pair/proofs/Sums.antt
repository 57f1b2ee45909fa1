-- The four sums over the middle bond are Θ's, and the gate on a block is the model's. No contract cites this file. Assumes nothing.
use mathlib.Core.Path.{◌≡◌, refl, ap, ◌∙◌}
use mathlib.Core.List.{List}
use Prim.Native.Nat.{ℕ, ◌+◌, ◌*◌}
use native.Mathlib.Omega.{arith}
use lib.Ieee.{Float}
use Rattle.complex.specs.Complex.{add_c, mul_c, zero_c}
use Rattle.complex.specs.Loops.{each, each_more, each_same}
use Rattle.complex.specs.Numbers.{at}
use Rattle.complex.specs.declared.Complex.{Complex}
use Rattle.model.specs.Pair.{theta, gated}
use Rattle.pair.specs.Blocks.{block_of, dot_of, dots_of, grown, mix_of, mixed_of, gated_block}

pub dots_none : (left : List Float) (l0 l1 : ℕ) (right : List Float) (step r0 r1 : ℕ) → dots_of left l0 l1 right step r0 r1 0 ≡ record { e00 = zero_c; e01 = zero_c; e10 = zero_c; e11 = zero_c }
unfolding dots_of dot_of each
dots_none left l0 l1 right step r0 r1 = refl

dot_more : (left : List Float) (lo : ℕ) (right : List Float) (step ro n : ℕ)
    → dot_of left lo right step ro (n + 1) ≡ add_c (dot_of left lo right step ro n) (mul_c (at left (lo + n)) (at right (n * step + ro)))
unfolding dot_of
dot_more left lo right step ro n = each_more n _ zero_c

pub dots_more : (left : List Float) (l0 l1 : ℕ) (right : List Float) (step r0 r1 n : ℕ)
    → dots_of left l0 l1 right step r0 r1 (n + 1) ≡ grown (dots_of left l0 l1 right step r0 r1 n) (at left (l0 + n)) (at left (l1 + n)) (at right (n * step + r0)) (at right (n * step + r1))
unfolding dots_of grown
dots_more left l0 l1 right step r0 r1 n i = record {
  e00 = dot_more left l0 right step r0 n i;
  e01 = dot_more left l0 right step r1 n i;
  e10 = dot_more left l1 right step r0 n i;
  e11 = dot_more left l1 right step r1 n i;
}

dot_theta : (mid br : ℕ) (left right : List Float) (a i j b lo ro : ℕ) → lo ≡ a * (2 * mid) + i * mid → ro ≡ j * br + b
    → dot_of left lo right (2 * br) ro mid ≡ theta mid br left right a i j b
unfolding dot_of
dot_theta mid br left right a i j b lo ro e f =
    each_same mid _ _ zero_c
    (λ g _. let x : lo + g ≡ a * (2 * mid) + i * mid + g = omega arith in
    let y : g * (2 * br) + ro ≡ g * (2 * br) + j * br + b = omega arith in
    rw (x, y))

dots_theta : (mid br : ℕ) (left right : List Float) (a b : ℕ)
    → dots_of left (a * (2 * mid)) (a * (2 * mid) + mid) right (2 * br) b (br + b) mid ≡ block_of (λ i j. theta mid br left right a i j b)
unfolding dots_of
dots_theta mid br left right a b i = record {
  e00 = dot_theta mid br left right a 0 0 b (a * (2 * mid)) b (omega arith) (omega arith) i;
  e01 = dot_theta mid br left right a 0 1 b (a * (2 * mid)) (br + b) (omega arith) (omega arith) i;
  e10 = dot_theta mid br left right a 1 0 b (a * (2 * mid) + mid) b (omega arith) (omega arith) i;
  e11 = dot_theta mid br left right a 1 1 b (a * (2 * mid) + mid) (br + b) (omega arith) (omega arith) i;
}

mixed_block : (gate : List (List Complex)) (th : ℕ → ℕ → Complex) → mixed_of gate (block_of th) ≡ block_of (gated gate th)
unfolding mixed_of mix_of each
mixed_block gate th = refl

-- the gate on the four sums is the block of a and b
pub mixed_dots : (gate : List (List Complex)) (mid br : ℕ) (left right : List Float) (a b : ℕ)
    → mixed_of gate (dots_of left (a * (2 * mid)) (a * (2 * mid) + mid) right (2 * br) b (br + b) mid) ≡ gated_block gate mid br left right a b
unfolding gated_block
mixed_dots gate mid br left right a b = ap (mixed_of gate) (dots_theta mid br left right a b) ∙ mixed_block gate (λ i j. theta mid br left right a i j b)
