-- The front of the work slice, written by the contraction and then lent to the decomposition. No contract cites this file. Assumes nothing.
use mathlib.Core.Path.{◌≡◌, refl, sym, ap, ◌∙◌}
use mathlib.Core.Bool.{Bool}
use mathlib.Core.List.{List, ◌++◌}
use Prim.Native.Nat.{ℕ, ◌+◌, ◌*◌, ◌≤◌}
use native.Mathlib.Omega.{arith}
use lib.Ieee.{Float}
use lib.ListN.{length, take, drop, length-append, length-drop}
use lib.Seq.{length-take-le, take-take, take_at}
use Rattle.complex.specs.Numbers.{at}
use Rattle.complex.specs.declared.Complex.{Complex}
use Rattle.model.specs.Svd.{Svd, ordered, order_of, values_at, factored, any_nan}
use Rattle.model.specs.Pair.{gated_theta, pair_svd}
use Rattle.svd.specs.Order.{order_below}
use Rattle.cutting.specs.declared.Shape.{Shape}
use Rattle.cutting.specs.Shape.{room, shape_of, matrix_for, nan_in, Made, standing_ordered, shape_wide, shape_room, shape_stands, pair_shape}

-- the floats of the matrix
abbrev size : Shape → ℕ
size s = 2 * (s.wide * s.high)

-- lengths of what is lent
pub ruleset lengths = (length-take-le, length-append, length-drop)

-- what is lent begins with the matrix that is written
front : (s : Shape) (work matrix : List Float) → room s ≤ length work → length matrix ≡ length (take (size s) work)
    → take (size s) (take (room s) (matrix ++ drop (size s) work)) ≡ matrix
front s work matrix long kept =
    take-take (size s) (room s) (matrix ++ drop (size s) work) (omega arith)
    ∙ take_at matrix (drop (size s) work) (size s) (kept ∙ length-take-le (size s) work (omega arith))

-- the pair, contracted and factored there: w is the factored list
module _ (bl br mid : ℕ) (clamp : Float) (gate : List (List Complex)) (left right : List Float) (s : Shape) (e : s ≡ shape_of bl br) (work matrix w : List Float)
    (long : room (shape_of bl br) ≤ length work) (kept : length matrix ≡ length (take (size s) work))
    (contracted : matrix ≡ matrix_for s.adjoint bl br (gated_theta gate mid br left right))
    (made : w ≡ factored s.high s.wide clamp (take (size s) (take (2 * (s.vals + s.wide)) (matrix ++ drop (size s) work)))) where
  lent : w ≡ factored s.high s.wide clamp (matrix_for s.adjoint bl br (gated_theta gate mid br left right))
  lent =
      let r : 2 * (s.vals + s.wide) ≡ room s = omega (arith, shape_room bl br s e) in
      made ∙ ap (λ (n : ℕ). factored s.high s.wide clamp (take (size s) (take n (matrix ++ drop (size s) work)))) r
      ∙ ap (factored s.high s.wide clamp) (front s work matrix (rw e long) kept ∙ contracted)

  whole : pair_svd clamp bl mid br gate left right ≡ ordered s.adjoint s.high s.wide w
  whole = rw (e, pair_shape bl br clamp mid gate left right) (rw e at (ap (ordered s.adjoint s.high s.wide) (sym lent)))

  pub nan_told : (b : Bool) → b ≡ any_nan s.wide (λ k. (at w (values_at s.high s.wide + k)).re) → b ≡ nan_in (pair_svd clamp bl mid br gate left right)
  nan_told b h = rw whole h

  -- as many numbers as it takes
  same_room : length w ≡ length (take (2 * (s.vals + s.wide)) (matrix ++ drop (size s) work)) → length w ≡ room s
  same_room n =
      let r : 2 * (s.vals + s.wide) ≡ room s = omega (arith, shape_room bl br s e) in
      let long' : room s ≤ length work = rw e long in
      let fits : room s ≤ length (matrix ++ drop (size s) work) = simp (length-append, length-drop) (omega (arith, kept, length-take-le (size s) work (omega arith))) in
      n ∙ ap (λ (k : ℕ). length (take k (matrix ++ drop (size s) work))) r ∙ length-take-le (room s) (matrix ++ drop (size s) work) fits

  -- the slice begins with it, whatever follows
  pub begins_told : (rest : List Float) → length w ≡ length (take (2 * (s.vals + s.wide)) (matrix ++ drop (size s) work))
      → take (room (shape_of bl br)) (w ++ rest) ≡ (pair_svd clamp bl mid br gate left right).w
  begins_told rest n = ap (λ (x : Shape). take (room x) (w ++ rest)) (sym e) ∙ take_at w rest (room s) (same_room n) ∙ ap (λ (d : Svd). d.w) (sym whole)

  -- and the decomposition is the model's
  pub made_told : (order : List ℕ) → order ≡ order_of s.wide (λ k. (at w (values_at s.high s.wide + k)).re) → 1 ≤ bl → bl ≤ 128 → 1 ≤ br → br ≤ 128
      → (rest : List Float) → length w ≡ length (take (2 * (s.vals + s.wide)) (matrix ++ drop (size s) work))
      → Made bl br (pair_svd clamp bl mid br gate left right) (w ++ rest) (record { shape = s; order = order })
  made_told order o l hl m hr rest n =
      let same : length w ≡ room s = same_room n in
      let some : 1 ≤ s.wide = rw e (omega (arith, shape_wide bl br)) in
      record {
        whole = standing_ordered s w w rest order refl same o ∙ sym whole;
        shape = e;
        stands = shape_stands bl br s e (w ++ rest) order l hl m hr (simp length-append (omega (arith, same))) (λ k. rw o (order_below s.wide (λ k. (at w (values_at s.high s.wide + k)).re) some k));
      }
