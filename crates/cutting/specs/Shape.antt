-- The decomposition of a pair of outer bonds bl and br, as it stands at the front of the work slice.
use Rattle.std.specs.Prelude.{◌≡◌, Bool, ℕ, ◌+◌, ◌*◌, ◌≤◌, ◌<◌, min, max, Float, length, take, get_or}
use Rattle.std.proofs.Math.Path.{refl}
use Rattle.std.proofs.Common.{ap, ◌∙◌, mul_comm, mul-le-mul, mul-le-mul_right, mul-le-mul_left, arith, length-take-le, take_at, ltb-true, ltb-false}
use Rattle.std.proofs.Math.Bool.{true, false, cond}
use mathlib.Core.List.{List, [], ◌++◌}
use Rattle.std.proofs.Math.Dec.{ltb}
use Rattle.complex.specs.Numbers.{at, count}
use Rattle.complex.specs.declared.Complex.{Complex}
use Rattle.model.specs.Svd.{Svd, ordered, order_of, factored, svd, values_at, raw_value, any_nan}
use Rattle.model.specs.Pair.{gated_theta, matrix_of, adjoint_of, pair_svd}
use Rattle.model.specs.Slots.{work_room}
use Rattle.svd.specs.Order.{Below}
use Rattle.fills.specs.Sites.{u_factor, v_factor}
use Rattle.fills.specs.declared.Factor.{Factor}
use Rattle.cutting.specs.declared.Shape.{Shape}
use Rattle.cutting.specs.declared.Decomposed.{Decomposed}

-- so many rows and columns, the first value behind the matrix and the rotations
abbrev pub shaped : Bool → ℕ → ℕ → Shape
shaped adjoint high wide = record { adjoint = adjoint; high = high; wide = wide; vals = values_at high wide }

-- the matrix of 2 bl rows and 2 br columns; where there are fewer rows than columns, its conjugate transpose
abbrev pub upright : ℕ → ℕ → Shape
upright bl br = shaped false (2 * bl) (2 * br)

abbrev pub flipped : ℕ → ℕ → Shape
flipped bl br = shaped true (2 * br) (2 * bl)

unfoldable pub shape_of : ℕ → ℕ → Shape
shape_of bl br = cond (ltb (2 * bl) (2 * br)) (flipped bl br) (upright bl br)

unfoldable pub matrix_for : Bool → ℕ → ℕ → (ℕ → ℕ → ℕ → ℕ → Complex) → List Float
matrix_for adjoint bl br th = cond adjoint (adjoint_of bl br th) (matrix_of bl br th)

-- the floats that a decomposition takes: the matrix, the rotations and the values
abbrev pub room : Shape → ℕ
room s = 2 * (s.wide * s.high + s.wide * s.wide + s.wide)

-- the decomposition that w begins with
abbrev pub standing : Shape → List Float → List ℕ → Svd
standing s w order = record { adjoint = s.adjoint; high = s.high; wide = s.wide; w = take (room s) w; order = order }

-- where U and V stand in it
abbrev pub left_factor : Shape → Factor
left_factor s = u_factor (standing s [] [])

abbrev pub right_factor : Shape → Factor
right_factor s = v_factor (standing s [] [])

-- whether one of the values is a NaN
abbrev pub nan_in : Svd → Bool
nan_in d = any_nan d.wide (raw_value d)

-- what the steps after a decomposition ask: it is within w, and `order` names its columns
pub record Stands (s : Shape) (w : List Float) (order : List ℕ) : Type 0 where
  pub some : 1 ≤ s.wide
  pub rows : s.high ≤ 256
  pub columns : s.wide ≤ 256
  pub first : s.vals ≡ values_at s.high s.wide
  pub fits : room s ≤ length w
  pub below : Below s.wide order

-- r is the decomposition d of a pair of outer bonds bl and br, and w begins with it
pub record Made (bl br : ℕ) (d : Svd) (w : List Float) (r : Decomposed) : Type 0 where
  pub whole : standing r.shape w r.order ≡ d
  pub shape : r.shape ≡ shape_of bl br
  pub stands : Stands r.shape w r.order

-- ---- laws

module _ (bl br : ℕ) where
  pub shape_either : (P : Shape → Type 0) → (2 * bl < 2 * br → P (flipped bl br)) → (2 * br ≤ 2 * bl → P (upright bl br)) → P (shape_of bl br)
  unfolding shape_of
  shape_either P f u = by_case (ltb (2 * bl) (2 * br)) refl
    where
      by_case : (b : Bool) → ltb (2 * bl) (2 * br) ≡ b → P (cond b (flipped bl br) (upright bl br))
      by_case true e = f (ltb-true (2 * bl) (2 * br) e)
      by_case false e = u (ltb-false (2 * bl) (2 * br) e)

  pub shape_wide : (shape_of bl br).wide ≡ 2 * min bl br
  shape_wide = shape_either (λ s. s.wide ≡ 2 * min bl br) (λ h. omega arith) (λ h. omega arith)

  pub shape_high : (shape_of bl br).high ≡ 2 * max bl br
  shape_high = shape_either (λ s. s.high ≡ 2 * max bl br) (λ h. omega arith) (λ h. omega arith)

  pub shape_first : (shape_of bl br).vals ≡ values_at (shape_of bl br).high (shape_of bl br).wide
  shape_first = shape_either (λ s. s.vals ≡ values_at s.high s.wide) (λ h. refl) (λ h. refl)

  -- as many numbers as the contraction writes
  pub shape_matrix : (shape_of bl br).wide * (shape_of bl br).high ≡ 2 * br * (2 * bl)
  shape_matrix = shape_either (λ s. s.wide * s.high ≡ 2 * br * (2 * bl)) (λ h. mul_comm (2 * bl) (2 * br)) (λ h. refl)

  pub left_stride : (s : Shape) → s ≡ shape_of bl br → (left_factor s).stride ≡ 2 * bl
  left_stride s e = ap (λ (x : Shape). (left_factor x).stride) e ∙ shape_either (λ x. (left_factor x).stride ≡ 2 * bl) (λ h. refl) (λ h. refl)

  pub right_stride : (s : Shape) → s ≡ shape_of bl br → (right_factor s).stride ≡ 2 * br
  right_stride s e = ap (λ (x : Shape). (right_factor x).stride) e ∙ shape_either (λ x. (right_factor x).stride ≡ 2 * br) (λ h. refl) (λ h. refl)

  module _ (s : Shape) (e : s ≡ shape_of bl br) where
    pub shape_small : bl ≤ 128 → br ≤ 128 → (s.high ≤ 256) × (s.wide ≤ 256) × (s.vals ≡ values_at s.high s.wide)
    shape_small hl hr = (omega (arith, ap (λ (x : Shape). x.high) e, shape_high), omega (arith, ap (λ (x : Shape). x.wide) e, shape_wide), rw e shape_first)

    -- what a decomposition of that shape takes
    pub shape_columns : bl ≤ 128 → br ≤ 128 → s.wide ≤ 256
    shape_columns hl hr = (shape_small hl hr).1

    pub shape_most : bl ≤ 128 → br ≤ 128 → s.vals + s.wide ≤ 131328
    shape_most hl hr = let z = shape_small hl hr in omega (arith, mul-le-mul z.1 z.0, mul-le-mul z.1 z.1)

    pub shape_cells : s.wide * s.high ≡ 2 * br * (2 * bl)
    shape_cells = rw e shape_matrix

    pub shape_room : s.vals + s.wide ≡ s.wide * s.high + s.wide * s.wide + s.wide
    shape_room = rw e (omega (arith, shape_first))

    pub shape_stands : (w : List Float) (order : List ℕ) → 1 ≤ bl → bl ≤ 128 → 1 ≤ br → br ≤ 128 → room s ≤ length w → Below s.wide order → Stands s w order
    shape_stands w order l hl m hr fits below =
        let z = shape_small hl hr in
        record { some = omega (arith, ap (λ (x : Shape). x.wide) e, shape_wide); rows = z.0; columns = z.1; first = z.2; fits = fits; below = below }

  -- bonds up to d leave room in the work slice
  pub room_fits : (d : ℕ) → bl ≤ d → br ≤ d → room (shape_of bl br) ≤ work_room d
  room_fits d hl hr =
      shape_either (λ s. room s ≤ work_room d)
      (λ h. omega (arith, mul-le-mul_right br hl, mul-le-mul_left d hr, mul-le-mul_right bl hl, mul-le-mul_left d hl))
      (λ h. omega (arith, mul-le-mul_right br hl, mul-le-mul_left d hr, mul-le-mul_right br hr, mul-le-mul_left d hl))

  -- the cut decomposes the matrix of that shape
  pub pair_shape : (clamp : Float) (mid : ℕ) (gate : List (List Complex)) (left right : List Float)
      → (let s = shape_of bl br in
      pair_svd clamp bl mid br gate left right ≡ ordered s.adjoint s.high s.wide (factored s.high s.wide clamp (matrix_for s.adjoint bl br (gated_theta gate mid br left right))))
  unfolding pair_svd svd shape_of matrix_for
  pair_shape clamp mid gate left right = by_case (ltb (2 * bl) (2 * br)) (adjoint_of bl br (gated_theta gate mid br left right)) (matrix_of bl br (gated_theta gate mid br left right))
    where
      by_case : (b : Bool) (turned straight : List Float)
          → (let s = cond b (flipped bl br) (upright bl br) in
          cond b (ordered true (2 * br) (2 * bl) (factored (2 * br) (2 * bl) clamp turned)) (ordered false (2 * bl) (2 * br) (factored (2 * bl) (2 * br) clamp straight))
          ≡ ordered s.adjoint s.high s.wide (factored s.high s.wide clamp (cond s.adjoint turned straight)))
      by_case true turned straight = refl
      by_case false turned straight = refl

-- a factored list at the front, with the order of its values
pub standing_ordered : (s : Shape) (w f rest : List Float) (order : List ℕ) → w ≡ f → length w ≡ room s
    → order ≡ order_of s.wide (λ k. (at w (values_at s.high s.wide + k)).re)
    → standing s (w ++ rest) order ≡ ordered s.adjoint s.high s.wide f
standing_ordered s w f rest order e len o i = record {
  adjoint = s.adjoint;
  high = s.high;
  wide = s.wide;
  w = (take_at w rest (room s) len ∙ e) i;
  order = (o ∙ ap (λ (v : List Float). order_of s.wide (λ k. (at v (values_at s.high s.wide + k)).re)) e) i;
}

-- the value at the place g is within the decomposition
pub value_in : (s : Shape) (w : List Float) (order : List ℕ) → Stands s w order → (g : ℕ) → s.vals + get_or order g 0 < count (take (2 * (s.vals + s.wide)) w)
value_in s w order h g =
    let f : 2 * (s.vals + s.wide) ≡ room s = omega (arith, h.first) in
    rw f (omega (arith, length-take-le (room s) w h.fits, h.below g, h.first))
