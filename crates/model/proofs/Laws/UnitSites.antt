-- A site of bonds 1 that holds one unit, exactly: its Born weights, a draw, projection and reset; and what a QR step makes of two such sites.
use Rattle.std.specs.Prelude.{Bool, not, cond, ◌≡◌, List, [], ◌∷◌, ℕ, ◌-◌, ◌≤◌, length, replicate, Float}
use Rattle.std.proofs.Math.Bool.{true, false}
use Rattle.std.specs.Bool.{beq}
use Rattle.std.proofs.Math.Path.{refl, ap}
use Rattle.std.proofs.Common.{◌∙◌, arith}
use Rattle.std.specs.Float.Ieee.{binary64, add, div, lt, le, of_bits, mul}
use Rattle.complex.specs.declared.Complex.{Complex}
use Rattle.complex.specs.Complex.{mul_c, real, zero_f, one_f, conj_c, norm_sqr, scale_c, zero_c}
use Rattle.complex.specs.Loops.{each}
use Rattle.complex.specs.Numbers.{at, numbers, at_left, store}
use Rattle.complex.specs.Matrix.{rows}
use Rattle.root.specs.Root.{root_of}
use Rattle.model.specs.Slots.{filled, amplitude}
use Rattle.model.specs.Born.{weight, total, drawn, rescale, projected_site, reset_site, bit_of}
use Rattle.model.specs.Phases.{Phase}
use Rattle.model.specs.Columns.{l2_norm, scaled_to}
use Rattle.model.specs.Qr.{passed, Kept, kept, pass_retain, pass_of, passes_of, kept_of, column_of, raised, qr}
use Rattle.model.specs.Pair.{isometry_site, vt_site}
use Rattle.model.specs.Moves.{q_at, right_matrix, left_matrix, absorbed_right, absorbed_left}
use Rattle.model.proofs.Laws.Units.{Value, nought, unit, Is, size, Holds, Fraction, is_path, is_size, zero_nought, mul_one, bar, conjugate, is_value, is_mul, is_conj, is_scale, one_unit, nought_add, bar_bar, times_right, one_mul}
use Rattle.model.proofs.Laws.UnitFloats.{fraction_below, fraction_clamps, fraction_times}
use Rattle.model.proofs.Laws.UnitCut.{root_of_lem, isometry_holds, vt_holds, flat}

-- 1 where the outcome is the bit, else 0
abbrev pub certain : Bool → Bool → Float
certain b o = cond (beq b o) one_f zero_f

module _ (site : List Float) (b : Bool) (p : Phase) (H : Holds site b p) where
  -- ---- weights

  pub weight_is : (o : Bool) → weight 1 1 site o ≡ certain b o
  unfolding weight each add of_bits
  weight_is o = (λ k. add binary64 zero_f (add binary64 zero_f (is_size (H o) k))) ∙ go b o
    where
      go : (b o : Bool) → add binary64 zero_f (add binary64 zero_f (size (cond (beq b o) (unit p) nought))) ≡ certain b o
      go false false = refl
      go false true = refl
      go true false = refl
      go true true = refl

  pub weight_own : weight 1 1 site b ≡ one_f
  weight_own = weight_is b ∙ go b
    where
      go : (b : Bool) → certain b b ≡ one_f
      go false = refl
      go true = refl

  pub total_is : total 1 1 site ≡ one_f
  unfolding add of_bits
  total_is = (λ k. add binary64 (weight_is false k) (weight_is true k)) ∙ go b
    where
      go : (b : Bool) → add binary64 (certain b false) (certain b true) ≡ one_f
      go false = refl
      go true = refl

  -- the draw finds the bit
  pub drawn_is : (draw : Float) → Fraction draw → drawn draw 1 1 site ≡ b
  unfolding drawn
  drawn_is draw D = rw (total_is, fraction_times D, weight_is true) (go b)
    where
      go : (b : Bool) → lt draw (certain b true) ≡ b
      go false = fraction_below D false
      go true = fraction_below D true

  -- ---- projection on the bit, and reset from it

  rescale_is : rescale (weight 1 1 site b) ≡ real one_f
  unfolding div of_bits
  rescale_is = ap rescale weight_own ∙ ap (λ (x : Float). real (div binary64 one_f x)) (root_of_lem true)

  own_kept : {z : Complex} {u : Value} → Is z u → Is (mul_c z (rescale (weight 1 1 site b))) u
  own_kept {z} h = is_path (ap (mul_c z) rescale_is) (mul_one h)

  -- the bit's weight is above the clamp, and the other's is not
  pub clamped_is : (clamp : Float) → Fraction clamp → (o : Bool) → le (weight 1 1 site o) clamp ≡ not (beq b o)
  clamped_is clamp C o = rw weight_is (fraction_clamps C (beq b o))

-- projected on its bit the site is as it was; reset from its bit it holds its phase at bit 0
pub projected_holds : (site : List Float) (b : Bool) (p : Phase) → Holds site b p → Holds (projected_site 1 1 b site) b p
unfolding projected_site rows numbers at
projected_holds site false p H false = own_kept site false p H (H false)
projected_holds site false p H true = zero_nought
projected_holds site true p H false = zero_nought
projected_holds site true p H true = own_kept site true p H (H true)

pub reset_holds : (site : List Float) (b : Bool) (p : Phase) → Holds site b p → Holds (reset_site 1 1 b site) false p
unfolding reset_site rows numbers at
reset_holds site false p H false = own_kept site false p H (H false)
reset_holds site false p H true = zero_nought
reset_holds site true p H false = own_kept site true p H (H true)
reset_holds site true p H true = zero_nought

-- what a site holds, a slot filled up from it holds
pub holds_filled : (n : ℕ) (site : List Float) (b : Bool) (p : Phase) → 4 ≤ length site → Holds site b p → Holds (filled n site) b p
unfolding filled
holds_filled n site b p h H false = is_path (at_left site (replicate (n - length site) zero_f) 0 (omega arith)) (H false)
holds_filled n site b p h H true = is_path (at_left site (replicate (n - length site) zero_f) 1 h) (H true)

-- to the right, f factoring the left site: the left site after it, and the right site, `next` before it
pub record RightExact (f : Kept) (next : List Float) (a : Bool) (u : Phase) (b : Bool) (v : Phase) : Type 0 where
  pub bond : f.rank ≡ 1
  pub left : Holds (isometry_site 1 f.rank (q_at 2 f)) a u
  pub right : Holds (absorbed_right 1 1 1 f next) b v

-- to the left, f factoring the right site's conjugate transpose: the left site, `prev` before it, and the right site after it
pub record LeftExact (f : Kept) (prev : List Float) (a : Bool) (u : Phase) (b : Bool) (v : Phase) : Type 0 where
  pub bond : f.rank ≡ 1
  pub left : Holds (absorbed_left 1 1 1 f prev) a u
  pub right : Holds (vt_site f.rank 1 (λ g c. conj_c (q_at 2 f c g))) b v

-- ---- one column of two numbers: q is the column divided by 1, r is 1

abbrev column : (Bool → Complex) → List Float
column z = flat (z false ∷ z true ∷ [])

abbrev begun : (Bool → Complex) → List Float
begun z = flat (z false ∷ z true ∷ zero_c ∷ [])

-- the factoring where x is the norm of the column
abbrev at_norm : (Bool → Complex) → Float → Kept
at_norm z x = raised 2 (kept_of 2 1 1 0 x 0 (cond (lt (mul binary64 pass_retain x) x) (passed x (begun z)) (passes_of 2 1 0 0 2 x (begun z))))

qr_at : (z : Bool → Complex) → qr 2 1 (column z) ≡ at_norm z (root_of (add binary64 (add binary64 zero_f (norm_sqr (z false))) (norm_sqr (z true))))
unfolding qr column_of passes_of pass_of l2_norm each at
qr_at z = refl

abbrev factored : (Bool → Complex) → Kept
factored z = kept 1 (flat (scale_c (z false) one_f ∷ scale_c (z true) one_f ∷ real one_f ∷ []))

at_one : (z : Bool → Complex) → at_norm z one_f ≡ factored z
unfolding raised kept_of scaled_to store each at lt mul div of_bits
at_one z = refl

module _ (z : Bool → Complex) (b : Bool) (p : Phase) (h : (i : Bool) → Is (z i) (cond (beq b i) (unit p) nought)) where
  square_one : add binary64 (add binary64 zero_f (norm_sqr (z false))) (norm_sqr (z true)) ≡ one_f
  unfolding add of_bits
  square_one = (λ k. add binary64 (add binary64 zero_f (is_size (h false) k)) (is_size (h true) k)) ∙ go b
    where
      go : (b : Bool) → add binary64 (add binary64 zero_f (size (cond (beq b false) (unit p) nought))) (size (cond (beq b true) (unit p) nought)) ≡ one_f
      go false = refl
      go true = refl

  qr_is : qr 2 1 (column z) ≡ factored z
  qr_is = qr_at z ∙ ap (λ (x : Float). at_norm z (root_of x)) square_one ∙ ap (at_norm z) (root_of_lem true) ∙ at_one z

  q_is : (i : Bool) → Is (q_at 2 (factored z) (bit_of i) 0) (cond (beq b i) (unit p) nought)
  unfolding at
  q_is false = is_scale (h false)
  q_is true = is_scale (h true)

-- r is 1: the neighbour keeps what it holds
module _ (z : Bool → Complex) (next : List Float) (b : Bool) (p : Phase) (N : Holds next b p) where
  next_holds : Holds (absorbed_right 1 1 1 (factored z) next) b p
  unfolding absorbed_right rows numbers each at
  next_holds false = nought_add zero_nought (one_mul (N false))
  next_holds true = nought_add zero_nought (one_mul (N true))

  times_bar : {y : Complex} {u : Value} → Is y u → Is (mul_c y (conj_c (real one_f))) u
  times_bar {u = u} h = is_value (times_right u) (is_mul h (is_conj one_unit))

  prev_holds : Holds (absorbed_left 1 1 1 (factored z) next) b p
  unfolding absorbed_left rows numbers each at
  prev_holds false = nought_add zero_nought (times_bar (N false))
  prev_holds true = nought_add zero_nought (times_bar (N true))

-- the conjugate of a column that holds one unit
conj_held : {z : Complex} (b i : Bool) (p : Phase) → Is z (cond (beq b i) (unit p) nought) → Is (conj_c z) (cond (beq b i) (unit (bar p)) nought)
conj_held b i p h = is_value (go b i) (is_conj h)
  where
    go : (b i : Bool) → conjugate (cond (beq b i) (unit p) nought) ≡ cond (beq b i) (unit (bar p)) nought
    go false false = refl
    go false true = refl
    go true false = refl
    go true true = refl

-- ---- the theorems

module _ (left right : List Float) (a : Bool) (u : Phase) (b : Bool) (v : Phase) (L : Holds left a u) (R : Holds right b v) where
  -- the left site as a column
  abbrev upright : Bool → Complex
  upright i = amplitude left 1 0 (bit_of i) 0

  right_is : qr 2 1 (right_matrix 1 1 left) ≡ factored upright
  unfolding rows numbers
  right_is = qr_is upright a u L

  pub right_exact : RightExact (qr 2 1 (right_matrix 1 1 left)) right a u b v
  right_exact = rw right_is (record {
    bond = refl;
    left = isometry_holds (q_at 2 (factored upright)) a u (q_is upright a u L);
    right = next_holds upright right b v R;
  })

  -- the right site as a column, conjugate
  abbrev turned : Bool → Complex
  turned i = conj_c (amplitude right 1 0 (bit_of i) 0)

  turned_is : (i : Bool) → Is (turned i) (cond (beq b i) (unit (bar v)) nought)
  turned_is i = conj_held b i v (R i)

  left_is : qr 2 1 (left_matrix 1 1 right) ≡ factored turned
  unfolding rows numbers
  left_is = qr_is turned b (bar v) turned_is

  back_is : (i : Bool) → Is (conj_c (q_at 2 (factored turned) (bit_of i) 0)) (cond (beq b i) (unit v) nought)
  back_is i = is_value (ap (λ (r : Phase). cond (beq b i) (unit r) nought) (bar_bar v)) (conj_held b i (bar v) (q_is turned b (bar v) turned_is i))

  pub left_exact : LeftExact (qr 2 1 (left_matrix 1 1 right)) left a u b v
  left_exact = rw left_is (record {
    bond = refl;
    left = prev_holds turned left a u L;
    right = vt_holds (λ g k. conj_c (q_at 2 (factored turned) k g)) b v back_is;
  })
