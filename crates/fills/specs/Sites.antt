-- The sites that are filled from a decomposition's list are the model's, upright and flipped.
use Rattle.std.specs.Prelude.{ℕ, ◌+◌, ◌*◌, ◌≡◌, refl, Bool, true, false, cond, get_or}
use Rattle.std.proofs.Common.{ap, zero-add}
use Rattle.complex.specs.Complex.{conj_c}
use Rattle.complex.specs.Numbers.{at}
use Rattle.model.specs.Svd.{Svd, values_at, u_at, vt_at, value_at}
use Rattle.model.specs.Pair.{isometry_site, scaled_site, vt_site, scaled_vt_site, left_site, right_site}
use Rattle.model.specs.declared.WeightSide.TheVariants.{Left, Right}
use Rattle.fills.specs.declared.Factor.{Factor}
use Rattle.fills.specs.Factors.{column_of, row_of, value_of}

-- where U and V stand: the matrix itself comes first, of `high` rows, and then the rotations, of `wide` rows
abbrev pub u_factor : Svd → Factor
u_factor d = record { base = cond d.adjoint (d.wide * d.high) 0; stride = cond d.adjoint d.wide d.high }

abbrev pub v_factor : Svd → Factor
v_factor d = record { base = cond d.adjoint 0 (d.wide * d.high); stride = cond d.adjoint d.high d.wide }

pub columns_u : (d : Svd) → column_of d.w d.order (u_factor d) ≡ u_at d
columns_u d = by_case d.adjoint
  where
    by_case : (b : Bool)
        → column_of d.w d.order (record { base = cond b (d.wide * d.high) 0; stride = cond b d.wide d.high })
        ≡ (λ r g. cond b (at d.w (d.wide * d.high + (get_or d.order g 0 * d.wide + r))) (at d.w (get_or d.order g 0 * d.high + r)))
    by_case true = refl
    by_case false = λ i r g. at d.w (zero-add (get_or d.order g 0 * d.high + r) i)

pub rows_v : (d : Svd) → row_of d.w d.order (v_factor d) ≡ vt_at d
rows_v d = by_case d.adjoint
  where
    by_case : (b : Bool)
        → row_of d.w d.order (record { base = cond b 0 (d.wide * d.high); stride = cond b d.high d.wide })
        ≡ (λ g c. conj_c (cond b (at d.w (get_or d.order g 0 * d.high + c)) (at d.w (d.wide * d.high + (get_or d.order g 0 * d.wide + c)))))
    by_case true = λ i g c. conj_c (at d.w (zero-add (get_or d.order g 0 * d.high + c) i))
    by_case false = refl

pub values_s : (d : Svd) → value_of d.w d.order (values_at d.high d.wide) ≡ value_at d
values_s d = refl

-- ---- the four fills

module _ (bl chi br : ℕ) (d : Svd) where
  pub left_isometry : isometry_site bl chi (column_of d.w d.order (u_factor d)) ≡ left_site Right bl chi d
  left_isometry = ap (isometry_site bl chi) (columns_u d)

  pub left_scaled : scaled_site bl chi (column_of d.w d.order (u_factor d)) (value_of d.w d.order (values_at d.high d.wide)) ≡ left_site Left bl chi d
  left_scaled = ap (λ u. scaled_site bl chi u (value_at d)) (columns_u d)

  pub right_isometry : vt_site chi br (row_of d.w d.order (v_factor d)) ≡ right_site Left chi br d
  right_isometry = ap (vt_site chi br) (rows_v d)

  pub right_scaled : scaled_vt_site chi br (row_of d.w d.order (v_factor d)) (value_of d.w d.order (values_at d.high d.wide)) ≡ right_site Right chi br d
  right_scaled = ap (λ v. scaled_vt_site chi br v (value_at d)) (rows_v d)
