-- Two neighbouring sites as one: their contraction, the gate on it, its matrix, and the two sites made of its factors.
-- (Vidal 2003, Lemma 2; Schollwöck 2011, 4.1.3 and 4.5.1.) A site of bonds bl and br is a matrix of 2 bl rows, row 2 a + i for left index a and bit i.
use Rattle.std.specs.Prelude.{ℕ, ◌+◌, ◌*◌, List, Float}
use Rattle.complex.specs.Complex.{mul_c, conj_c, scale_c, real, zero_c}
use Rattle.complex.specs.Loops.{each, sum_c}
use Rattle.complex.specs.Numbers.{numbers}
use Rattle.complex.specs.Matrix.{rows}
use Rattle.complex.specs.declared.Complex.{Complex}
use Rattle.gates.specs.Gate.{entry}
use Rattle.model.specs.Slots.{amplitude}
use Rattle.model.specs.Svd.{Svd, svd, u_at, vt_at, value_at}
use Rattle.model.specs.declared.WeightSide.{WeightSide}
use Rattle.model.specs.declared.WeightSide.TheVariants.{Left, Right}

-- Θ(a, i, j, b): the sum over the middle bond of left (a, i, g) times right (g, j, b)
abbrev pub theta : ℕ → ℕ → List Float → List Float → ℕ → ℕ → ℕ → ℕ → Complex
theta mid br left right a i j b = sum_c mid (λ g. mul_c (amplitude left mid a i g) (amplitude right br g j b)) zero_c

-- the gate on Θ: the sum over i, then j, of gate (2 i' + j', 2 i + j) times Θ(a, i, j, b)
abbrev pub gated : List (List Complex) → (ℕ → ℕ → Complex) → ℕ → ℕ → Complex
gated gate th i' j' = each 2 (λ i z. sum_c 2 (λ j. mul_c (entry gate (i' * 2 + j') (i * 2 + j)) (th i j)) z) zero_c

abbrev pub gated_theta : List (List Complex) → ℕ → ℕ → List Float → List Float → ℕ → ℕ → ℕ → ℕ → Complex
gated_theta gate mid br left right a i j b = gated gate (λ i j. theta mid br left right a i j b) i j

-- the matrix of rows 2 a + i and columns j * br + b, by columns; and its conjugate transpose, by columns
unfoldable pub matrix_of : ℕ → ℕ → (ℕ → ℕ → ℕ → ℕ → Complex) → List Float
matrix_of bl br th = rows 2 (λ j. rows br (λ b. rows bl (λ a. numbers 2 (λ i. th a i j b))))

unfoldable pub adjoint_of : ℕ → ℕ → (ℕ → ℕ → ℕ → ℕ → Complex) → List Float
adjoint_of bl br th = rows bl (λ a. rows 2 (λ i. rows 2 (λ j. numbers br (λ b. conj_c (th a i j b)))))

unfoldable pub pair_svd : Float → ℕ → ℕ → ℕ → List (List Complex) → List Float → List Float → Svd
pair_svd clamp bl mid br gate left right =
    let th = gated_theta gate mid br left right in
    svd clamp (2 * bl) (2 * br) (matrix_of bl br th) (adjoint_of bl br th)

-- ---- the four ways to write a site from factors of which chi values are kept

-- columns of an isometry, as rows of a site of right bond chi (fill_isometry_site_data); times the values (fill_scaled_u_site_data)
unfoldable pub isometry_site : ℕ → ℕ → (ℕ → ℕ → Complex) → List Float
isometry_site bl chi u = rows (2 * bl) (λ r. numbers chi (λ g. u r g))

unfoldable pub scaled_site : ℕ → ℕ → (ℕ → ℕ → Complex) → (ℕ → Float) → List Float
scaled_site bl chi u s = rows (2 * bl) (λ r. numbers chi (λ g. scale_c (u r g) (s g)))

-- rows of V† (fill_vt_site_data); the full product of (s, +0) with them (fill_scaled_vt_data)
unfoldable pub vt_site : ℕ → ℕ → (ℕ → ℕ → Complex) → List Float
vt_site chi br vt = rows chi (λ g. numbers (2 * br) (λ c. vt g c))

unfoldable pub scaled_vt_site : ℕ → ℕ → (ℕ → ℕ → Complex) → (ℕ → Float) → List Float
scaled_vt_site chi br vt s = rows chi (λ g. numbers (2 * br) (λ c. mul_c (real (s g)) (vt g c)))

-- the sites of a cut: the side that carries the weight takes the values, and the other is an isometry
abbrev pub left_site : WeightSide → ℕ → ℕ → Svd → List Float
left_site Left bl chi d = scaled_site bl chi (u_at d) (value_at d)
left_site Right bl chi d = isometry_site bl chi (u_at d)

abbrev pub right_site : WeightSide → ℕ → ℕ → Svd → List Float
right_site Left chi br d = vt_site chi br (vt_at d)
right_site Right chi br d = scaled_vt_site chi br (vt_at d) (value_at d)
