-- Moves of the orthogonality centre by QR steps (Schollwöck 2011, 4.4; shift_center_right, shift_center_left, move_center, establish_center, prepare_center).
use Rattle.std.specs.Prelude.{ℕ, zero, suc, ◌+◌, ◌-◌, ◌*◌, cond, List, leb, Float, Option, None, Some}
use Rattle.complex.specs.Complex.{mul_c, conj_c, zero_c}
use Rattle.complex.specs.Loops.{sum_c}
use Rattle.complex.specs.Numbers.{at, numbers}
use Rattle.complex.specs.Matrix.{rows}
use Rattle.complex.specs.declared.Complex.{Complex}
use Rattle.model.specs.Chain.{with_bond, with_center}
use Rattle.model.specs.Slots.{State, held, lefts, rights, site_at, with_site}
use Rattle.model.specs.Qr.{Kept, qr, entry_at}
use Rattle.model.specs.Pair.{isometry_site, vt_site}
use Rattle.model.specs.declared.WeightSide.{WeightSide}
use Rattle.model.specs.declared.WeightSide.TheVariants.{Left, Right}

-- the elements of q and of r
abbrev pub q_at : ℕ → Kept → ℕ → ℕ → Complex
q_at high f r g = at f.w (g * high + r)

abbrev pub r_at : ℕ → ℕ → Kept → ℕ → ℕ → Complex
r_at high wide f g d = at f.w (entry_at high wide g d)

-- two neighbours, k and k + 1, written with their common bond
abbrev pub pair_stored : ℕ → List Float → ℕ → List Float → State → State
pair_stored k left bond right s =
    let d = s.chain.max_bond_dim in
    held (with_bond s.chain k bond) (with_site d (k + 1) right (with_site d k left s.store))

-- ---- to the right: site k keeps q across its right bond, and r is multiplied into site k + 1

-- the site as a matrix of 2 bl rows and `bond` columns, by columns
abbrev pub right_matrix : ℕ → ℕ → List Float → List Float
right_matrix bl bond site = rows bond (λ g. numbers (2 * bl) (λ r. at site (r * bond + g)))

unfoldable pub absorbed_right : ℕ → ℕ → ℕ → Kept → List Float → List Float
absorbed_right bl bond br f next =
    rows f.rank (λ g. numbers (2 * br) (λ c. sum_c bond (λ d. mul_c (r_at (2 * bl) bond f g d) (at next (d * (2 * br) + c))) zero_c))

abbrev pub right_from : ℕ → ℕ → ℕ → ℕ → State → Kept → State
right_from k bl bond br s f = pair_stored k (isometry_site bl f.rank (q_at (2 * bl) f)) f.rank (absorbed_right bl bond br f (site_at s (k + 1))) s

unfoldable pub step_right : ℕ → State → State
step_right k s =
    let bl = lefts s k in
    let bond = rights s k in
    right_from k bl bond (rights s (k + 1)) s (qr (2 * bl) bond (right_matrix bl bond (site_at s k)))

-- ---- to the left: the same of the conjugate transpose; site k + 1 keeps q†, and r† is multiplied into site k

-- the conjugate transpose of the site of `bond` rows and 2 br columns, by columns
abbrev pub left_matrix : ℕ → ℕ → List Float → List Float
left_matrix bond br site = rows bond (λ g. numbers (2 * br) (λ c. conj_c (at site (g * (2 * br) + c))))

unfoldable pub absorbed_left : ℕ → ℕ → ℕ → Kept → List Float → List Float
absorbed_left bl bond br f prev =
    rows (2 * bl) (λ r. numbers f.rank (λ g. sum_c bond (λ d. mul_c (at prev (r * bond + d)) (conj_c (r_at (2 * br) bond f g d))) zero_c))

abbrev pub left_from : ℕ → ℕ → ℕ → ℕ → State → Kept → State
left_from k bl bond br s f = pair_stored k (absorbed_left bl bond br f (site_at s k)) f.rank (vt_site f.rank br (λ g c. conj_c (q_at (2 * br) f c g))) s

-- from site k + 1 to site k
unfoldable pub step_left : ℕ → State → State
step_left k s =
    let bond = lefts s (k + 1) in
    let br = rights s (k + 1) in
    left_from k (lefts s k) bond br s (qr (2 * br) bond (left_matrix bond br (site_at s (k + 1))))

-- ---- walks: n steps to the right from site k, and n to the left from site k

unfoldable pub walk_right : ℕ → ℕ → State → State
walk_right zero k s = s
walk_right (suc n) k s = walk_right n (k + 1) (step_right k s)

unfoldable pub walk_left : ℕ → ℕ → State → State
walk_left zero k s = s
walk_left (suc n) k s = walk_left n (k - 1) (step_left (k - 1) s)

abbrev pub centered : ℕ → State → State
centered to s = held (with_center s.chain (Some to)) s.store

-- the centre goes from one site to another (move_center)
unfoldable pub moved : ℕ → ℕ → State → State
moved from to s = centered to (walk_left (from - to) from (walk_right (to - from) from s))

-- a centre at `to` where none is recorded: first to the end away from `to`, across every site (establish_center)
unfoldable pub established : ℕ → State → State
established to s =
    let last = s.chain.num_qubits - 1 in
    cond (leb (2 * to) last) (moved 0 to (moved last 0 s)) (moved last to (moved 0 last s))

-- the centre onto site k, from where it is (born_weights)
abbrev pub centered_on : ℕ → Option ℕ → State → State
centered_on k None s = established k s
centered_on k (Some from) s = moved from k s

-- the centre onto the pair k, k + 1, and the side that the cut shall leave it on (prepare_center)
pub record Prepared : Type 0 where
  pub side : WeightSide
  pub state : State

abbrev pub prepared : WeightSide → State → Prepared
prepared side s = record { side = side; state = s }

abbrev pub prepared_on : ℕ → Option ℕ → State → Prepared
prepared_on k None s = prepared Right (established k s)
prepared_on k (Some from) s = cond (leb from k) (prepared Right (moved from k s)) (prepared Left (moved from (k + 1) s))
