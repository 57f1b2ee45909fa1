-- What Vidal 2003 and Schollwöck 2011 say of a cut and of a move of the centre, over the definitions of Pair.antt, Cut.antt and Moves.antt.
-- Statements only; `Laws/CutLaws` and `Laws/MoveLaws` prove them.
use Rattle.std.specs.Prelude.{ℕ, ◌+◌, ◌-◌, ◌*◌, ◌≤◌, ◌<◌, min, max, ◌≡◌, ◌⊎◌, List, length, drop, Float, Some}
use Rattle.complex.specs.Complex.{add_c, mul_c, conj_c, scale_c, real, zero_c}
use Rattle.complex.specs.Loops.{sum_c}
use Rattle.complex.specs.Numbers.{at}
use Rattle.complex.specs.declared.Complex.{Complex}
use Rattle.gates.specs.Gate.{entry}
use Rattle.model.specs.declared.Chain.{Chain}
use Rattle.model.specs.Chain.{bond_left, bond_right, settings_of, labels_of, cut_totals_of}
use Rattle.model.specs.Slots.{State, store_room, slot_of, amplitude}
use Rattle.model.specs.Pair.{gated_theta, matrix_of, adjoint_of, isometry_site, scaled_site, vt_site, scaled_vt_site}
use Rattle.model.specs.Moves.{moved, established}
use Rattle.model.specs.Cut.{adjacent, rank_of}
use Rattle.model.specs.Statements.Soundness.{Sound}
use Rattle.model.specs.Statements.Demand1Cuts.{cut_svd}

-- ---- the matrix that a cut decomposes (Vidal 2003, equations 8 to 12; Schollwöck 2011, 4.3.1 and 7.1)

-- Θ(a, i, j, b): the sum over the middle bond, from g = 0 up, of left (a, i, g) times right (g, j, b)
abbrev pub theta_of : ℕ → ℕ → List Float → List Float → ℕ → ℕ → ℕ → ℕ → Complex
theta_of mid br left right a b i j = sum_c mid (λ g. mul_c (at left (a * (2 * mid) + i * mid + g)) (at right (g * (2 * br) + j * br + b))) zero_c

-- the gate's row 2 i + j times the four Θ, added in the order 00, 01, 10, 11
abbrev pub gated_of : List (List Complex) → (ℕ → ℕ → Complex) → ℕ → ℕ → Complex
gated_of gate th i j =
    let u : ℕ → Complex = entry gate (i * 2 + j) in
    add_c (add_c (add_c (add_c zero_c (mul_c (u 0) (th 0 0))) (mul_c (u 1) (th 0 1))) (mul_c (u 2) (th 1 0))) (mul_c (u 3) (th 1 1))

-- by columns, row 2 a + i and column j * br + b of the matrix; and the conjugate of it at the same row and column of the conjugate transpose's columns
pub record Element (gate : List (List Complex)) (bl mid br : ℕ) (left right : List Float) (a i j b : ℕ) : Type 0 where
  pub straight : at (matrix_of bl br (gated_theta gate mid br left right)) ((j * br + b) * (2 * bl) + (2 * a + i)) ≡ gated_of gate (theta_of mid br left right a b) i j
  pub adjoint : at (adjoint_of bl br (gated_theta gate mid br left right)) ((2 * a + i) * (2 * br) + (j * br + b)) ≡ conj_c (gated_of gate (theta_of mid br left right a b) i j)

unfoldable pub ElementLaw : Type 0
ElementLaw =
    (gate : List (List Complex)) (bl mid br : ℕ) (left right : List Float) (a i j b : ℕ) → a < bl → i < 2 → j < 2 → b < br
    → Element gate bl mid br left right a i j b

-- ---- the sites that a cut stores, by amplitude: U on the left, with the values or without, and V† on the right; there the values' factor is the complex (s, +0)

pub record Fills (bl br chi : ℕ) (u vt : ℕ → ℕ → Complex) (s : ℕ → Float) : Type 0 where
  pub left : (a i g : ℕ) → a < bl → i < 2 → g < chi → amplitude (isometry_site bl chi u) chi a i g ≡ u (2 * a + i) g
  pub left_scaled : (a i g : ℕ) → a < bl → i < 2 → g < chi → amplitude (scaled_site bl chi u s) chi a i g ≡ scale_c (u (2 * a + i) g) (s g)
  pub right : (g j b : ℕ) → g < chi → j < 2 → b < br → amplitude (vt_site chi br vt) br g j b ≡ vt g (j * br + b)
  pub right_scaled : (g j b : ℕ) → g < chi → j < 2 → b < br → amplitude (scaled_vt_site chi br vt s) br g j b ≡ mul_c (real (s g)) (vt g (j * br + b))

unfoldable pub FillLaw : Type 0
FillLaw = (bl br chi : ℕ) (u vt : ℕ → ℕ → Complex) (s : ℕ → Float) → Fills bl br chi u vt s

-- ---- the new bond of a cut is the rank that the rule keeps, in the records of both sites

abbrev pub Bond : Chain → ℕ → ℕ → Type 0
Bond c k b = (bond_right c k ≡ b) × (bond_left c (k + 1) ≡ b)

unfoldable pub BondLaw : Type 0
BondLaw =
    (gate : List (List Complex)) (k : ℕ) (s : State) → Sound s.chain → k + 1 < s.chain.num_qubits → (adjacent gate k s).refused ≡ 0
    → Bond (adjacent gate k s).state.chain k (rank_of s (cut_svd gate k s))

-- ---- a move of the centre (Schollwöck 2011, 4.4): no bond grows, only what lies between its two ends changes, and of the record nothing else but the centre

-- all of a record but its bonds and its centre
pub record AsBefore (c c' : Chain) : Type 0 where
  pub settings : settings_of c' ≡ settings_of c
  pub labels : labels_of c' ≡ labels_of c
  pub bits : c'.classical_bits ≡ c.classical_bits
  pub totals : cut_totals_of c' ≡ cut_totals_of c

-- the record c' that a move across the sites lo to hi makes of c: it is sound, no bond has grown, and the bonds that are not between lo and hi are those of c
pub record Narrowed (lo hi : ℕ) (c c' : Chain) : Type 0 where
  pub sound : Sound c'
  pub rest : AsBefore c c'
  pub left_most : (k : ℕ) → bond_left c' k ≤ bond_left c k
  pub right_most : (k : ℕ) → bond_right c' k ≤ bond_right c k
  pub left_apart : (k : ℕ) → (k ≤ lo) ⊎ (hi < k) → bond_left c' k ≡ bond_left c k
  pub right_apart : (k : ℕ) → (k < lo) ⊎ (hi ≤ k) → bond_right c' k ≡ bond_right c k

-- the store y that is x but for the slots lo to hi, of the n slots of cap d
pub record Apart (n d lo hi : ℕ) (x y : List Float) : Type 0 where
  pub slots : (k : ℕ) → (k < lo) ⊎ (hi < k) → slot_of d k y ≡ slot_of d k x
  pub past : drop (store_room n d) y ≡ drop (store_room n d) x
  pub long : length y ≡ length x

-- a move across the sites lo to hi, to the site `to`
pub record Moved (lo hi to : ℕ) (s t : State) : Type 0 where
  pub centre : t.chain.center ≡ Some to
  pub chain : Narrowed lo hi s.chain t.chain
  pub store : (let n = s.chain.num_qubits in
      let d = s.chain.max_bond_dim in
      store_room n d ≤ length s.store → Apart n d lo hi s.store t.store)

unfoldable pub MoveLaw : Type 0
MoveLaw = (from to : ℕ) (s : State) → Sound s.chain → from < s.chain.num_qubits → to < s.chain.num_qubits → Moved (min from to) (max from to) to s (moved from to s)

-- where none is recorded, a centre is established across every site
unfoldable pub EstablishLaw : Type 0
EstablishLaw = (to : ℕ) (s : State) → Sound s.chain → to < s.chain.num_qubits → Moved 0 (s.chain.num_qubits - 1) to s (established to s)
