-- Gates with one entry in each row and column: each moves bits and phases, each row has its entry in one column, and both hold of a product of two, and of a gate with equal entries.
use Rattle.std.specs.Prelude.{◌≡◌, refl, Bool, true, false, not, ◌&&◌, ◌||◌, cond, List, ℕ, ◌+◌, ◌*◌, ◌<◌, T, eqb, Float}
use Rattle.std.proofs.Common.{ap, sym, ◌∙◌, subst, arith, eqb→eq}
use Rattle.std.specs.Bool.{beq}
use Rattle.std.proofs.Math.Bool.{not-not}
use Rattle.std.specs.Float.{binary64, fin}
use Rattle.std.specs.Float.Ieee.{fits, neg, eq, up, down, of_bits}
use Rattle.std.specs.Float.Ieee.Fits.{and_l, and_r, and_i}
use Rattle.complex.specs.declared.Complex.{Complex}
use Rattle.complex.specs.Complex.{is_zero}
use Rattle.complex.specs.Loops.{each, every, every_at}
use Rattle.gates.specs.Gate.{entry, gate_of, entry_gate_of}
use Rattle.gates.specs.Named.{matrix_of, named_entry}
use Rattle.gates.specs.declared.NamedGate.{NamedGate}
use Rattle.gates.specs.declared.NamedGate.TheVariants.{Swap, Cx, Cz}
use Rattle.model.specs.Phases.{Phase, phase, ◌⊗◌, equals, is_phase}
use Rattle.model.specs.Machine.{lone_phase, monomial}
use Rattle.model.specs.Statements.Demand3.{F64}
use Rattle.model.specs.Statements.Product.{matrix_product, SameGate, GateF64}
use Rattle.model.proofs.Laws.Tests.{or_first, or_second}
use Rattle.model.proofs.Laws.Units.{Value, nought, unit, zero_of, shape, Is, num, spot, Moves, solid, is_path, is_value, is_solid, is_equal, nought_is, real_is, imaginary_is}
use Rattle.model.proofs.Laws.UnitFloats.{equal_zero, equal_one}
use Rattle.model.proofs.Laws.UnitCut.{moved_value, summed_is}
use Rattle.model.proofs.Laws.UnitGates.{num_below, monomial_moves}

-- ---- gates of binary64 numbers, by a computed test

abbrev pub fits_at : List (List Complex) → ℕ → ℕ → Bool
fits_at g r c = fits binary64 (entry g r c).re && fits binary64 (entry g r c).im

abbrev pub all_fit : List (List Complex) → Bool
all_fit g = every 4 (λ r. every 4 (λ c. fits_at g r c))

pub fit_entries : (g : List (List Complex)) → T (all_fit g) → GateF64 g
fit_entries g t r c hr hc =
    let h = every_at 4 (fits_at g r) c hc (every_at 4 (λ r. every 4 (fits_at g r)) r hr t) in
    (and_l (fits binary64 (entry g r c).re) (fits binary64 (entry g r c).im) h, and_r (fits binary64 (entry g r c).re) (fits binary64 (entry g r c).im) h)

pub named_fit : (name : NamedGate) → T (all_fit (matrix_of name))
unfolding every matrix_of named_entry gate_of neg of_bits fits
named_fit Swap = tt
named_fit Cx = tt
named_fit Cz = tt

-- ---- a number that equals a value is that value

-- what equals a zero of either sign equals +0
zero_either : (x : Float) (s : Bool) → T (eq x (zero_of s)) → T (eq x (zero_of false))
unfolding eq
zero_either lib.Ieee.nan s h = elim h [ ]
zero_either (lib.Ieee.inf _) s h = elim h [ ]
zero_either (fin r m e) s h =
    let a = m * up e * 1 in
    let l = and_l (eqb a (0 * down e)) (beq r s || eqb a 0) h in
    let z : a ≡ 0 = omega (arith, eqb→eq a (0 * down e) l) in
    and_i (eqb a (0 * down e)) (beq r false || eqb a 0) l (or_second (beq r false) (eqb a 0) (subst (λ (x : ℕ). T (eqb x 0)) (sym z) tt))

zero_same : (x : Float) → F64 x → (s : Bool) → T (eq x (zero_of s)) → (t : Bool) × (x ≡ zero_of t)
zero_same x f s h = equal_zero x f (zero_either x s h)

pub parts : (z w : Complex) → T (equals z w) → T (eq z.re w.re) × T (eq z.im w.im)
unfolding equals
parts z w h = (and_l (eq z.re w.re) (eq z.im w.im) h, and_r (eq z.re w.re) (eq z.im w.im) h)

same_value : (z : Complex) → F64 z.re × F64 z.im → (u : Value) (s t : Bool) → T (equals z (shape u s t)) → Is z u
same_value z f nought s t h = let k = parts z (shape nought s t) h in nought_is (zero_same z.re f.0 s k.0) (zero_same z.im f.1 t k.1)
same_value z f (unit (phase false n)) s t h = let k = parts z (shape (unit (phase false n)) s t) h in real_is n (equal_one n z.re f.0 k.0) (zero_same z.im f.1 t k.1)
same_value z f (unit (phase true n)) s t h = let k = parts z (shape (unit (phase true n)) s t) h in imaginary_is n (zero_same z.re f.0 s k.0) (equal_one n z.im f.1 k.1)

-- ---- one entry in each row

-- `spot` puts its value where this holds
abbrev pub hits : Bool → Bool → Bool → Bool → Bool
hits p q i j = beq p i && beq q j

pub hits_sym : (p q i j : Bool) → hits p q i j ≡ hits i j p q
hits_sym p q i j = λ k. sides p i k && sides q j k
  where
    sides : (x y : Bool) → beq x y ≡ beq y x
    sides false false = refl
    sides false true = refl
    sides true false = refl
    sides true true = refl

-- the entry of row i, j stands in the column `left i j`, `right i j`
pub record Columns (first second : Bool → Bool → Bool) : Type 0 where
  pub left : Bool → Bool → Bool
  pub right : Bool → Bool → Bool
  pub is : (i j a b : Bool) → hits (first a b) (second a b) i j ≡ hits (left i j) (right i j) a b

-- a gate that moves bits and phases, with one entry in each row
pub record Permutes (g : List (List Complex)) : Type 0 where
  pub moves : Moves g
  pub columns : Columns moves.first moves.second

-- whether a number is no zero
seen : (z : Complex) (c : Bool) (p : Phase) → Is z (cond c (unit p) nought) → not (is_zero z) ≡ c
seen z c p h = ap not (is_solid h) ∙ not-not (solid (cond c (unit p) nought)) ∙ go c
  where
    go : (c : Bool) → solid (cond c (unit p) nought) ≡ c
    go false = refl
    go true = refl

-- ---- of a gate that meets the machine's condition

abbrev transposed : List (List Complex) → List (List Complex)
transposed g = gate_of (λ r c. entry g c r)

transposed_monomial : (g : List (List Complex)) → T (monomial g) → T (monomial (transposed g))
unfolding monomial every each gate_of
transposed_monomial g m =
    let rows = every 4 (λ r. lone_phase (entry g r)) in
    let columns = every 4 (λ c. lone_phase (λ r. entry g r c)) in
    and_i columns rows (and_r rows columns m) (and_l rows columns m)

transposed_entry : (g : List (List Complex)) (r c : ℕ) → r < 4 → c < 4 → entry (transposed g) r c ≡ entry g c r
transposed_entry g r c h l = entry_gate_of (λ r c. entry g c r) r c h l

pub permutes : (g : List (List Complex)) → T (monomial g) → GateF64 g → Permutes g
permutes g m f = record { moves = G; columns = record { left = R.first; right = R.second; is = go } }
  where
    G : Moves g
    G = monomial_moves g m f

    R : Moves (transposed g)
    R = monomial_moves (transposed g) (transposed_monomial g m) (λ r c h l. rw (transposed_entry g r c h l) (f c r l h))

    go : (i j a b : Bool) → hits (G.first a b) (G.second a b) i j ≡ hits (R.first i j) (R.second i j) a b
    go i j a b =
        sym (seen (entry g (num i j) (num a b)) (hits (G.first a b) (G.second a b) i j) (G.by a b) (G.entries i j a b))
        ∙ ap (λ (z : Complex). not (is_zero z)) (sym (transposed_entry g (num a b) (num i j) (num_below a b) (num_below i j)))
        ∙ seen (entry (transposed g) (num a b) (num i j)) (hits (R.first i j) (R.second i j) a b) (R.by i j) (R.entries a b i j)

-- ---- of the product of two gates, the later one h on the left

module _ (h g : List (List Complex)) where
  pub product_entries : (H : Moves h) (G : Moves g) (i j a b : Bool) → Is (entry (matrix_product h g) (num i j) (num a b))
      (spot (H.first (G.first a b) (G.second a b)) (H.second (G.first a b) (G.second a b)) i j (unit (H.by (G.first a b) (G.second a b) ⊗ G.by a b)))
  unfolding each
  product_entries H G i j a b =
      is_path (entry_gate_of _ (num i j) (num a b) (num_below i j) (num_below a b))
      (is_value (moved_value (H.first (G.first a b) (G.second a b)) (H.second (G.first a b) (G.second a b)) i j (H.by (G.first a b) (G.second a b)) (G.by a b))
      (summed_is (λ p q. entry h (num i j) (num p q)) (λ p q. entry g (num p q) (num a b)) (λ p q. spot (H.first p q) (H.second p q) i j (unit (H.by p q))) (G.first a b) (G.second a b) (unit (G.by a b))
      (λ p q. H.entries i j p q) (λ p q. G.entries p q a b)))

  abbrev pub product_moves : Moves h → Moves g → Moves (matrix_product h g)
  product_moves H G = record {
    first = λ a b. H.first (G.first a b) (G.second a b);
    second = λ a b. H.second (G.first a b) (G.second a b);
    by = λ a b. H.by (G.first a b) (G.second a b) ⊗ G.by a b;
    entries = product_entries H G;
  }

  abbrev pub product_permutes : Permutes h → Permutes g → Permutes (matrix_product h g)
  product_permutes H G =
      let K = H.columns in
      let L = G.columns in
      record {
        moves = product_moves H.moves G.moves;
        columns = record {
          left = λ i j. L.left (K.left i j) (K.right i j);
          right = λ i j. L.right (K.left i j) (K.right i j);
          is = λ i j a b. K.is i j (G.moves.first a b) (G.moves.second a b)
              ∙ hits_sym (K.left i j) (K.right i j) (G.moves.first a b) (G.moves.second a b)
              ∙ L.is (K.left i j) (K.right i j) a b;
        };
      }

-- ---- of a gate with equal entries

module _ (p g : List (List Complex)) (f : GateF64 p) (s : SameGate p g) where
  pub same_entry : (G : Moves g) (i j a b : Bool) → Is (entry p (num i j) (num a b)) (spot (G.first a b) (G.second a b) i j (unit (G.by a b)))
  same_entry G i j a b =
      let z = G.entries i j a b in
      let x = entry p (num i j) (num a b) in
      same_value x (f (num i j) (num a b) (num_below i j) (num_below a b)) (spot (G.first a b) (G.second a b) i j (unit (G.by a b))) z.s z.t
      (subst (λ (w : Complex). T (equals x w)) z.path (s (num i j) (num a b) (num_below i j) (num_below a b)))

  abbrev pub same_permutes : Permutes g → Permutes p
  same_permutes G = record {
    moves = record { first = G.moves.first; second = G.moves.second; by = G.moves.by; entries = same_entry G.moves };
    columns = G.columns;
  }

-- ---- such a gate meets the machine's condition

unit_phase : (z : Complex) (p : Phase) → Is z (unit p) → T (is_phase z)
unfolding is_phase
unit_phase z (phase false false) h = let k = is_equal h in search (or_first, or_second)
unit_phase z (phase false true) h = let k = is_equal h in search (or_first, or_second)
unit_phase z (phase true false) h = let k = is_equal h in search (or_first, or_second)
unit_phase z (phase true true) h = let k = is_equal h in search (or_first, or_second)

plain : (z : Complex) (c : Bool) (p : Phase) → Is z (cond c (unit p) nought) → T (is_zero z || is_phase z)
plain z true p h = or_second (is_zero z) (is_phase z) (unit_phase z p h)
plain z false p h = or_first (is_zero z) (is_phase z) (subst (λ (b : Bool). T b) (sym (is_solid h)) tt)

-- a test of the four indices is one of all pairs of bits
every_num : (p : ℕ → Bool) → ((i j : Bool) → T (p (num i j))) → T (every 4 p)
unfolding every
every_num p h = and_i (p 0 && p 1 && p 2) (p 3) (and_i (p 0 && p 1) (p 2) (and_i (p 0) (p 1) (h false false) (h false true)) (h true false)) (h true true)

-- how many of four tests fail
abbrev tally : Bool → Bool → Bool → Bool → ℕ
tally w x y z = let add : Bool → ℕ → ℕ = λ b m. cond b m (m + 1) in add z (add y (add x (add w 0)))

-- four numbers of which one is a phase, and the others zeros
lone_phase_lem : (f : ℕ → Complex) (x y : Bool) (u : Bool → Bool → Phase) → ((i j : Bool) → Is (f (num i j)) (spot x y i j (unit (u i j)))) → T (lone_phase f)
unfolding each
lone_phase_lem f x y u h =
    let zero_at : (i j : Bool) → not (hits x y i j) ≡ is_zero (f (num i j)) = λ i j. ap not (sym (seen (f (num i j)) (hits x y i j) (u i j) (h i j))) ∙ not-not (is_zero (f (num i j))) in
    and_i (eqb (each 4 (λ k m. cond (is_zero (f k)) m (m + 1)) 0) 1) (every 4 (λ k. is_zero (f k) || is_phase (f k)))
    (subst (λ (n : ℕ). T (eqb n 1)) (λ i. tally (zero_at false false i) (zero_at false true i) (zero_at true false i) (zero_at true true i)) (go x y))
    (every_num (λ k. is_zero (f k) || is_phase (f k)) (λ i j. plain (f (num i j)) (hits x y i j) (u i j) (h i j)))
  where
    go : (x y : Bool) → T (eqb (tally (not (hits x y false false)) (not (hits x y false true)) (not (hits x y true false)) (not (hits x y true true))) 1)
    go false false = tt
    go false true = tt
    go true false = tt
    go true true = tt

pub permutes_monomial : (g : List (List Complex)) → Permutes g → T (monomial g)
unfolding monomial
permutes_monomial g P =
    let G = P.moves in
    let C = P.columns in
    and_i (every 4 (λ r. lone_phase (entry g r))) (every 4 (λ c. lone_phase (λ r. entry g r c)))
    (every_num (λ r. lone_phase (entry g r)) (λ i j. lone_phase_lem (entry g (num i j)) (C.left i j) (C.right i j) G.by
    (λ a b. is_value (ap (λ (c : Bool). cond c (unit (G.by a b)) nought) (C.is i j a b)) (G.entries i j a b))))
    (every_num (λ c. lone_phase (λ r. entry g r c)) (λ a b. lone_phase_lem (λ r. entry g r (num a b)) (G.first a b) (G.second a b) (λ i j. G.by a b) (λ i j. G.entries i j a b)))
