-- Gates that only move bits and phases: the named ones, a gate with its qubits exchanged, and every gate that meets the machine's condition; and how the machine reads them.
use Rattle.std.specs.Prelude.{Bool, not, ◌&&◌, ◌||◌, ◌≡◌, List, ℕ, ◌+◌, ◌/◌, ◌%◌, ◌<◌, eqb}
use Rattle.std.proofs.Math.Bool.{true, false, cond, and_comm}
use Rattle.std.specs.Bool.{beq}
use Rattle.std.proofs.Math.Path.{refl}
use Rattle.std.proofs.Common.{ap, ◌∙◌, subst, lit<}
use Rattle.std.proofs.Math.Dec.{T}
use Rattle.std.specs.Float.Ieee.{neg, eq, of_bits}
use Rattle.std.specs.Float.Ieee.Fits.{and_l, and_r}
use Rattle.complex.specs.declared.Complex.{Complex}
use Rattle.complex.specs.Complex.{is_zero}
use Rattle.complex.specs.Loops.{each, every, every_at}
use Rattle.gates.specs.Gate.{entry, gate_of, swap_gate_qubits, swap_bits, entry_swapped}
use Rattle.gates.specs.Named.{matrix_of, named_entry}
use Rattle.gates.specs.declared.NamedGate.{NamedGate}
use Rattle.gates.specs.declared.NamedGate.TheVariants.{Swap, Cx, Cz}
use Rattle.model.specs.Phases.{Phase, phase, one, phase_c, equals, is_phase, read_phase}
use Rattle.model.specs.Machine.{nonzero_row, lone_phase, monomial}
use Rattle.model.specs.Statements.Demand3.{F64}
use Rattle.model.proofs.Laws.Units.{Value, nought, unit, zero_of, one_of, Is, num, spot, Moves, solid, test, tested, both, both_at, is_path, is_value, is_solid, is_phase_lem, nought_is, real_is, imaginary_is}
use Rattle.model.proofs.Laws.UnitFloats.{equal_zero, equal_one}

-- ---- the named gates, by computing

-- a test over all pairs of indices
abbrev bits : (Bool → Bool → Bool → Bool → Bool) → Bool
bits f = both (λ i. both (λ j. both (λ a. both (λ b. f i j a b))))

bits_at : (f : Bool → Bool → Bool → Bool → Bool) → T (bits f) → (i j a b : Bool) → T (f i j a b)
bits_at f h i j a b = both_at (f i j a) (both_at (λ a. both (f i j a)) (both_at (λ j. both (λ a. both (f i j a))) (both_at (λ i. both (λ j. both (λ a. both (f i j a)))) h i) j) a) b

-- the swap exchanges the bits; Cx flips the second where the first is 1; Cz multiplies by -1 where both are 1
abbrev pub named_first : NamedGate → Bool → Bool → Bool
named_first Swap a b = b
named_first Cx a b = a
named_first Cz a b = a

abbrev pub named_second : NamedGate → Bool → Bool → Bool
named_second Swap a b = a
named_second Cx a b = cond a (not b) b
named_second Cz a b = b

abbrev pub named_by : NamedGate → Bool → Bool → Phase
named_by Swap a b = one
named_by Cx a b = one
named_by Cz a b = phase false (a && b)

abbrev named_test : NamedGate → Bool → Bool → Bool → Bool → Bool
named_test name i j a b = test (entry (matrix_of name) (num i j) (num a b)) (spot (named_first name a b) (named_second name a b) i j (unit (named_by name a b)))

named_test_lem : (name : NamedGate) → T (bits (named_test name))
unfolding matrix_of named_entry gate_of neg of_bits
named_test_lem Swap = tt
named_test_lem Cx = tt
named_test_lem Cz = tt

pub named_entries : (name : NamedGate) (i j a b : Bool)
    → Is (entry (matrix_of name) (num i j) (num a b)) (spot (named_first name a b) (named_second name a b) i j (unit (named_by name a b)))
named_entries name i j a b = tested _ _ (bits_at (named_test name) (named_test_lem name) i j a b)

abbrev pub named_moves : (name : NamedGate) → Moves (matrix_of name)
named_moves name = record { first = named_first name; second = named_second name; by = named_by name; entries = named_entries name }

abbrev pub swap_moves : Moves (matrix_of Swap)
swap_moves = named_moves Swap

-- ---- indices

pub num_below : (a b : Bool) → num a b < 4
num_below false false = lit< tt
num_below false true = lit< tt
num_below true false = lit< tt
num_below true true = lit< tt

num_swapped : (a b : Bool) → swap_bits (num a b) ≡ num b a
num_swapped false false = refl
num_swapped false true = refl
num_swapped true false = refl
num_swapped true true = refl

pub num_first : (a b : Bool) → eqb (num a b / 2) 1 ≡ a
num_first false false = refl
num_first false true = refl
num_first true false = refl
num_first true true = refl

pub num_second : (a b : Bool) → eqb (num a b % 2) 1 ≡ b
num_second false false = refl
num_second false true = refl
num_second true false = refl
num_second true true = refl

-- ---- a gate for its two qubits in the other order

spot_swapped : (p q i j : Bool) (x : Value) → spot p q i j x ≡ spot q p j i x
spot_swapped p q i j x = ap (λ (c : Bool). cond c x nought) (and_comm (beq p i) (beq q j))

pub exchanged_entries : (g : List (List Complex)) (G : Moves g) (i j a b : Bool)
    → Is (entry (swap_gate_qubits g) (num i j) (num a b)) (spot (G.second b a) (G.first b a) i j (unit (G.by b a)))
exchanged_entries g G i j a b =
    is_path (entry_swapped g (num i j) (num a b) (num_below i j) (num_below a b) ∙ (λ k. entry g (num_swapped i j k) (num_swapped a b k)))
    (is_value (spot_swapped (G.first b a) (G.second b a) j i (unit (G.by b a))) (G.entries j i b a))

abbrev pub exchanged_moves : (g : List (List Complex)) → Moves g → Moves (swap_gate_qubits g)
exchanged_moves g G = record { first = λ a b. G.second b a; second = λ a b. G.first b a; by = λ a b. G.by b a; entries = exchanged_entries g G }

-- ---- how the machine reads a gate that moves

module _ (g : List (List Complex)) (G : Moves g) where
  pub row_moves : (a b : Bool) → nonzero_row g (num a b) ≡ num (G.first a b) (G.second a b)
  unfolding nonzero_row each
  row_moves a b =
      (λ k. cond (is_solid (G.entries true true a b) k) (cond (is_solid (G.entries true false a b) k) (cond (is_solid (G.entries false true a b) k) (cond (is_solid (G.entries false false a b) k) 0 0) 1) 2) 3)
      ∙ go (G.first a b) (G.second a b) (G.by a b)
    where
      go : (x y : Bool) (p : Phase)
          → cond (not (solid (spot x y true true (unit p)))) (cond (not (solid (spot x y true false (unit p)))) (cond (not (solid (spot x y false true (unit p)))) (cond (not (solid (spot x y false false (unit p)))) 0 0) 1) 2) 3
          ≡ num x y
      go false false p = refl
      go false true p = refl
      go true false p = refl
      go true true p = refl

  pub phase_moves : (a b : Bool) → read_phase (entry g (num (G.first a b) (G.second a b)) (num a b)) ≡ G.by a b
  phase_moves a b = is_phase_lem (is_value (own (G.first a b) (G.second a b)) (G.entries (G.first a b) (G.second a b) a b))
    where
      own : (x y : Bool) → spot x y x y (unit (G.by a b)) ≡ unit (G.by a b)
      own false false = refl
      own false true = refl
      own true false = refl
      own true true = refl

  -- as the machine has it: the two bits of the nonzero entry's row, and that entry's phase
  pub first_read : (a b : Bool) → eqb (nonzero_row g (num a b) / 2) 1 ≡ G.first a b
  first_read a b = rw row_moves (num_first (G.first a b) (G.second a b))

  pub second_read : (a b : Bool) → eqb (nonzero_row g (num a b) % 2) 1 ≡ G.second a b
  second_read a b = rw row_moves (num_second (G.first a b) (G.second a b))

  pub phase_read : (a b : Bool) → read_phase (entry g (nonzero_row g (num a b)) (num a b)) ≡ G.by a b
  phase_read a b = rw row_moves (phase_moves a b)

-- ---- the machine's condition: each number is a zero or a phase, and one in each column is a phase

any_of : {X : Type 0} (a b c d : Bool) → T (a || b || c || d) → (T a → X) → (T b → X) → (T c → X) → (T d → X) → X
any_of true b c d h w x y z = w tt
any_of false true c d h w x y z = x tt
any_of false false true d h w x y z = y tt
any_of {X = X} false false false false h w x y z = elim h [ ]
any_of false false false true h w x y z = z tt

-- the value that a number is
record Read (z : Complex) : Type 0 where
  value : Value
  is : Is z value

module _ (z : Complex) (fr : F64 z.re) (fi : F64 z.im) where
  zero_is : T (is_zero z) → Is z nought
  unfolding is_zero of_bits
  zero_is h = nought_is (equal_zero z.re fr (and_l (eq z.re (zero_of false)) (eq z.im (zero_of false)) h)) (equal_zero z.im fi (and_r (eq z.re (zero_of false)) (eq z.im (zero_of false)) h))

  real_value : (n : Bool) → T (eq z.re (one_of n) && eq z.im (zero_of false)) → Is z (unit (phase false n))
  real_value n h = real_is n (equal_one n z.re fr (and_l (eq z.re (one_of n)) (eq z.im (zero_of false)) h)) (equal_zero z.im fi (and_r (eq z.re (one_of n)) (eq z.im (zero_of false)) h))

  imaginary_value : (n : Bool) → T (eq z.re (zero_of false) && eq z.im (one_of n)) → Is z (unit (phase true n))
  imaginary_value n h = imaginary_is n (equal_zero z.re fr (and_l (eq z.re (zero_of false)) (eq z.im (one_of n)) h)) (equal_one n z.im fi (and_r (eq z.re (zero_of false)) (eq z.im (one_of n)) h))

  unit_value : T (is_phase z) → Read z
  unfolding is_phase equals neg of_bits
  unit_value h =
      any_of (equals z (phase_c (phase false false))) (equals z (phase_c (phase false true))) (equals z (phase_c (phase true false))) (equals z (phase_c (phase true true))) h
      (λ k. record { value = unit (phase false false); is = real_value false k })
      (λ k. record { value = unit (phase false true); is = real_value true k })
      (λ k. record { value = unit (phase true false); is = imaginary_value false k })
      (λ k. record { value = unit (phase true true); is = imaginary_value true k })

  value_of : T (is_zero z || is_phase z) → Read z
  value_of h = any_of false false (is_zero z) (is_phase z) h (λ k. absurd k) (λ k. absurd k) (λ k. record { value = nought; is = zero_is k }) unit_value

-- four values of which one is a phase
record Lone (w x y z : Value) : Type 0 where
  first : Bool
  second : Bool
  by : Phase
  is : (w ≡ spot first second false false (unit by)) × (x ≡ spot first second false true (unit by)) × (y ≡ spot first second true false (unit by)) × (z ≡ spot first second true true (unit by))

-- how many of the four numbers are no zeros, by the test of each
abbrev tally : Bool → Bool → Bool → Bool → ℕ
tally w x y z = each 4 (λ k m. cond (cond (eqb k 0) w (cond (eqb k 1) x (cond (eqb k 2) y z))) m (m + 1)) 0

lone : (w x y z : Value) → T (eqb (tally (not (solid w)) (not (solid x)) (not (solid y)) (not (solid z))) 1) → Lone w x y z
unfolding each
lone (unit p) nought nought nought h = record { first = false; second = false; by = p; is = (refl, refl, refl, refl) }
lone nought (unit p) nought nought h = record { first = false; second = true; by = p; is = (refl, refl, refl, refl) }
lone nought nought (unit p) nought h = record { first = true; second = false; by = p; is = (refl, refl, refl, refl) }
lone nought nought nought nought h = elim h [ ]
lone nought nought (unit p) (unit r) h = elim h [ ]
lone nought (unit p) nought (unit r) h = elim h [ ]
lone nought (unit p) (unit q) nought h = elim h [ ]
lone (unit p) nought nought (unit r) h = elim h [ ]
lone (unit p) nought (unit q) nought h = elim h [ ]
lone (unit p) (unit q) nought nought h = elim h [ ]
lone (unit p) (unit q) (unit r) nought h = elim h [ ]
lone nought nought nought (unit p) h = record { first = true; second = true; by = p; is = (refl, refl, refl, refl) }
lone nought (unit p) (unit q) (unit r) h = absurd h
lone (unit p) nought (unit q) (unit r) h = absurd h
lone (unit p) (unit q) nought (unit r) h = absurd h
lone (unit p) (unit q) (unit r) (unit s) h = absurd h

-- of one column
module _ (f : ℕ → Complex) (fit : (k : ℕ) → k < 4 → F64 (f k).re × F64 (f k).im) (h : T (lone_phase f)) where
  abbrev single : Bool
  single = eqb (each 4 (λ k m. cond (is_zero (f k)) m (m + 1)) 0) 1

  abbrev plain : ℕ → Bool
  plain k = is_zero (f k) || is_phase (f k)

  read : (k : ℕ) → k < 4 → Read (f k)
  read k l = value_of (f k) (fit k l).0 (fit k l).1 (every_at 4 plain k l (and_r single (every 4 plain) h))

  found : Lone (read 0 (lit< tt)).value (read 1 (lit< tt)).value (read 2 (lit< tt)).value (read 3 (lit< tt)).value
  unfolding each
  found = lone _ _ _ _ (subst (λ (n : ℕ). T (eqb n 1)) (λ k.
      tally (is_solid (read 0 (lit< tt)).is k) (is_solid (read 1 (lit< tt)).is k) (is_solid (read 2 (lit< tt)).is k) (is_solid (read 3 (lit< tt)).is k)) (and_l single (every 4 plain) h))

  found_is : (i j : Bool) → Is (f (num i j)) (spot found.first found.second i j (unit found.by))
  found_is false false = is_value found.is.0 (read 0 (lit< tt)).is
  found_is false true = is_value found.is.1 (read 1 (lit< tt)).is
  found_is true false = is_value found.is.2 (read 2 (lit< tt)).is
  found_is true true = is_value found.is.3 (read 3 (lit< tt)).is

module _ (g : List (List Complex)) (m : T (monomial g)) (fit : (r c : ℕ) → r < 4 → c < 4 → F64 (entry g r c).re × F64 (entry g r c).im) where
  abbrev column_of : Bool → Bool → ℕ → Complex
  column_of a b r = entry g r (num a b)

  fit_column : (a b : Bool) (k : ℕ) → k < 4 → F64 (column_of a b k).re × F64 (column_of a b k).im
  fit_column a b k l = fit k (num a b) l (num_below a b)

  column_lone : (a b : Bool) → T (lone_phase (column_of a b))
  unfolding monomial
  column_lone a b = every_at 4 (λ c. lone_phase (λ r. entry g r c)) (num a b) (num_below a b) (and_r (every 4 (λ r. lone_phase (entry g r))) (every 4 (λ c. lone_phase (λ r. entry g r c))) m)

  pub monomial_moves : Moves g
  monomial_moves = record {
    first = λ a b. (found (column_of a b) (fit_column a b) (column_lone a b)).first;
    second = λ a b. (found (column_of a b) (fit_column a b) (column_lone a b)).second;
    by = λ a b. (found (column_of a b) (fit_column a b) (column_lone a b)).by;
    entries = λ i j a b. found_is (column_of a b) (fit_column a b) (column_lone a b) i j;
  }
