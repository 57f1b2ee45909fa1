-- The five values 0, 1, -1, i and -i; when a complex number is one of them, zeros of either sign counting as zero; and what the definitions do to such numbers, exactly.
-- Each law of the arithmetic is one computed test over all values and all signs of their zeros.
use Rattle.std.specs.Prelude.{◌≡◌, refl, Bool, true, false, not, ◌&&◌, cond, List, ℕ, ◌+◌, ◌*◌, pos, negsuc, T, eqb, Float}
use Rattle.std.proofs.Common.{ap, sym, ◌∙◌, subst, eqb→eq}
use Rattle.std.specs.Bool.{beq}
use Rattle.std.specs.Float.{nan, inf, fin, binary64}
use Rattle.std.specs.Float.Ieee.{fits, add, sub, mul, neg, lt, le, eq, of_bits}
use Rattle.std.specs.Float.Ieee.Fits.{and_l, and_r}
use Rattle.complex.specs.declared.Complex.{Complex}
use Rattle.complex.specs.Complex.{add_c, mul_c, conj_c, norm_sqr, scale_c, is_zero, real, zero_c, zero_f, one_f}
use Rattle.gates.specs.Gate.{entry}
use Rattle.model.specs.Slots.{amplitude}
use Rattle.model.specs.Born.{bit_of}
use Rattle.model.specs.Phases.{Phase, phase, one, ◌⊗◌, phase_c, equals, read_phase}

-- ---- values

pub data Value : Type 0 where
  nought : Value
  unit : Phase → Value

-- the zero and the one of a sign
abbrev pub zero_of : Bool → Float
zero_of s = fin s 0 (pos 0)

abbrev pub one_of : Bool → Float
one_of n = fin n 1 (pos 0)

-- a value, with the signs of the parts that are zero
abbrev pub shape : Value → Bool → Bool → Complex
shape nought s t = record { re = zero_of s; im = zero_of t }
shape (unit (phase false n)) s t = record { re = one_of n; im = zero_of t }
shape (unit (phase true n)) s t = record { re = zero_of s; im = one_of n }

-- z is the value u, its zeros having whatever signs
pub record Is (z : Complex) (u : Value) : Type 0 where
  pub s : Bool
  pub t : Bool
  pub path : z ≡ shape u s t

abbrev pub times : Value → Value → Value
times nought v = nought
times (unit p) nought = nought
times (unit p) (unit q) = unit (p ⊗ q)

abbrev pub bar : Phase → Phase
bar (phase false n) = phase false n
bar (phase true n) = phase true (not n)

abbrev pub conjugate : Value → Value
conjugate nought = nought
conjugate (unit p) = unit (bar p)

-- the squared modulus
abbrev pub size : Value → Float
size nought = zero_f
size (unit p) = one_f

-- ---- sites and gates of such values

-- a site of bonds 1: the unit p at bit b, and zero at the other
abbrev pub Holds : List Float → Bool → Phase → Type 0
Holds site b p = (i : Bool) → Is (amplitude site 1 0 (bit_of i) 0) (cond (beq b i) (unit p) nought)

-- the index of two bits, and what stands at (i, j) of four where x stands at (p, q) alone
abbrev pub num : Bool → Bool → ℕ
num first second = 2 * bit_of first + bit_of second

abbrev pub spot : Bool → Bool → Bool → Bool → Value → Value
spot p q i j x = cond (beq p i && beq q j) x nought

-- a gate that takes the bits a, b to first a b, second a b, and multiplies by a phase
pub record Moves (gate : List (List Complex)) : Type 0 where
  pub first : Bool → Bool → Bool
  pub second : Bool → Bool → Bool
  pub by : Bool → Bool → Phase
  pub entries : (i j a b : Bool) → Is (entry gate (num i j) (num a b)) (spot (first a b) (second a b) i j (unit (by a b)))

-- a value of binary64, at least 0 and below 1: epsilon, the clamp, a draw
pub record Fraction (x : Float) : Type 0 where
  pub fit : T (fits binary64 x)
  pub least : T (le zero_f x)
  pub below : T (lt x one_f)

-- ---- tests over all values and all signs of their zeros

abbrev pub is_zero_of : Float → Bool
is_zero_of nan = false
is_zero_of (inf s) = false
is_zero_of (fin s m (pos k)) = eqb m 0 && eqb k 0
is_zero_of (fin s m (negsuc k)) = false

abbrev pub is_one_of : Bool → Float → Bool
is_one_of n nan = false
is_one_of n (inf s) = false
is_one_of n (fin s m (pos k)) = beq s n && eqb m 1 && eqb k 0
is_one_of n (fin s m (negsuc k)) = false

abbrev pub test : Complex → Value → Bool
test z nought = is_zero_of z.re && is_zero_of z.im
test z (unit (phase false n)) = is_one_of n z.re && is_zero_of z.im
test z (unit (phase true n)) = is_zero_of z.re && is_one_of n z.im

abbrev pub both : (Bool → Bool) → Bool
both f = f false && f true

pub both_at : (f : Bool → Bool) → T (both f) → (b : Bool) → T (f b)
both_at f h false = and_l (f false) (f true) h
both_at f h true = and_r (f false) (f true) h

abbrev phases : (Phase → Bool) → Bool
phases f = both (λ i. both (λ n. f (phase i n)))

phases_at : (f : Phase → Bool) → T (phases f) → (p : Phase) → T (f p)
phases_at f h (phase i n) = both_at (λ n. f (phase i n)) (both_at (λ i. both (λ n. f (phase i n))) h i) n

-- f holds of all signs of zeros; and of every value besides
abbrev signs : (Bool → Bool → Bool) → Bool
signs f = both (λ s. both (λ t. f s t))

signs_at : (f : Bool → Bool → Bool) → T (signs f) → (s t : Bool) → T (f s t)
signs_at f h s t = both_at (f s) (both_at (λ s. both (f s)) h s) t

abbrev over : (Value → Bool → Bool → Bool) → Bool
over f = signs (f nought) && phases (λ p. signs (f (unit p)))

over_at : (f : Value → Bool → Bool → Bool) → T (over f) → (u : Value) (s t : Bool) → T (f u s t)
over_at f h nought = signs_at (f nought) (and_l (signs (f nought)) (phases (λ p. signs (f (unit p)))) h)
over_at f h (unit p) = signs_at (f (unit p)) (phases_at (λ p. signs (f (unit p))) (and_r (signs (f nought)) (phases (λ p. signs (f (unit p)))) h) p)

-- ---- what a test says

pub beq_eq : (a b : Bool) → T (beq a b) → a ≡ b
beq_eq false true h = elim h [ ]
beq_eq true false h = elim h [ ]
beq_eq false false h = refl
beq_eq true true h = refl

zero_of_lem : (x : Float) → T (is_zero_of x) → (s : Bool) × (x ≡ zero_of s)
zero_of_lem nan h = elim h [ ]
zero_of_lem (inf _) h = elim h [ ]
zero_of_lem (fin s m (negsuc _)) h = elim h [ ]
zero_of_lem (fin s m (pos k)) h = (s, λ i. fin s (eqb→eq m 0 (and_l (eqb m 0) (eqb k 0) h) i) (pos (eqb→eq k 0 (and_r (eqb m 0) (eqb k 0) h) i)))

one_of_lem : (n : Bool) (x : Float) → T (is_one_of n x) → x ≡ one_of n
one_of_lem n nan h = elim h [ ]
one_of_lem n (inf _) h = elim h [ ]
one_of_lem n (fin s m (negsuc _)) h = elim h [ ]
one_of_lem n (fin s m (pos k)) h =
    let h1 = and_l (beq s n && eqb m 1) (eqb k 0) h in
    λ i. fin (beq_eq s n (and_l (beq s n) (eqb m 1) h1) i) (eqb→eq m 1 (and_r (beq s n) (eqb m 1) h1) i) (pos (eqb→eq k 0 (and_r (beq s n && eqb m 1) (eqb k 0) h) i))

-- a zero, and a phase, by its parts
pub nought_is : {z : Complex} (a : (s : Bool) × (z.re ≡ zero_of s)) (b : (t : Bool) × (z.im ≡ zero_of t)) → Is z nought
nought_is a b = record { s = a.0; t = b.0; path = λ i. record { re = a.1 i; im = b.1 i } }

pub real_is : {z : Complex} (n : Bool) → z.re ≡ one_of n → (b : (t : Bool) × (z.im ≡ zero_of t)) → Is z (unit (phase false n))
real_is n a b = record { s = false; t = b.0; path = λ i. record { re = a i; im = b.1 i } }

pub imaginary_is : {z : Complex} (n : Bool) (a : (s : Bool) × (z.re ≡ zero_of s)) → z.im ≡ one_of n → Is z (unit (phase true n))
imaginary_is n a b = record { s = a.0; t = false; path = λ i. record { re = a.1 i; im = b i } }

pub tested : (z : Complex) (u : Value) → T (test z u) → Is z u
tested z nought h = nought_is (zero_of_lem z.re (and_l (is_zero_of z.re) (is_zero_of z.im) h)) (zero_of_lem z.im (and_r (is_zero_of z.re) (is_zero_of z.im) h))
tested z (unit (phase false n)) h = real_is n (one_of_lem n z.re (and_l (is_one_of n z.re) (is_zero_of z.im) h)) (zero_of_lem z.im (and_r (is_one_of n z.re) (is_zero_of z.im) h))
tested z (unit (phase true n)) h = imaginary_is n (zero_of_lem z.re (and_l (is_zero_of z.re) (is_one_of n z.im) h)) (one_of_lem n z.im (and_r (is_zero_of z.re) (is_one_of n z.im) h))

-- ---- carried along equations

pub is_path : {z w : Complex} {u : Value} → z ≡ w → Is w u → Is z u
is_path e p = record { s = p.s; t = p.t; path = e ∙ p.path }

pub is_value : {z : Complex} {u v : Value} → u ≡ v → Is z u → Is z v
is_value {z} e p = subst (λ (y : Value). Is z y) e p

pub is_shape : (u : Value) (s t : Bool) → Is (shape u s t) u
is_shape u s t = record { s = s; t = t; path = refl }

pub zero_nought : Is zero_c nought
unfolding of_bits
zero_nought = is_shape nought false false

pub one_unit : Is (real one_f) (unit one)
unfolding of_bits
one_unit = is_shape (unit one) false false

-- ---- arithmetic

abbrev mul_test : Value → Bool → Bool → Value → Bool → Bool → Bool
mul_test u s t v s' t' = test (mul_c (shape u s t) (shape v s' t')) (times u v)

mul_test_lem : T (over (λ u s t. over (mul_test u s t)))
unfolding mul_c add sub mul neg
mul_test_lem = tt

pub is_mul : {z w : Complex} {u v : Value} → Is z u → Is w v → Is (mul_c z w) (times u v)
is_mul {u = u} {v = v} p q =
    is_path (λ i. mul_c (p.path i) (q.path i))
    (tested _ (times u v) (over_at (mul_test u p.s p.t) (over_at (λ u s t. over (mul_test u s t)) mul_test_lem u p.s p.t) v q.s q.t))

-- a zero of the signs s, t before, and after, a value
abbrev before_test : Bool → Bool → Value → Bool → Bool → Bool
before_test s t u s' t' = test (add_c (shape nought s t) (shape u s' t')) u

abbrev after_test : Bool → Bool → Value → Bool → Bool → Bool
after_test s t u s' t' = test (add_c (shape u s' t') (shape nought s t)) u

before_test_lem : T (signs (λ s t. over (before_test s t)))
unfolding add_c add
before_test_lem = tt

after_test_lem : T (signs (λ s t. over (after_test s t)))
unfolding add_c add
after_test_lem = tt

pub nought_add : {z w : Complex} {u : Value} → Is z nought → Is w u → Is (add_c z w) u
nought_add {u = u} p q =
    is_path (λ i. add_c (p.path i) (q.path i))
    (tested _ u (over_at (before_test p.s p.t) (signs_at (λ s t. over (before_test s t)) before_test_lem p.s p.t) u q.s q.t))

pub add_nought : {z w : Complex} {u : Value} → Is z u → Is w nought → Is (add_c z w) u
add_nought {u = u} p q =
    is_path (λ i. add_c (p.path i) (q.path i))
    (tested _ u (over_at (after_test q.s q.t) (signs_at (λ s t. over (after_test s t)) after_test_lem q.s q.t) u p.s p.t))

abbrev conj_test : Value → Bool → Bool → Bool
conj_test u s t = test (conj_c (shape u s t)) (conjugate u)

conj_test_lem : T (over conj_test)
unfolding conj_c neg
conj_test_lem = tt

pub is_conj : {z : Complex} {u : Value} → Is z u → Is (conj_c z) (conjugate u)
is_conj {u = u} p = is_path (λ i. conj_c (p.path i)) (tested _ (conjugate u) (over_at conj_test conj_test_lem u p.s p.t))

abbrev scale_test : Value → Bool → Bool → Bool
scale_test u s t = test (scale_c (shape u s t) one_f) u

scale_test_lem : T (over scale_test)
unfolding scale_c mul of_bits
scale_test_lem = tt

pub is_scale : {z : Complex} {u : Value} → Is z u → Is (scale_c z one_f) u
is_scale {u = u} p = is_path (λ i. scale_c (p.path i) one_f) (tested _ u (over_at scale_test scale_test_lem u p.s p.t))

size_shape : (u : Value) (s t : Bool) → norm_sqr (shape u s t) ≡ size u
unfolding norm_sqr add mul of_bits
size_shape nought false false = refl
size_shape nought false true = refl
size_shape nought true false = refl
size_shape nought true true = refl
size_shape (unit (phase false false)) s false = refl
size_shape (unit (phase false false)) s true = refl
size_shape (unit (phase false true)) s false = refl
size_shape (unit (phase false true)) s true = refl
size_shape (unit (phase true false)) false t = refl
size_shape (unit (phase true false)) true t = refl
size_shape (unit (phase true true)) false t = refl
size_shape (unit (phase true true)) true t = refl

pub is_size : {z : Complex} {u : Value} → Is z u → norm_sqr z ≡ size u
is_size {u = u} p = (λ i. norm_sqr (p.path i)) ∙ size_shape u p.s p.t

-- ---- phases multiply as a commutative group, and values with them

abbrev same : Phase → Phase → Bool
same (phase i m) (phase j n) = beq i j && beq m n

same_eq : (p q : Phase) → T (same p q) → p ≡ q
same_eq (phase i m) (phase j n) h = λ k. phase (beq_eq i j (and_l (beq i j) (beq m n) h) k) (beq_eq m n (and_r (beq i j) (beq m n) h) k)

pub assoc : (p q r : Phase) → (p ⊗ q) ⊗ r ≡ p ⊗ (q ⊗ r)
assoc p q r =
    same_eq ((p ⊗ q) ⊗ r) (p ⊗ (q ⊗ r))
    (phases_at (λ r. same ((p ⊗ q) ⊗ r) (p ⊗ (q ⊗ r))) (phases_at (λ q. phases (λ r. same ((p ⊗ q) ⊗ r) (p ⊗ (q ⊗ r)))) (phases_at (λ p. phases (λ q. phases (λ r. same ((p ⊗ q) ⊗ r) (p ⊗ (q ⊗ r))))) tt p) q) r)

pub comm : (p q : Phase) → p ⊗ q ≡ q ⊗ p
comm p q = same_eq (p ⊗ q) (q ⊗ p) (phases_at (λ q. same (p ⊗ q) (q ⊗ p)) (phases_at (λ p. phases (λ q. same (p ⊗ q) (q ⊗ p))) tt p) q)

pub one_left : (p : Phase) → one ⊗ p ≡ p
one_left p = same_eq (one ⊗ p) p (phases_at (λ p. same (one ⊗ p) p) tt p)

pub one_right : (p : Phase) → p ⊗ one ≡ p
one_right p = same_eq (p ⊗ one) p (phases_at (λ p. same (p ⊗ one) p) tt p)

pub bar_bar : (p : Phase) → bar (bar p) ≡ p
bar_bar p = same_eq (bar (bar p)) p (phases_at (λ p. same (bar (bar p)) p) tt p)

pub times_nought : (u : Value) → times u nought ≡ nought
times_nought nought = refl
times_nought (unit p) = refl

pub times_left : (u : Value) → times (unit one) u ≡ u
times_left nought = refl
times_left (unit p) = ap unit (one_left p)

pub times_right : (u : Value) → times u (unit one) ≡ u
times_right nought = refl
times_right (unit p) = ap unit (one_right p)

pub mul_nought : {z w : Complex} {u : Value} → Is z u → Is w nought → Is (mul_c z w) nought
mul_nought {u = u} p q = is_value (times_nought u) (is_mul p q)

pub one_mul : {z : Complex} {u : Value} → Is z u → Is (mul_c (real one_f) z) u
one_mul {u = u} p = is_value (times_left u) (is_mul one_unit p)

pub mul_one : {z : Complex} {u : Value} → Is z u → Is (mul_c z (real one_f)) u
mul_one {u = u} p = is_value (times_right u) (is_mul p one_unit)

-- ---- such a number read

abbrev pub solid : Value → Bool
solid nought = false
solid (unit p) = true

abbrev solid_test : Value → Bool → Bool → Bool
solid_test u s t = beq (is_zero (shape u s t)) (not (solid u))

solid_test_lem : T (over solid_test)
unfolding is_zero eq of_bits
solid_test_lem = tt

pub is_solid : {z : Complex} {u : Value} → Is z u → is_zero z ≡ not (solid u)
is_solid {u = u} p = (λ i. is_zero (p.path i)) ∙ beq_eq _ (not (solid u)) (over_at solid_test solid_test_lem u p.s p.t)

phase_shape : (p : Phase) (s t : Bool) → read_phase (shape (unit p) s t) ≡ p
unfolding read_phase eq lt of_bits
phase_shape (phase false false) s t = refl
phase_shape (phase false true) s t = refl
phase_shape (phase true false) false t = refl
phase_shape (phase true false) true t = refl
phase_shape (phase true true) false t = refl
phase_shape (phase true true) true t = refl

pub is_phase_lem : {z : Complex} {p : Phase} → Is z (unit p) → read_phase z ≡ p
is_phase_lem {p = p} h = (λ i. read_phase (h.path i)) ∙ phase_shape p h.s h.t

abbrev equal_test : Phase → Bool → Bool → Bool
equal_test p s t = equals (shape (unit p) s t) (phase_c p)

equal_test_lem : T (phases (λ p. signs (equal_test p)))
unfolding equals eq of_bits neg
equal_test_lem = tt

pub is_equal : {z : Complex} {p : Phase} → Is z (unit p) → T (equals z (phase_c p))
is_equal {p = p} h =
    subst (λ (z : Complex). T (equals z (phase_c p))) (sym h.path) (signs_at (equal_test p) (phases_at (λ p. signs (equal_test p)) equal_test_lem p) h.s h.t)
