-- Finite numbers, which are neither NaNs nor infinities, and gates of them.
use Rattle.std.specs.Prelude.{◌≡◌, refl, Bool, true, false, not, ◌&&◌, ◌||◌, List, ℕ, ◌*◌, ◌<◌, T, Float}
use Rattle.std.proofs.Common.{sym, ◌∙◌, le_refl, zero-mul, mul-pos, lit<, le-ltb}
use Rattle.std.specs.Bool.{beq}
use Rattle.std.proofs.Math.Nat.{sub_self, eq_of_mul-eq-mul_right}
use Rattle.std.specs.Float.{nan, inf, fin, binary64, float_is_finite}
use Rattle.std.specs.Float.Ieee.{up, down, round, sum, add, sub, neg, eq, of_bits}
use Rattle.std.specs.Float.Ieee.Exact.{HasValue, round_exact}
use Rattle.std.specs.Float.Ieee.Fits.{down_pos}
use Rattle.std.specs.Float.Ieee.Scale.{finite}
use Rattle.complex.specs.Complex.{zero_f}
use Rattle.complex.specs.Loops.{every, every_at}
use Rattle.complex.specs.declared.Complex.{Complex}
use Rattle.gates.specs.Gate.{entry}

-- both parts of a number are finite, and all parts of a gate's numbers
unfoldable pub finite_c : Complex → Bool
finite_c z = finite z.re && finite z.im

unfoldable pub all_finite : List (List Complex) → Bool
all_finite g = every 4 (λ r. every 4 (λ c. finite_c (entry g r c)))

-- ---- x is finite exactly if x - x is 0: of an infinity and of a NaN it is a NaN

zero_value : (x : Float) (s : Bool) (c : ℕ) → 0 < c → HasValue x s 0 c → eq x zero_f ≡ true
unfolding eq of_bits
zero_value nan s c p h = elim h [ ]
zero_value (inf _) s c p h = elim h [ ]
zero_value (fin t m e) s c p h =
    let z : m * up e ≡ 0 = eq_of_mul-eq-mul_right c p (m * up e) 0 (h.1 ∙ zero-mul (down e) ∙ sym (zero-mul c)) in
    rw (z, zero-mul (down e)) (either t)
  where
    either : (t : Bool) → (beq t false || true) ≡ true
    either false = refl
    either true = refl

-- 0 / c, rounded
pub zero_round : (s : Bool) (c : ℕ) → 0 < c → eq (round binary64 s 0 c) zero_f ≡ true
zero_round s c p = zero_value (round binary64 s 0 c) s c p (round_exact binary64 s 0 c 0 0 p (lit< tt) (lit< tt) (sym (zero-mul c)))

minus_self : (s : Bool) (a c : ℕ) → 0 < c → eq (sum binary64 s a (not s) a c) zero_f ≡ true
unfolding sum
minus_self false a c p = rw (le-ltb a a (le_refl a), sub_self) (zero_round false c p)
minus_self true a c p = rw (le-ltb a a (le_refl a), sub_self) (zero_round false c p)

pub finite_minus : (x : Float) → eq (sub binary64 x x) zero_f ≡ finite x
unfolding sub add neg eq
finite_minus nan = refl
finite_minus (inf false) = refl
finite_minus (inf true) = refl
finite_minus (fin s m e) = minus_self s (m * up e * down e) (down e * down e) (mul-pos (down_pos e) (down_pos e))

-- ---- laws

-- the library's test is this one
pub std_finite : (x : Float) → float_is_finite x ≡ finite x
unfolding float_is_finite
std_finite nan = refl
std_finite (inf s) = refl
std_finite (fin s m e) = refl

-- each element of a finite gate is finite
pub finite_entry : (g : List (List Complex)) (r c : ℕ) → r < 4 → c < 4 → T (all_finite g) → T (finite_c (entry g r c))
unfolding all_finite
finite_entry g r c h l t = every_at 4 _ c l (every_at 4 _ r h t)
