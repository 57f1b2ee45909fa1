-- Laws of `specs/Whole.antt`.
use Rattle.std.specs.Prelude.{◌≡◌, ℕ, zero, suc, ◌-◌, ◌*◌, ◌/◌, ◌^◌, ◌<◌, ◌≤◌, Bool, true, false, cond, not, T, nat_le}
use Rattle.std.proofs.Common.{subst, zero-le, le_antisymm, le_of_lt, le_of_suc-le-suc, lt_irrefl, lt_of_le_of_lt, lt_of_not-le, not-le_of_lt, mul-le-mul, mul-le-mul_left, mul-lt-mul_of_pos_right, pow-suc, div-lt_iff_lt-mul, zero-lt-suc, arith, leb→le}
use Rattle.std.proofs.Math.Dec.{nleb→lt}
use Rattle.root.specs.Whole.{whole_root, IsRoot, RootRest}

pub root_of_rest : (n w r : ℕ) → RootRest n w r → IsRoot n w
root_of_rest n w r R = record { low = omega (arith, R.value); high = omega (arith, R.value, R.rest) }

pub rest_of_root : (n w : ℕ) → IsRoot n w → RootRest n w (n - w * w)
rest_of_root n w R = record { value = omega (arith, R.low); rest = omega (arith, R.high) }

-- a strict bound is a bound, and nothing comes of its being reached
pub strictly : {P : Type 0} (a b : ℕ) → a < b → (a ≤ b) × (a ≡ b → P)
strictly a b h = (le_of_lt h, λ e. absurd (lt_irrefl b (subst (λ (x : ℕ). x < b) e h)))

-- squares are in the order of their sides
pub side_lt : (a b : ℕ) → a * a < b * b → a < b
side_lt a b h = lt_of_not-le (λ (g : b ≤ a). not-le_of_lt h (mul-le-mul g g))

pub square_lt : (a b : ℕ) → a < b → a * a < b * b
square_lt a b h = lt_of_le_of_lt (mul-le-mul_left a (le_of_lt h)) (mul-lt-mul_of_pos_right h (lt_of_le_of_lt zero-le h))

-- n has one whole root
pub only_root : (n v w : ℕ) → IsRoot n v → IsRoot n w → v ≡ w
only_root n v w p q = le_antisymm (le_of_suc-le-suc (side_lt v (suc w) (lt_of_le_of_lt p.low q.high))) (le_of_suc-le-suc (side_lt w (suc v) (lt_of_le_of_lt q.low p.high)))

-- and `whole_root` finds it
pub whole_root_lem : (k n : ℕ) → n < 4 ^ k → IsRoot n (whole_root k n)
unfolding whole_root
whole_root_lem zero n h = record { low = omega arith; high = omega arith }
whole_root_lem (suc k) n h =
    let u = whole_root k (n / 4) in
    let w = 2 * u in
    let p = whole_root_lem k (n / 4) ((div-lt_iff_lt-mul (zero-lt-suc 3)).1 (subst (λ (x : ℕ). n < x) (pow-suc 4 k) h)) in
    pick w (nat_le (suc w * suc w) n) (leb→le (suc w * suc w) n) (nleb→lt (suc w * suc w) n) (next_low u p.low) (next_high u p.high)
  where
    next_low : (u : ℕ) → u * u ≤ n / 4 → 2 * u * (2 * u) ≤ n
    next_low u h = omega arith

    next_high : (u : ℕ) → n / 4 < suc u * suc u → n < suc (suc (2 * u)) * suc (suc (2 * u))
    next_high u h = omega arith

    pick : (w : ℕ) (b : Bool) → (T b → suc w * suc w ≤ n) → (T (not b) → n < suc w * suc w) → w * w ≤ n → n < suc (suc w) * suc (suc w) → IsRoot n (cond b (suc w) w)
    pick w true y z a c = record { low = y tt; high = c }
    pick w false y z a c = record { low = a; high = z tt }
