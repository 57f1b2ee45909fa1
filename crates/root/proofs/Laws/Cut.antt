-- Laws of `specs/Cut.antt`.
use Rattle.std.specs.Prelude.{◌≡◌, ℕ, zero, suc, ◌+◌, ◌*◌, ◌/◌, ◌%◌, ◌<◌, Bool, true, false, ◌||◌, ltb, nat_lt}
use Rattle.std.proofs.Common.{sym, ap, ◌∙◌, mul_comm, mul-pos, zero-mul, add_comm, add-zero, div-one, mul-div_cancel, zero-lt-suc, arith, lt→ltb}
use Rattle.std.proofs.Math.Nat.{mod-one, div-div-eq-div-mul, mul-div-mul_right, mul-add-div_right, add-mul-mod_self_left, mul-mod_left}
use Rattle.std.proofs.Math.Arith.{mod-mul}
use Rattle.std.specs.Float.Ieee.Bits.{is_true}
use Rattle.root.specs.Cut.{Cut}

some : (n : ℕ) → 0 < n → nat_lt 0 n ≡ true
some n h = is_true (nat_lt 0 n) (lt→ltb 0 n h)

-- something is left of x * d + y where something is left of y or of x
either : (x y d : ℕ) → 0 < d → nat_lt 0 (x * d + y) ≡ (nat_lt 0 y || nat_lt 0 x)
either zero zero d p = ap (ltb 0) (add-zero (0 * d) ∙ zero-mul d)
either (suc x) zero d p = ap (ltb 0) (add-zero (suc x * d)) ∙ some (suc x * d) (mul-pos (zero-lt-suc x) p) ∙ sym (some (suc x) (zero-lt-suc x))
either x (suc y) d p = some (x * d + suc y) (omega arith) ∙ sym (ap (λ (b : Bool). b || nat_lt 0 x) (some (suc y) (zero-lt-suc y)))

-- nothing is cut off
pub cut_whole : (n : ℕ) → Cut n 1 n false
cut_whole n = record { value = sym (div-one n); left = sym (ap (ltb 0) (mod-one n)) }

module _ {n d N : ℕ} {cut : Bool} (C : Cut n d N cut) (D : 0 < d) where
  -- cut again, by e
  pub cut_again : (e : ℕ) → 0 < e → Cut n (d * e) (N / e) (cut || nat_lt 0 (N % e))
  cut_again e E = record {
    value = ap (λ (x : ℕ). x / e) C.value ∙ div-div-eq-div-mul n d e;
    left = rw (C.value, C.left) (sym (ap (λ (x : ℕ). ltb 0 (n % x)) (mul_comm d e) ∙ ap (ltb 0) (mod-mul n E D) ∙ either (n / d % e) (n % d) d D));
  }

  -- a multiple of d more
  pub cut_plus : (a : ℕ) → Cut (a * d + n) d (a + N) cut
  cut_plus a = record {
    value = ap (λ (x : ℕ). a + x) C.value ∙ sym (mul-add-div_right D a n);
    left = C.left ∙ ap (ltb 0) (sym (add-mul-mod_self_left n d a) ∙ ap (λ (x : ℕ). x % d) (add_comm n (d * a) ∙ ap (λ (x : ℕ). x + n) (mul_comm d a)));
  }

  -- in other units
  pub cut_scaled : (e : ℕ) → 0 < e → Cut (n * e) (d * e) N cut
  cut_scaled e E = record {
    value = C.value ∙ sym (mul-div-mul_right n d E);
    left = C.left ∙ sym (ap (ltb 0) (mod-mul (n * e) D E) ∙ rw (mul-div_cancel n E, mul-mod_left n e) (either (n % d) 0 e E));
  }
