-- Laws of `specs/Digits.antt`.
use Rattle.std.specs.Prelude.{◌≡◌, ℕ, ◌+◌, ◌-◌, ◌*◌, ◌/◌, ◌%◌, ◌^◌, ◌<◌, ◌≤◌}
use Rattle.std.proofs.lemmas.Bool.Decides.{leb_tells}
use mir.Val.{bool_byte}
use Rattle.std.proofs.Common.{leb, refl, sym, ap, ◌∙◌, subst, inl, inr, lt_of_lt_of_le, mul-le-mul_left, mul_assoc, pow-suc, add-one, arith, pow_mono}
use Rattle.std.proofs.Math.Nat.{two-pow-succ}
use Rattle.root.specs.Whole.{RootRest}
use Rattle.root.specs.Digits.{fed, After, Digit}

pub before_turns : (s q r : ℕ) → s < 2 ^ 64 → q < 2 ^ 27 → r ≤ 2 * q → After s (q * q + r) 0 s q r
before_turns s q r h few rest = record { word = omega arith; few = few; found = record { value = omega arith; rest = rest } }

pub root_lt : {s n j s' q r : ℕ} → After s n j s' q r → j ≤ 27 → q < 2 ^ 54
root_lt A l = lt_of_lt_of_le A.few (mul-le-mul_left (2 ^ 27) (pow_mono l))

-- after the last turn all 54 digits of d have come in, which the word began with
pub after_turns : {d n s' q r : ℕ} → d < 2 ^ 54 → After (d * 2 ^ 10 % 2 ^ 64) n 27 s' q r → RootRest (n * 2 ^ 54 + d) q r
after_turns {d} {n} {s'} {q} {r} h A = subst (λ (x : ℕ). RootRest x q r) (all n d h) A.found
  where
    all : (n d : ℕ) → d < 2 ^ 54 → fed 27 (d * 2 ^ 10 % 2 ^ 64) n ≡ n * 2 ^ 54 + d
    all n d h = omega arith

next_fed : (j s n : ℕ) → fed (j + 1) s n ≡ 4 * fed j s n + s * 4 ^ j % 2 ^ 64 / 2 ^ 62
next_fed j s n = rw (add-one j, pow-suc 4 j) (at (n * 4 ^ j) (s * 4 ^ j) (sym (mul_assoc n (4 ^ j) 4)) (sym (mul_assoc s (4 ^ j) 4)))
  where
    at : {N S : ℕ} (x y : ℕ) → N ≡ x * 4 → S ≡ y * 4 → N + S / 2 ^ 64 ≡ 4 * (x + y / 2 ^ 64) + y % 2 ^ 64 / 2 ^ 62
    at x y e f = omega arith

next_word : (j s : ℕ) → s * 4 ^ j % 2 ^ 64 * 2 ^ 2 % 2 ^ 64 ≡ s * 4 ^ (j + 1) % 2 ^ 64
next_word j s = rw (add-one j, pow-suc 4 j) (at (s * 4 ^ j) (sym (mul_assoc s (4 ^ j) 4)))
  where
    at : {S : ℕ} (y : ℕ) → S ≡ y * 4 → y % 2 ^ 64 * 2 ^ 2 % 2 ^ 64 ≡ S % 2 ^ 64
    at y e = omega arith

next_few : (j q b : ℕ) → b ≤ 1 → q < 2 ^ 27 * 2 ^ j → 2 * q + b < 2 ^ 27 * 2 ^ (j + 1)
next_few j q b h = rw (add-one j) (at (2 ^ j) (two-pow-succ j))
  where
    at : {B : ℕ} (A : ℕ) → B ≡ A + A → q < 2 ^ 27 * A → 2 * q + b < 2 ^ 27 * B
    at A e l = omega arith

next_root : (n q r p b : ℕ) → RootRest n q r → p ≤ 3 → Digit (4 * r + p) (4 * q + 1) b → RootRest (4 * n + p) (2 * q + b) (4 * r + p - b * (4 * q + 1))
next_root n q r p b R h (inl w) = rw w.1 (record { value = omega (arith, R.value); rest = omega (arith, w.0) })
next_root n q r p b R h (inr w) = rw w.1 (record { value = omega (arith, R.value, w.0); rest = omega (arith, R.rest) })

digit_le : (t c b : ℕ) → Digit t c b → (b ≤ 1) × (b * c ≤ t)
digit_le t c b (inl w) = rw w.1 (omega arith, omega arith)
digit_le t c b (inr w) = rw w.1 (omega arith, omega (arith, w.0))

-- the digit that a turn finds
pub digit : (t c : ℕ) → Digit t c (bool_byte (leb c t))
digit t c = elim (leb_tells c t) [ inl w ↦ inr (w.1, rw w.0 refl) | inr w ↦ inl (w.1, rw w.0 refl) ]

pub turn : {s n j s' q r b : ℕ} → After s n j s' q r → Digit (4 * r + s' / 2 ^ 62) (4 * q + 1) b → After s n (j + 1) (s' * 2 ^ 2 % 2 ^ 64) (2 * q + b) (4 * r + s' / 2 ^ 62 - b * (4 * q + 1))
turn {s} {n} {j} {s'} {q} {r} {b} A D = record {
  word = ap (λ (x : ℕ). x * 2 ^ 2 % 2 ^ 64) A.word ∙ next_word j s;
  few = next_few j q b (digit_le (4 * r + s' / 2 ^ 62) (4 * q + 1) b D).0 A.few;
  found = subst (λ (x : ℕ). RootRest x (2 * q + b) (4 * r + s' / 2 ^ 62 - b * (4 * q + 1))) (ap (λ (x : ℕ). 4 * fed j s n + x / 2 ^ 62) A.word ∙ sym (next_fed j s n)) (next_root (fed j s n) q r (s' / 2 ^ 62) b A.found (omega (arith, A.word)) D);
}
