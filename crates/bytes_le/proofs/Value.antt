-- The number of one byte, of two, of bytes behind each other, of a part in two parts, and of a part by its first two bytes.
use Rattle.std.specs.Prelude.{◌≡◌, List, [], ◌∷◌, ◌++◌, ℕ, suc, ◌+◌, ◌-◌, ◌*◌, ◌^◌, ◌≤◌, refl, length, get_or, take, drop}
use Rattle.std.proofs.Common.{sym, ap, ◌∙◌, mul_assoc, arith, length-drop, take-add, drop-drop, drop-cons, length-take-le}
use Rattle.std.proofs.Math.Nat.{pow-succ'}
use Rattle.complex.specs.Parts.{part}
use Rattle.bytes_le.specs.Value.{value}

-- one byte
pub value_one : (xs : List ℕ) (at : ℕ) → at + 1 ≤ length xs → get_or xs at 0 ≡ value (part at (at + 1) xs)
unfolding value
value_one xs at h =
    let n : at + 1 - at ≡ 1 = omega arith in
    sym (rw (n, drop-cons xs at 0 (omega arith)) (omega arith))

-- two bytes
pub value_two : (a b : ℕ) → value (a ∷ b ∷ []) ≡ a + 256 * b
unfolding value
value_two a b = omega arith

-- of bytes behind each other
pub value_append : (xs ys : List ℕ) → value (xs ++ ys) ≡ value xs + 256 ^ length xs * value ys
unfolding value
value_append [] ys = omega arith
value_append (x ∷ xs) ys =
    let p : 256 ^ suc (length xs) ≡ 256 * 256 ^ length xs = pow-succ' 256 (length xs) in
    rw (value_append xs ys, p, mul_assoc) (omega arith)

-- the bytes of a part in two parts
pub value_split : (a m e : ℕ) (xs : List ℕ) → a ≤ m → m ≤ e → e ≤ length xs → value (part a e xs) ≡ value (part a m xs) + 256 ^ (m - a) * value (part m e xs)
value_split a m e xs h k l =
    let n : e - a ≡ m - a + (e - m) = omega arith in
    let j : a + (m - a) ≡ m = omega arith in
    let s : length (part a m xs) ≡ m - a = length-take-le (m - a) (drop a xs) (simp length-drop (omega arith)) in
    ap (λ i. value (take i (drop a xs))) n ∙ ap value (take-add (m - a) (e - m) (drop a xs)) ∙ value_append (part a m xs) (take (e - m) (drop (m - a) (drop a xs)))
    ∙ ap (λ i. value (part a m xs) + 256 ^ i * value (take (e - m) (drop (m - a) (drop a xs)))) s
    ∙ ap (λ ys. value (part a m xs) + 256 ^ (m - a) * value (take (e - m) ys)) (drop-drop (m - a) a xs ∙ ap (λ i. drop i xs) j)

-- two numbers of w bytes, the lower first, are one of 2 * w
pub value_pair : (w at e : ℕ) (xs : List ℕ) → at + w + w ≡ e → e ≤ length xs → value (part at (at + w) xs) + 256 ^ w * value (part (at + w) (at + w + w) xs) ≡ value (part at e xs)
value_pair w at e xs h l =
    let n : at + w - at ≡ w = omega arith in
    sym (ap (λ i. value (part at i xs)) (sym h) ∙ value_split at (at + w) (at + w + w) xs (omega arith) (omega arith) (omega arith) ∙ ap (λ i. value (part at (at + w) xs) + 256 ^ i * value (part (at + w) (at + w + w) xs)) n)

-- the bytes of a part, two by two
pub value_none : (at e : ℕ) (xs : List ℕ) → e ≤ at → value (part at e xs) ≡ 0
unfolding value
value_none at e xs h = let n : e - at ≡ 0 = omega arith in rw n refl

pub value_more : (at e : ℕ) (xs : List ℕ) → at + 2 ≤ e → e ≤ length xs → value (part at e xs) ≡ get_or xs at 0 + 256 * get_or xs (at + 1) 0 + 65536 * value (part (at + 2) e xs)
unfolding value
value_more at e xs h l =
    let n : e - at ≡ suc (suc (e - (at + 2))) = omega arith in
    let p : at + 1 ≡ suc at = omega arith in
    let q : at + 2 ≡ suc (suc at) = omega arith in
    rw (n, drop-cons xs at 0 (omega arith), drop-cons xs (suc at) 0 (omega arith), p, q) (omega arith)
