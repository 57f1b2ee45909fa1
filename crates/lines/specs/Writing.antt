-- Writing a text byte by byte: `sets l i vs` is l with vs stored from the index i on. Laws alone.
use Rattle.std.specs.Prelude.{◌≡◌, refl, Bool, cond, List, [], ◌∷◌, ◌++◌, ℕ, suc, ◌+◌, ◌-◌, ◌/◌, ◌%◌, ◌≤◌, ◌<◌, ltb, drop, take, set}
use Rattle.std.proofs.Math.Path.{sym}
use Rattle.std.proofs.Common.{ap, ◌∙◌, append_assoc, le_trans, take_all, add-zero, zero-add, add-suc, suc-add, length-append}
use Rattle.std.proofs.Math.Bool.{true, false}
use native.Mathlib.Omega.{arith}
use borrow.Author.Tests.{lt-ltb, le-ltb}
use Rattle.std.specs.Float.{binary64}
use Rattle.std.specs.Float.Ieee.{to_bits}
use Rattle.std.proofs.Math.ListN.{length}
use Rattle.std.proofs.Math.Seq.{take-append_seam, drop-drop}
use Rattle.std.proofs.lemmas.List.Edits.{sets, sets-eq}
use Rattle.complex.specs.Loops.{tabulate, length_tabulate}
use Rattle.complex.specs.Parts.{part, put, length_part}
use Rattle.lines.specs.declared.Detail.{Detail}
use Rattle.lines.specs.declared.Detail.TheVariants.{Empty, Kept, Nothing, Bit}
use Rattle.lines.specs.declared.Line.{Line}
use Rattle.lines.specs.Text.{digit, decimal, hex_digit, hex_at, hex_text, detail_text, line_text, line_room, written, written_length}

-- one text behind the other
pub sets_append : (a b l : List ℕ) (i : ℕ) → sets (sets l i a) (i + length a) b ≡ sets l i (a ++ b)
sets_append [] b l i = rw add-zero
sets_append (x ∷ a) b l i =
    let e : i + suc (length a) ≡ suc i + length a = add-suc i (length a) ∙ sym (suc-add i (length a)) in
    rw e (sets_append a b (set l i x) (suc i))

-- from the front
pub sets_front : (vs l : List ℕ) → length vs ≤ length l → sets l 0 vs ≡ vs ++ drop (length vs) l
sets_front vs l h = sets-eq vs l 0 (rw zero-add h) ∙ ap (λ n. vs ++ drop n l) (zero-add (length vs))

-- ---- decimal numbers

module _ (x : ℕ) where
  pub decimal_one : x < 10 → decimal x ≡ digit x ∷ []
  unfolding decimal
  decimal_one h = rw (lt-ltb x 10 h)

  pub decimal_two : 10 ≤ x → x < 100 → decimal x ≡ digit (x / 10) ∷ digit (x % 10) ∷ []
  unfolding decimal
  decimal_two h l = rw (le-ltb x 10 h, lt-ltb x 100 l)

  pub decimal_three : 100 ≤ x → decimal x ≡ digit (x / 100) ∷ digit (x / 10 % 10) ∷ digit (x % 10) ∷ []
  unfolding decimal
  decimal_three h = rw (le-ltb x 10 (omega arith), le-ltb x 100 h)

  pub length_decimal : length (decimal x) ≤ 3
  unfolding decimal
  length_decimal = at (ltb x 10) (ltb x 100)
    where
      at : (s t : Bool) → length (cond s (digit x ∷ []) (cond t (digit (x / 10) ∷ digit (x % 10) ∷ []) (digit (x / 100) ∷ digit (x / 10 % 10) ∷ digit (x % 10) ∷ []))) ≤ 3
      at true t = omega arith
      at false true = omega arith
      at false false = omega arith

-- ---- hex digits

pub hex_low : (x : ℕ) → x < 10 → 48 + x ≡ hex_digit x
unfolding hex_digit
hex_low x h = rw (lt-ltb x 10 h)

pub hex_high : (x : ℕ) → 10 ≤ x → 55 + x ≡ hex_digit x
unfolding hex_digit
hex_high x h = rw (le-ltb x 10 h)

pub length_hex : (x : ℕ) → length (hex_text x) ≡ 16
unfolding hex_text
length_hex x = length_tabulate 16 _

-- 16 digits put in their part of a text, however many turns k wrote them
pub hex_put : (l digits : List ℕ) (i k x : ℕ) → i + 16 ≤ length l → length digits ≡ length (part i (i + 16) l) → length (part i (i + 16) l) ≤ k → take k digits ≡ tabulate k (hex_at x)
    → put i (i + 16) l digits ≡ sets l i (hex_text x)
unfolding hex_text
hex_put l digits i k x h n f e =
    let m : length (part i (i + 16) l) ≡ 16 = length_part i (i + 16) l (omega arith) h ∙ omega arith in
    let w : digits ≡ tabulate k (hex_at x) = sym (take_all k digits (omega (arith, n, f))) ∙ e in
    let z : k ≡ 16 = omega (arith, length_tabulate k (hex_at x), ap length w, n, m) in
    let behind : i + (i + 16 - i) ≡ i + length (hex_text x) = omega (arith, length_hex x) in
    ap (λ ys. take i l ++ (ys ++ drop (i + 16 - i) (drop i l))) (w ∙ ap (λ (j : ℕ). tabulate j (hex_at x)) z)
    ∙ ap (λ zs. take i l ++ (hex_text x ++ zs)) (drop-drop (i + 16 - i) i l ∙ ap (λ j. drop j l) behind)
    ∙ sym (append_assoc (take i l) (hex_text x) (drop (i + length (hex_text x)) l))
    ∙ sym (sets-eq (hex_text x) l i (omega (arith, length_hex x)))

-- ---- details

pub length_detail : (d : Detail) → length (detail_text d) ≤ 17
unfolding detail_text
length_detail Empty = omega arith
length_detail (Kept w) = omega (arith, length_hex (to_bits binary64 w))
length_detail Nothing = omega (arith, length_hex 0)
length_detail (Bit b) = omega arith

-- ---- the whole line

-- vs written from the index i of l on leaves `after`, and r is the index behind it
abbrev pub Wrote : List ℕ → ℕ → List ℕ → List ℕ → ℕ → Type 0
Wrote l i vs after r = (after ≡ sets l i vs) × (r ≡ i + length vs)

chain : (l a b vs ws : List ℕ) (i r s : ℕ) → Wrote l i vs a r → Wrote a r ws b s → Wrote l i (vs ++ ws) b s
chain l a b vs ws i r s g h = (h.0 ∙ rw (g.0, g.1) (sets_append vs ws l i), rw length-append (omega (arith, g.1, h.1)))

pub length_line : (line : Line) → length (line_text line) ≤ line_room
unfolding line_text
length_line line = simp length-append (omega (arith, length_decimal line.kind, length_decimal line.number, length_detail line.detail))

-- the kind, a space, the number, the detail and a newline, written behind each other; a, b and d are what each text leaves
pub wrote_line : (l : List ℕ) (line : Line) (a b d : List ℕ) (r s u : ℕ) → line_room ≤ length l
    → Wrote l 0 (decimal line.kind) a r → Wrote (set a r 32) (r + 1) (decimal line.number) b s → Wrote b s (detail_text line.detail) d u
    → (set d u 10 ≡ written line l) × (u + 1 ≡ written_length line l)
unfolding line_text written written_length
wrote_line l line a b d r s u h f g k =
    let t1 = decimal line.kind ++ (32 ∷ []) in
    let t2 = t1 ++ decimal line.number in
    let t3 = t2 ++ detail_text line.detail in
    let w1 = chain l a (set a r 32) (decimal line.kind) (32 ∷ []) 0 r (r + 1) f (refl, refl) in
    let w2 = chain l (set a r 32) b t1 (decimal line.number) 0 (r + 1) s w1 g in
    let w3 = chain l b d t2 (detail_text line.detail) 0 s u w2 k in
    let w = chain l d (set d u 10) t3 (10 ∷ []) 0 u (u + 1) w3 (refl, refl) in
    rw (le-ltb (length l) line_room h) (w.0 ∙ sets_front (line_text line) l (le_trans (length_line line) h), w.1 ∙ zero-add _)

pub no_room : (l : List ℕ) (line : Line) → length l < line_room → (l ≡ written line l) × (0 ≡ written_length line l)
unfolding written written_length
no_room l line h = rw (lt-ltb (length l) line_room h) (refl, refl)

-- how many bytes those are
pub length_room : (l : List ℕ) (line : Line) → line_room ≤ length l → written_length line l ≡ length (decimal line.kind) + 1 + length (decimal line.number) + length (detail_text line.detail) + 1
unfolding written_length line_text
length_room l line h = rw (le-ltb (length l) line_room h) (simp length-append (omega arith))

pub length_no_room : (l : List ℕ) (line : Line) → length l < line_room → written_length line l ≡ 0
unfolding written_length
length_no_room l line h = rw (lt-ltb (length l) line_room h)

-- in a slice with room, what is written is within it, and stands at its front
pub written_front : (l : List ℕ) (line : Line) → line_room ≤ length l
    → (written_length line l ≤ length (written line l)) × (written_length line l ≡ length (take (written_length line l) (written line l))) × (take (written_length line l) (written line l) ≡ line_text line)
unfolding written written_length
written_front l line h =
    let text = line_text line in
    let rest = drop (length text) l in
    let front = take-append_seam text rest in
    rw (le-ltb (length l) line_room h) (omega (arith, length-append text rest), sym (ap length front), front)
