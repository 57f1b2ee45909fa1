-- A part of a list, and a list with a part replaced: what lending a part of a slice computes to.
use Rattle.std.specs.Prelude.{◌≡◌, refl, List, [], ◌∷◌, ◌++◌, ℕ, suc, ◌+◌, ◌-◌, ◌≤◌, ◌<◌, length, get_or, set, take, drop, replicate}
use Rattle.std.proofs.Common.{sym, ap, ◌∙◌, append_assoc, append-nil, le_of_suc-le-suc, not-suc-le-zero, add-one, arith, length-append, length-drop, take-append-drop, length-take-le, take_at, take-suc, drop_at, drop-drop}
use Rattle.std.proofs.lemmas.List.{length-replicate, replicate-append-replicate, take-append-le, drop-append-le}
use Rattle.std.proofs.Math.Seq.{drop-length, drop-append-add, append_snoc}

-- what `&xs[a..e]` refers to
abbrev pub part : {A : Type 0} → ℕ → ℕ → List A → List A
part a e xs = take (e - a) (drop a xs)

-- what xs holds after a call that was lent `&mut xs[a..e]` and left ys there
abbrev pub put : {A : Type 0} → ℕ → ℕ → List A → List A → List A
put a e xs ys = take a xs ++ (ys ++ drop (e - a) (drop a xs))

-- ---- laws

module _ {A : Type 0} (a e : ℕ) (xs : List A) (h : a ≤ e) (l : e ≤ length xs) where
  pub length_part : length (part a e xs) ≡ e - a
  length_part = length-take-le (e - a) (drop a xs) (simp length-drop (omega arith))

  module _ (ys : List A) (n : length ys ≡ e - a) where
    head : length (take a xs) ≡ a
    head = length-take-le a xs (omega arith)

    pub length_put : length (put a e xs ys) ≡ length xs
    length_put = simp (length-append, length-take-le a xs (omega arith), length-drop) (omega arith)

    -- what was put is there, and what is put twice in one place is put once
    pub part_put : part a e (put a e xs ys) ≡ ys
    part_put = ap (take (e - a)) (drop_at (take a xs) _ a head) ∙ take_at ys _ (e - a) n

    pub put_put : (zs : List A) → put a e (put a e xs ys) zs ≡ put a e xs zs
    put_put zs = rw (take_at (take a xs) (ys ++ drop (e - a) (drop a xs)) a head, drop_at (take a xs) (ys ++ drop (e - a) (drop a xs)) a head, drop_at ys (drop (e - a) (drop a xs)) (e - a) n)

    -- a part that lies before or after is as it was
    pub part_put_before : (b f : ℕ) → b ≤ f → f ≤ a → part b f (put a e xs ys) ≡ part b f xs
    part_put_before b f hb hf = front (take a xs) (ys ++ drop (e - a) (drop a xs)) b f hb (omega (arith, head)) ∙ sym (front (take a xs) (drop a xs) b f hb (omega (arith, head))) ∙ ap (part b f) (take-append-drop a xs)
      where
        front : (p q : List A) (b f : ℕ) → b ≤ f → f ≤ length p → part b f (p ++ q) ≡ part b f p
        front p q b f hb hf = rw (drop-append-le b p q (omega arith)) (take-append-le (f - b) (drop b p) q (simp length-drop (omega arith)))

    pub drop_put : (b : ℕ) → e ≤ b → drop b (put a e xs ys) ≡ drop b xs
    drop_put b hb =
        let rest = drop (e - a) (drop a xs) in
        let k : b ≡ length (take a xs ++ ys) + (b - e) = simp (length-append, length-take-le a xs (omega arith)) (omega arith) in
        let m : a + (e - a + (b - e)) ≡ b = omega arith in
        ap (drop b) (sym (append_assoc (take a xs) ys rest)) ∙ ap (λ j. drop j ((take a xs ++ ys) ++ rest)) k ∙ drop-append-add (take a xs ++ ys) rest (b - e)
        ∙ drop-drop (b - e) (e - a) (drop a xs) ∙ drop-drop (e - a + (b - e)) a xs ∙ ap (λ j. drop j xs) m

    pub part_put_after : (b f : ℕ) → e ≤ b → part b f (put a e xs ys) ≡ part b f xs
    part_put_after b f hb = ap (take (f - b)) (drop_put b hb)

-- a part up to the list's end
pub put_end : {A : Type 0} (a : ℕ) (xs ys : List A) → a ≤ length xs → put a (length xs) xs ys ≡ take a xs ++ ys
put_end a xs ys l =
    let e : a + (length xs - a) ≡ length xs = omega arith in
    ap (λ zs. take a xs ++ (ys ++ zs)) (drop-drop (length xs - a) a xs ∙ ap (λ k. drop k xs) e ∙ drop-length xs) ∙ ap (λ zs. take a xs ++ zs) (append-nil ys)

-- ---- a list written from the front, one element after the other: p is written, and of d the rest is left

pub front_more : {A : Type 0} (n : ℕ) (p d : List A) (v : A) → length p ≡ n → n < length d → set (p ++ drop n d) n v ≡ (p ++ (v ∷ [])) ++ drop (n + 1) d
front_more n p d v e l = rw (← e, add-one, append_snoc) (seam p d v (rw e l))
  where
    seam : {A : Type 0} (p d : List A) (v : A) → length p < length d → set (p ++ drop (length p) d) (length p) v ≡ p ++ v ∷ drop (suc (length p)) d
    seam p [] v l = absurd (not-suc-le-zero l)
    seam [] (x ∷ d) v l = refl
    seam (y ∷ p) (x ∷ d) v l = ap (λ t. y ∷ t) (seam p d v (le_of_suc-le-suc l))

pub front_all : {A : Type 0} (n : ℕ) (p d : List A) → n ≡ length d → p ++ drop n d ≡ p
front_all n p d e = rw (e, drop-length, append-nil)

-- with one value, and with the elements of another list
pub fill_more : {A : Type 0} (n : ℕ) (v : A) (d : List A) → n < length d → set (replicate n v ++ drop n d) n v ≡ replicate (n + 1) v ++ drop (n + 1) d
fill_more n v d l = front_more n (replicate n v) d v (length-replicate n v) l ∙ ap (λ t. t ++ drop (n + 1) d) (replicate-append-replicate n 1 v)

pub copy_more : {A : Type 0} (n : ℕ) (xs d : List A) (z : A) → n < length xs → n < length d → set (take n xs ++ drop n d) n (get_or xs n z) ≡ take (n + 1) xs ++ drop (n + 1) d
copy_more n xs d z h l = front_more n (take n xs) d (get_or xs n z) (length-take-le n xs (omega arith)) l ∙ ap (λ t. t ++ drop (n + 1) d) (sym (take-suc xs n z h) ∙ ap (λ k. take k xs) (sym (add-one n)))
