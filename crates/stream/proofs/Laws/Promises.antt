-- Laws of `specs/Promises.antt`.
use Rattle.std.specs.Prelude.{ℕ, ◌+◌, ◌*◌, ◌≤◌, ◌≡◌, refl, Bool, true, false, cond, List, [], ◌∷◌, ◌++◌, ◌⊎◌, length, take, drop}
use Rattle.std.proofs.Common.{sym, ap, ◌∙◌, append-nil, inl, inr, zero-add, arith, drop_of_length-le}
use Rattle.std.proofs.Math.Nat.{sub-zero}
use Rattle.record.specs.Frames.{frames}
use Rattle.lines.specs.Text.{line_room}
use Rattle.stream.specs.Output.{lines_from, lines_of, text_of_lines, text_of}
use Rattle.stream.specs.Feeding.{Feeding, in_progress, fed, text_so_far, to_come, Underway}
use Rattle.stream.proofs.Laws.Pieces.{nothing_yet, kept, enough, at_end, no_lines}
use Rattle.stream.proofs.Laws.Marked as examples
use Rattle.stream.specs.Promises.{Handed, input_of, Roomy, onwards, printed_by, new_feeding, Promised}

-- ---- proofs

again : (f : Feeding) (text : List ℕ) → Underway f → Underway (onwards f text)
again f text u = record { places = u.places; part = u.part }

conserve : (f : Feeding) (text piece rest : List ℕ) → Underway f
    → (let g = fed (onwards f text) piece in Underway g × (text_so_far g ++ to_come g (drop g.used piece ++ rest) ≡ to_come f (piece ++ rest)))
conserve f text piece rest u = let g = fed (onwards f text) piece in
    let k = kept (onwards f text) (again f text u) piece in
    (k.underway, ap (λ n. text_so_far g ++ to_come g (drop n piece ++ rest)) (sym (sub-zero g.used)) ∙ k.text rest)

take_all : (f : Feeding) (text piece : List ℕ) → Underway f → line_room * length piece ≤ length text
    → (let g = fed (onwards f text) piece in (g.progress.stopped ≡ true) ⊎ (g.used ≡ length piece))
take_all f text piece u r = by (enough (onwards f text) (again f text u) piece (omega arith))
  where
    by : {A : Type 0} {n : ℕ} → A ⊎ (n ≡ 0 + length piece) → A ⊎ (n ≡ length piece)
    by (inl a) = inl a
    by (inr e) = inr (e ∙ zero-add (length piece))

-- once reading has stopped nothing is to come, and once all bytes are taken none is left
all_room : (g : Feeding) (piece rest : List ℕ) → (g.progress.stopped ≡ true) ⊎ (g.used ≡ length piece) → to_come g (drop g.used piece ++ rest) ≡ to_come g rest
all_room g piece rest (inl s) =
    let none : (bytes : List ℕ) → to_come g bytes ≡ [] = λ bytes. ap (λ (t : Bool). text_of_lines (cond t [] (lines_from g.progress.session g.progress.store g.progress.work (frames (in_progress g ++ bytes))))) s in
    none (drop g.used piece ++ rest) ∙ sym (none rest)
all_room g piece rest (inr n) = ap (λ xs. to_come g (xs ++ rest)) (drop_of_length-le piece {i = g.used} (omega (arith, n)))

in_turn_lem : (f : Feeding) → Underway f → (hs : List Handed) (last : List ℕ) → Roomy hs → line_room ≤ length last → printed_by f hs last ≡ to_come f (input_of hs)
in_turn_lem f u [] last r l = at_end f u last l
in_turn_lem f u (h ∷ hs) last r l =
    let g = fed (onwards f h.text) h.piece in
    let c = conserve f h.text h.piece (input_of hs) u in
    ap (λ xs. text_so_far g ++ xs) (in_turn_lem g c.0 hs last r.1 l ∙ sym (all_room g h.piece (input_of hs) (take_all f h.text h.piece u r.0))) ∙ c.1

begin : (bytes : List ℕ) → 262 ≤ length bytes → Underway (new_feeding bytes) × ((input : List ℕ) → to_come (new_feeding bytes) input ≡ text_of input)
unfolding lines_of text_of
begin bytes h = (record { places = h; part = nothing_yet bytes }, λ input. refl)

by_pieces : (bytes : List ℕ) (hs : List Handed) (last : List ℕ) → 262 ≤ length bytes → Roomy hs → line_room ≤ length last → printed_by (new_feeding bytes) hs last ≡ text_of (input_of hs)
by_pieces bytes hs last h r l = in_turn_lem (new_feeding bytes) (begin bytes h).0 hs last r l ∙ (begin bytes h).1 (input_of hs)

-- between two records nothing is to come of an input that ends
between : (g : Feeding) → g.pending ≡ 0 → to_come g [] ≡ []
between g z =
    ap (λ r. text_of_lines (cond g.progress.stopped [] (lines_from g.progress.session g.progress.store g.progress.work (frames r)))) (append-nil (in_progress g) ∙ ap (λ k. take k g.bytes) z)
    ∙ by g.progress.stopped
  where
    by : (t : Bool) → text_of_lines (cond t [] (lines_from g.progress.session g.progress.store g.progress.work (frames []))) ≡ []
    by true = refl
    by false = ap text_of_lines (no_lines g.progress.session g.progress.store g.progress.work)

at_once : (f : Feeding) (text piece : List ℕ) → Underway f
    → (let g = fed (onwards f text) piece in g.used ≡ length piece → g.pending ≡ 0 → text_so_far g ≡ to_come f piece)
at_once f text piece u n z =
    let g = fed (onwards f text) piece in
    sym (ap (λ xs. text_so_far g ++ xs) (all_room g piece [] (inr n) ∙ between g z) ∙ append-nil (text_so_far g)) ∙ (conserve f text piece [] u).1 ∙ ap (to_come f) (append-nil piece)

pub promised : Promised
promised = record {
  pieces = by_pieces;
  whole = λ bytes input text last h r l. by_pieces bytes (record { piece = input; text = text } ∷ []) last h (r, tt) l ∙ ap text_of (append-nil input);
  conserved = conserve;
  taken = take_all;
  prompt = at_once;
  begun = begin;
  marked = examples.marked;
}
