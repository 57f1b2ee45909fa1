-- Laws of `specs/Pieces.antt`.
use Rattle.std.specs.Prelude.{ℕ, suc, ◌+◌, ◌-◌, ◌*◌, ◌≤◌, ◌<◌, ◌≡◌, Bool, not, ◌&&◌, ◌||◌, ◌⊎◌, T, eqb, ltb, leb, Float, length, set, take, drop}
use Rattle.std.proofs.Math.Path.{refl, sym, ap}
use Rattle.std.proofs.Common.{subst, ◌∙◌, inl, inr, add-one, arith, lt-ltb, le-ltb, le-leb, leb-true, leb-false, eqb-true, length-append, length-take-le, take_all, take_at, take-suc-set}
use Rattle.std.proofs.Math.Bool.{true, false, cond}
use mathlib.Core.List.{List, [], ◌∷◌, ◌++◌, append_assoc, append-nil}
use Rattle.std.proofs.Math.Nat.{sub_self}
use Rattle.std.proofs.lemmas.Bool.{lt-leb, eqb-false}
use Rattle.std.proofs.Math.ListN.{length-set}
use Rattle.std.proofs.lemmas.List.Edits.{sets, sets-eq}
use Rattle.std.proofs.Math.Seq.{length-sets}
use Rattle.record.specs.Frames.{record_size, frames, whole}
use Rattle.record.proofs.Frames.{size_two, size_small, not_whole, frames_cut, frames_record, whole_now, cut_off}
use Rattle.lines.specs.declared.Line.{Line}
use Rattle.lines.specs.Text.{line_text, line_room, written, written_length}
use Rattle.lines.specs.Writing.{length_line}
use Rattle.session.specs.declared.Session.{Session}
use Rattle.session.specs.Session.{Left, stop_line, obeys, step_of}
use Rattle.session.proofs.Laws.Promises.{promised}
use Rattle.stream.specs.Output.{stops, lines_from, text_of_lines}
use Rattle.stream.specs.Feeding.{record_done, Feeding, feeding, in_progress, with_byte, if_whole, can_take, takes, fed, run_of, ended, text_so_far, to_come, Underway}
use Rattle.stream.proofs.Laws.Turns.{takes_when}
use Rattle.stream.specs.Pieces.{OneByte, Kept, end_text}

-- ---- a run between two pieces

module _ (f : Feeding) (u : Underway f) where
  -- the next byte has a place
  pub place : f.pending < length f.bytes
  place = by (leb f.pending (length f.bytes)) refl
    where
      less : length (in_progress f) < 262
      less = omega (arith, not_whole (in_progress f) u.part, size_small (in_progress f))

      by : (t : Bool) → leb f.pending (length f.bytes) ≡ t → f.pending < length f.bytes
      by true e = omega (arith, length-take-le f.pending f.bytes (leb-true f.pending (length f.bytes) e), less, u.places)
      by false e = absurd (omega (arith, ap length (take_all f.pending f.bytes (omega (arith, leb-false f.pending (length f.bytes) e))), less, u.places))

  module _ (b : ℕ) where
    -- a byte more
    grown : in_progress (with_byte f b) ≡ in_progress f ++ (b ∷ [])
    grown = ap (λ n. take n (set f.bytes f.pending b)) (add-one f.pending) ∙ take-suc-set f.bytes f.pending b place

    last_byte : whole (in_progress (with_byte f b)) ≡ true → record_size (in_progress (with_byte f b)) ≡ length (in_progress (with_byte f b))
    last_byte e = subst (λ (r : List ℕ). record_size r ≡ length r) (sym grown) (whole_now (in_progress f) b u.part (ap whole (sym grown) ∙ e))

    behind : (rest : List ℕ) → in_progress f ++ (b ∷ rest) ≡ in_progress (with_byte f b) ++ rest
    behind rest = sym (append_assoc (in_progress f) (b ∷ []) rest) ∙ ap (λ xs. xs ++ rest) (sym grown)

pub nothing_yet : (bytes : List ℕ) → whole (take 0 bytes) ≡ false
unfolding whole
nothing_yet bytes = lt-leb (record_size []) 0 (omega (arith, size_two []))

-- a text with a line behind what is written
written_more : (text : List ℕ) (n : ℕ) (line : Line) → n + line_room ≤ length text → take (n + length (line_text line)) (sets text n (line_text line)) ≡ take n text ++ line_text line
written_more text n line h =
    let t = line_text line in
    ap (take (n + length t)) (sets-eq t text n (omega (arith, length_line line)))
    ∙ take_at (take n text ++ t) (drop (n + length t) text) (n + length t) (length-append (take n text) t ∙ ap (λ k. k + length t) (length-take-le n text (omega arith)))

module _ (f : Feeding) (u : Underway f) (b : ℕ) (h : takes f ≡ true) where
  abbrev next : Feeding
  next = with_byte f b

  goes : (f.progress.stopped ≡ false) × (f.pending < length f.bytes) × (f.progress.written + line_room ≤ length f.progress.text)
  goes = takes_when f h

  mid : whole (in_progress next) ≡ false → OneByte f next b
  mid w = record {
    underway = record { places = rw length-set u.places; part = w };
    used = refl;
    room = refl;
    line = omega arith;
    text = λ rest. ap (λ r. text_so_far f ++ text_of_lines (cond f.progress.stopped [] (lines_from f.progress.session f.progress.store f.progress.work (frames r)))) (sym (behind f u b rest));
  }

  abbrev step : Left
  step = step_of f.progress.session f.progress.store f.progress.work (in_progress next)

  abbrev done : Feeding
  done = feeding (record_done f.progress (in_progress next)) next.bytes 0 next.used

  end : whole (in_progress next) ≡ true → OneByte f done b
  unfolding lines_from
  end w = record {
    underway = record { places = rw length-set u.places; part = nothing_yet next.bytes };
    used = refl;
    room = length-sets f.progress.text f.progress.written (line_text step.line);
    line = omega (arith, length_line step.line);
    text = λ rest.
        ap (λ xs. xs ++ to_come done rest) (written_more f.progress.text f.progress.written step.line goes.2)
        ∙ append_assoc (text_so_far f) (line_text step.line) (to_come done rest)
        ∙ sym (ap (λ rs. text_so_far f ++ text_of_lines (lines_from f.progress.session f.progress.store f.progress.work rs))
        (ap frames (behind f u b rest) ∙ frames_record (in_progress next) rest (last_byte f u b w)))
        ∙ sym (ap (λ (t : Bool). text_so_far f ++ text_of_lines (cond t [] (lines_from f.progress.session f.progress.store f.progress.work (frames (in_progress f ++ (b ∷ rest)))))) goes.0);
  }

  one : OneByte f (if_whole next) b
  unfolding if_whole
  one = by (whole (in_progress next)) refl
    where
      by : (t : Bool) → whole (in_progress next) ≡ t → OneByte f (cond t done next) b
      by true w = end w
      by false w = mid w

untouched : (f : Feeding) (u : Underway f) (bytes : List ℕ) → Kept f f bytes
untouched f u bytes = record { underway = u; used = omega arith; text = λ rest. ap (λ n. text_so_far f ++ to_come f (drop n bytes ++ rest)) (sub_self f.used) }

kept_more : (f m g : Feeding) (b : ℕ) (bs : List ℕ) → OneByte f m b → Kept m g bs → Kept f g (b ∷ bs)
kept_more f m g b bs o k =
    let n : g.used - f.used ≡ suc (g.used - m.used) = omega (arith, o.used, k.used) in
    record { underway = k.underway; used = omega (arith, o.used, k.used); text = λ rest. ap (λ j. text_so_far g ++ to_come g (drop j (b ∷ bs) ++ rest)) n ∙ k.text rest ∙ o.text (bs ++ rest) }

pub kept : (f : Feeding) → Underway f → (bytes : List ℕ) → Kept f (fed f bytes) bytes
unfolding fed
kept f u [] = untouched f u []
kept f u (b ∷ bs) = by (λ m v. kept m v bs) (takes f) refl
  where
    by : ((m : Feeding) → Underway m → Kept m (fed m bs) bs) → (t : Bool) → takes f ≡ t → Kept f (cond t (fed (if_whole (with_byte f b)) bs) f) (b ∷ bs)
    by k false e = untouched f u (b ∷ bs)
    by k true e = let m = if_whole (with_byte f b) in let o = one f u b e in kept_more f m (fed m bs) b bs o (k m o.underway)

-- a text with room for a line for each byte: all bytes are taken, unless reading stops
stopped_or_room : (f : Feeding) → Underway f → f.progress.written + line_room ≤ length f.progress.text → takes f ≡ false → f.progress.stopped ≡ true
unfolding can_take
stopped_or_room f u h e = by f.progress.stopped refl
  where
    by : (t : Bool) → f.progress.stopped ≡ t → f.progress.stopped ≡ true
    by true s = s
    by false s =
        absurd (subst (λ (t : Bool). T (not t)) (sym e ∙ (λ i. not (s i) && (lt-ltb f.pending (length f.bytes) (place f u) i && le-leb line_room (length f.progress.text - f.progress.written) (omega arith) i))) tt)

pub enough : (f : Feeding) → Underway f → (bytes : List ℕ) → f.progress.written + line_room * length bytes ≤ length f.progress.text
    → ((fed f bytes).progress.stopped ≡ true) ⊎ ((fed f bytes).used ≡ f.used + length bytes)
unfolding fed
enough f u [] h = inr (omega arith)
enough f u (b ∷ bs) h = by (λ m v r. enough m v bs r) (takes f) refl
  where
    more : (m : Feeding) → OneByte f m b → ((fed m bs).progress.stopped ≡ true) ⊎ ((fed m bs).used ≡ m.used + length bs) → ((fed m bs).progress.stopped ≡ true) ⊎ ((fed m bs).used ≡ f.used + length (b ∷ bs))
    more m o (inl s) = inl s
    more m o (inr n) = inr (omega (arith, n, o.used))

    by : ((m : Feeding) → Underway m → m.progress.written + line_room * length bs ≤ length m.progress.text → ((fed m bs).progress.stopped ≡ true) ⊎ ((fed m bs).used ≡ m.used + length bs))
        → (t : Bool) → takes f ≡ t → ((cond t (fed (if_whole (with_byte f b)) bs) f).progress.stopped ≡ true) ⊎ ((cond t (fed (if_whole (with_byte f b)) bs) f).used ≡ f.used + length (b ∷ bs))
    by k false e = inl (stopped_or_room f u (omega arith) e)
    by k true e =
        let o = one f u b e in
        let m = if_whole (with_byte f b) in
        more m o (k m o.underway (omega (arith, o.line, o.room)))

-- ---- the input's end

module _ (s : Session) (store work : List Float) where
  cut_lines : (p : List ℕ) → whole p ≡ false → (length p ≡ 0 → ⊥) → lines_from s store work (frames p) ≡ stop_line ∷ []
  unfolding lines_from
  cut_lines [] w n = absurd (n refl)
  cut_lines (b ∷ bs) w n =
      ap (lines_from s store work) (frames_cut b bs (not_whole (b ∷ bs) w))
      ∙ ap (λ (l : Left). l.line ∷ cond (stops l.line) [] (lines_from l.session l.store l.work [])) (promised.stopped s store work (b ∷ bs) (ap (obeys s) (sym (cut_off (b ∷ bs) w))))

  pub no_lines : lines_from s store work (frames []) ≡ []
  unfolding frames lines_from
  no_lines = refl

pub at_end : (f : Feeding) → Underway f → (text : List ℕ) → line_room ≤ length text → end_text (ended (run_of f) text) ≡ to_come f []
unfolding ended written written_length
at_end f u text h = by f.progress.stopped (eqb f.pending 0) refl
  where
    all : frames (in_progress f ++ []) ≡ frames (in_progress f)
    all = ap frames (append-nil (in_progress f))

    none : (s : Session) (store work : List Float) → f.pending ≡ 0 → [] ≡ text_of_lines (lines_from s store work (frames (in_progress f ++ [])))
    none s store work z = sym (ap text_of_lines (ap (lines_from s store work) (all ∙ ap (λ n. frames (take n f.bytes)) z) ∙ no_lines s store work))

    stop : take (cond (ltb (length text) line_room) 0 (length (line_text stop_line))) (cond (ltb (length text) line_room) text (line_text stop_line ++ drop (length (line_text stop_line)) text)) ≡ line_text stop_line
    stop =
        ap (λ (t : Bool). take (cond t 0 (length (line_text stop_line))) (cond t text (line_text stop_line ++ drop (length (line_text stop_line)) text))) (le-ltb (length text) line_room h)
        ∙ take_at (line_text stop_line) (drop (length (line_text stop_line)) text) (length (line_text stop_line)) refl

    by : (s t : Bool) → eqb f.pending 0 ≡ t
        → end_text (cond (s || t) (record { text = text; written = 0 }) (record { text = written stop_line text; written = written_length stop_line text }))
        ≡ text_of_lines (cond s [] (lines_from f.progress.session f.progress.store f.progress.work (frames (in_progress f ++ []))))
    by true t e = refl
    by false true e = none f.progress.session f.progress.store f.progress.work (eqb-true f.pending 0 e)
    by false false e =
        stop ∙ sym (append-nil (line_text stop_line))
        ∙ sym (ap text_of_lines (ap (lines_from f.progress.session f.progress.store f.progress.work) all ∙ cut_lines f.progress.session f.progress.store f.progress.work (in_progress f) u.part (λ z. eqb-false f.pending 0 e (sym (length-take-le f.pending f.bytes (omega (arith, place f u))) ∙ z))))
