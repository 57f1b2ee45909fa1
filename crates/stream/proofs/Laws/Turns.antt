-- Laws of feeding: what each byte does, and when none is taken.
use Rattle.std.specs.Prelude.{ℕ, ◌+◌, ◌-◌, ◌≤◌, ◌<◌, ◌≡◌, Bool, true, false, ◌&&◌, T, ltb, leb, Float}
use Rattle.std.proofs.Math.Path.{refl, sym, ap}
use Rattle.std.proofs.Common.{subst, ◌∙◌, inl, inr, ◌⊎◌, add-one, arith, le-leb, le-ltb, ltb-true, leb-true, leb-false, length-append, length-drop, drop_of_length-le, take_all, drop-cons}
use Rattle.std.proofs.Math.Bool.{cond}
use mathlib.Core.List.{List, [], ◌∷◌, ◌++◌, append_assoc}
use Rattle.std.proofs.lemmas.Bool.{lt-leb, ne_eqb}
use Rattle.std.proofs.Math.ListN.{length, get_or, take, drop}
use Rattle.std.proofs.lemmas.List.Edits.{sets, sets-eq}
use Rattle.std.proofs.Math.Seq.{length-sets, drop-drop}
use Rattle.complex.specs.Parts.{part, put, put_end}
use Rattle.bytes_le.specs.Value.{value}
use Rattle.record.specs.Layout.{more_bytes}
use Rattle.record.specs.Frames.{record_size, whole}
use Rattle.record.proofs.Frames.{size_two}
use Rattle.lines.specs.declared.Line.{Line}
use Rattle.lines.specs.Text.{line_text, line_room, written, written_length}
use Rattle.lines.specs.Writing.{length_line}
use Rattle.session.specs.declared.Session.{Session}
use Rattle.session.specs.Session.{Left, stop_line, step_of}
use Rattle.stream.specs.declared.Run.{Run}
use Rattle.stream.specs.Output.{stops}
use Rattle.stream.specs.Feeding.{Progress, progress, printed, record_done, Feeding, feeding, in_progress, with_byte, if_whole, can_take, takes, fed, ending, is_between, ended}

-- ---- whether a record is whole

pub half_a_length : (bytes : List ℕ) → length bytes < 2 → false ≡ whole bytes
unfolding whole
half_a_length bytes h = sym (lt-leb (record_size bytes) (length bytes) (omega (arith, size_two bytes)))

pub as_its_length_says : (bytes : List ℕ) (more : ℕ) → 2 ≤ length bytes → more ≡ more_bytes (value (get_or bytes 0 0 ∷ get_or bytes 1 0 ∷ [])) → leb more (length (take (length bytes - 2) (drop 2 bytes))) ≡ whole bytes
unfolding record_size whole
as_its_length_says [] more h e = absurd (omega arith)
as_its_length_says (a ∷ []) more h e = absurd (omega arith)
as_its_length_says (a ∷ b ∷ bs) more h e = ap (λ xs. leb more (length xs)) (take_all (length (a ∷ b ∷ bs) - 2) bs (omega arith)) ∙ by (leb more (length bs)) refl
  where
    by : (t : Bool) → leb more (length bs) ≡ t → leb more (length bs) ≡ leb (2 + more_bytes (value (a ∷ b ∷ []))) (length (a ∷ b ∷ bs))
    by true l = l ∙ sym (le-leb (2 + more_bytes (value (a ∷ b ∷ []))) (length (a ∷ b ∷ bs)) (omega (arith, e, leb-true more (length bs) l)))
    by false l = l ∙ sym (lt-leb (2 + more_bytes (value (a ∷ b ∷ []))) (length (a ∷ b ∷ bs)) (omega (arith, e, leb-false more (length bs) l)))

-- ---- a line behind the text

module _ (line : Line) (text : List ℕ) (n : ℕ) (h : n + line_room ≤ length text) where
  rest_of : part n (length text) text ≡ drop n text
  rest_of = take_all (length text - n) (drop n text) (omega (arith, length-drop n text))

  roomy : ltb (length (part n (length text) text)) line_room ≡ false
  roomy = le-ltb (length (part n (length text) text)) line_room (omega (arith, ap length rest_of, length-drop n text))

  pub line_long : written_length line (part n (length text) text) ≡ length (line_text line)
  unfolding written_length
  line_long = ap (λ (t : Bool). cond t 0 (length (line_text line))) roomy

  pub line_put : put n (length text) text (written line (part n (length text) text)) ≡ sets text n (line_text line)
  unfolding written
  line_put =
      let k = length (line_text line) in
      let out = part n (length text) text in
      put_end n text (written line out) (omega arith)
      ∙ ap (λ (t : Bool). take n text ++ cond t out (line_text line ++ drop k out)) roomy
      ∙ ap (λ xs. take n text ++ (line_text line ++ xs)) (ap (drop k) rest_of ∙ drop-drop k n text)
      ∙ sym (append_assoc (take n text) (line_text line) (drop (n + k) text))
      ∙ sym (sets-eq (line_text line) text n (omega (arith, length_line line)))

-- a record's step with its line written by its part of the text is the record done
pub recorded : (s : Session) (store work : List Float) (text r : List ℕ) (n : ℕ) (l : Left) (ys : List ℕ) (m : ℕ) → n + line_room ≤ length text → l ≡ step_of s store work r
    → ys ≡ written l.line (part n (length text) text) → m ≡ written_length l.line (part n (length text) text)
    → progress l.session (stops l.line) l.store l.work (put n (length text) text ys) (n + m) ≡ record_done (progress s false store work text n) r
recorded s store work text r n l ys m h e ey em =
    (λ i. progress l.session (stops l.line) l.store l.work ((ap (put n (length text) text) ey ∙ line_put l.line text n h) i) (n + (em ∙ line_long l.line text n h) i))
    ∙ ap (λ (x : Left). printed x text n) e

-- a record that is not whole waits, and one that is whole is done, its line written by its part of the text
module _ (f : Feeding) where
  pub waits : whole (in_progress f) ≡ false → f ≡ if_whole f
  unfolding if_whole
  waits w = rw w refl

  pub is_done : whole (in_progress f) ≡ true → f.progress.written + line_room ≤ length f.progress.text
      → (l : Left) (t : Bool) (ys : List ℕ) (m : ℕ) → l ≡ step_of f.progress.session f.progress.store f.progress.work (in_progress f) → t ≡ stops l.line
      → ys ≡ written l.line (part f.progress.written (length f.progress.text) f.progress.text) → m ≡ written_length l.line (part f.progress.written (length f.progress.text) f.progress.text)
      → feeding (progress l.session t l.store l.work (put f.progress.written (length f.progress.text) f.progress.text ys) (f.progress.written + m)) f.bytes 0 f.used ≡ if_whole f
  unfolding if_whole
  is_done w h l t ys m e et ey em =
      let p = f.progress in
      ap (λ (u : Bool). feeding (progress l.session u l.store l.work (put p.written (length p.text) p.text ys) (p.written + m)) f.bytes 0 f.used) et
      ∙ ap (λ (x : Progress). feeding x f.bytes 0 f.used) (recorded p.session p.store p.work p.text (in_progress f) p.written l ys m h e ey em)
      ∙ sym (ap (λ (t : Bool). cond t (feeding (record_done p (in_progress f)) f.bytes 0 f.used) f) w)

-- ---- the input's end

module _ (r : Run) (text : List ℕ) where
  pub nothing_more : (r.stopped ≡ true) ⊎ ((r.stopped ≡ false) × (r.pending ≡ 0)) → ending text 0 ≡ ended r text
  unfolding ended
  nothing_more (inl e) = rw e refl
  nothing_more (inr e) = rw e.0 (rw e.1 refl)

  pub cut_off : r.stopped ≡ false → (r.pending ≡ 0 → ⊥) → (after : List ℕ) (n : ℕ) → after ≡ written stop_line text → n ≡ written_length stop_line text → ending after n ≡ ended r text
  unfolding ended
  cut_off e z after n ea en = rw e (rw (ne_eqb r.pending 0 z) (λ i. ending (ea i) (en i)))

-- ---- bytes

-- what the test says where it holds
pub taking : (stopped : Bool) (pending places written room : ℕ) (t : Bool) → t ≡ can_take stopped pending places written room → t ≡ true → (stopped ≡ false) × (pending < places) × (written + line_room ≤ room)
unfolding can_take
taking true pending places written room t et e = absurd (subst T (sym e ∙ et) tt)
taking false pending places written room t et e = by (ltb pending places) refl (leb line_room (room - written)) refl (sym et ∙ e)
  where
    by : (s : Bool) → ltb pending places ≡ s → (t : Bool) → leb line_room (room - written) ≡ t → (s && t) ≡ true → (false ≡ false) × (pending < places) × (written + line_room ≤ room)
    by true a true b e = (refl, ltb-true pending places a, omega (arith, leb-true line_room (room - written) b))
    by true a false b e = absurd (subst T (sym e) tt)
    by false a t b e = absurd (subst T (sym e) tt)

pub takes_when : (f : Feeding) → takes f ≡ true → (f.progress.stopped ≡ false) × (f.pending < length f.bytes) × (f.progress.written + line_room ≤ length f.progress.text)
takes_when f = taking f.progress.stopped f.pending (length f.bytes) f.progress.written (length f.progress.text) (takes f) refl

-- a line that had room ends within the text
pub line_within : (p q : Progress) (r : List ℕ) → p ≡ record_done q r → q.written + line_room ≤ length q.text → p.written ≤ length p.text
line_within p q r e h =
    let line = (step_of q.session q.store q.work r).line in
    omega (arith, ap (λ (x : Progress). x.written) e, ap (λ (x : Progress). length x.text) e, length-sets q.text q.written (line_text line), length_line line)

-- from the i-th byte of a piece on
module _ (f : Feeding) (piece : List ℕ) (i : ℕ) where
  pub all_taken : length piece ≤ i → f ≡ fed f (drop i piece)
  unfolding fed
  all_taken h = sym (ap (fed f) (drop_of_length-le piece {i = i} h))

  pub shut : takes f ≡ false → f ≡ fed f (drop i piece)
  unfolding fed
  shut e = by (drop i piece)
    where
      by : (bs : List ℕ) → f ≡ fed f bs
      by [] = refl
      by (b ∷ bs) = sym (ap (λ (t : Bool). cond t (fed (if_whole (with_byte f b)) bs) f) e)

  pub one_byte : i < length piece → takes f ≡ true → (x : Feeding) → x ≡ if_whole (with_byte f (get_or piece i 0)) → fed x (drop (i + 1) piece) ≡ fed f (drop i piece)
  unfolding fed
  one_byte h e x ex =
      ap (λ (y : Feeding). fed y (drop (i + 1) piece)) ex
      ∙ sym (ap (fed f) (drop-cons piece i 0 h ∙ ap (λ n. get_or piece i 0 ∷ drop n piece) (sym (add-one i)))
      ∙ ap (λ (t : Bool). cond t (fed (if_whole (with_byte f (get_or piece i 0))) (drop (i + 1) piece)) f) e)

-- ---- what is written lies within the text

pub whole_within : (f x : Feeding) → x ≡ if_whole f → f.progress.written + line_room ≤ length f.progress.text → (x.used ≡ f.used) × (x.progress.written ≤ length x.progress.text)
unfolding if_whole
whole_within f x e h = subst (λ (y : Feeding). (y.used ≡ f.used) × (y.progress.written ≤ length y.progress.text)) (sym e) (by (whole (in_progress f)))
  where
    done : Feeding
    done = feeding (record_done f.progress (in_progress f)) f.bytes 0 f.used

    by : (t : Bool) → ((cond t done f).used ≡ f.used) × ((cond t done f).progress.written ≤ length (cond t done f).progress.text)
    by true = (refl, line_within done.progress f.progress (in_progress f) refl h)
    by false = (refl, omega (arith, h))

pub fed_within : (f : Feeding) (bytes : List ℕ) → f.progress.written ≤ length f.progress.text → (fed f bytes).progress.written ≤ length (fed f bytes).progress.text
unfolding fed
fed_within f [] h = h
fed_within f (b ∷ bs) h = by (λ m k. fed_within m bs k) (takes f) refl
  where
    by : ((m : Feeding) → m.progress.written ≤ length m.progress.text → (fed m bs).progress.written ≤ length (fed m bs).progress.text) → (t : Bool) → takes f ≡ t
        → (cond t (fed (if_whole (with_byte f b)) bs) f).progress.written ≤ length (cond t (fed (if_whole (with_byte f b)) bs) f).progress.text
    by k true e = k (if_whole (with_byte f b)) (whole_within (with_byte f b) (if_whole (with_byte f b)) refl (takes_when f e).2).1
    by k false e = h

pub ended_within : (r : Run) (text : List ℕ) → (ended r text).written ≤ length (ended r text).text
unfolding ended written written_length
ended_within r text = by (is_between r) (ltb (length text) line_room)
  where
    n : Bool → ℕ
    n t = cond t 0 (length (line_text stop_line))

    out : Bool → List ℕ
    out t = cond t text (line_text stop_line ++ drop (length (line_text stop_line)) text)

    by : (s t : Bool) → (cond s (ending text 0) (ending (out t) (n t))).written ≤ length (cond s (ending text 0) (ending (out t) (n t))).text
    by true t = omega arith
    by false true = omega arith
    by false false = omega (arith, length-append (line_text stop_line) (drop (length (line_text stop_line)) text))
