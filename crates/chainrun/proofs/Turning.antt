-- What a turn does, of what the calls in it do, and what all turns do.
use Rattle.std.specs.Prelude.{ℕ, ◌+◌, ◌*◌, ◌-◌, ◌^◌, ◌≤◌, ◌<◌, ◌≡◌, Bool, true, false, not, cond, List, [], ◌++◌, length, take, drop, Some, None, IfSome, option_map, Float}
use Rattle.std.specs.Bool.{then_some}
use Rattle.std.specs.Io.KnownBytes.{Consumes, IsAtEnd, Appends}
use Rattle.std.specs.declared.option.Option.{Option}
use Rattle.std.proofs.Common.{refl, sym, ap, ◌∙◌, subst, append-nil, append_assoc, arith, length-append, drop_of_length-le, T, inl, inr, ◌⊎◌}
use Rattle.stream.specs.declared.Run.{Run}
use Rattle.stream.specs.Output.{new_store, new_work, text_of}
use Rattle.stream.specs.Feeding.{Feeding, new_run, before, run_of, fed, ended, text_so_far, to_come, Underway}
use Rattle.stream.proofs.Laws.Pieces.{at_end}
use Rattle.stream.proofs.Laws.Promises.{promised}
use Rattle.chainrun.specs.Program.{Turn, Prints}

module _ (run : Run) (store work : List Float) (bytes text : List ℕ) (u : Underway (before run store work bytes text)) where
  abbrev f : Feeding
  f = before run store work bytes text

  -- nothing was read
  pub at_the_end : (piece : List ℕ) (left_before left old new : Option (List ℕ)) → 0 < length piece → 25 * length piece ≤ length text
      → Consumes left_before left (take 0 piece) → IsAtEnd left
      → Appends old new (take (ended run text).written (ended run text).text)
      → IfSome left_before (λ input. Turn f None input left old new)
  at_the_end piece None left old new p l r e w = tt
  at_the_end piece (Some input) None old new p l r e w = absurd r
  at_the_end piece (Some input) (Some rest) old new p l r e w = record {
    underway = tt;
    printed = take (ended run text).written (ended run text).text;
    rest = rest;
    reads = refl;
    writes = w;
    shorter = tt;
    stops = tt;
    text = append-nil (take (ended run text).written (ended run text).text) ∙ at_end f u text (omega arith) ∙ ap (to_come f) (sym (r ∙ e));
  }

  -- a piece was read and fed
  module _ (piece : List ℕ) (room : 25 * length piece ≤ length text) where
    abbrev g : Feeding
    g = fed f piece

    -- once reading has stopped nothing is to come, and else all of the piece was taken
    rest_to_come : (rest : List ℕ) (t : Bool) → g.progress.stopped ≡ t → cond (not t) (to_come g rest) [] ≡ to_come g (drop g.used piece ++ rest)
    rest_to_come rest true e = rw e refl
    rest_to_come rest false e = by (promised.taken f text piece u room)
      where
        by : (g.progress.stopped ≡ true) ⊎ (g.used ≡ length piece) → to_come g rest ≡ to_come g (drop g.used piece ++ rest)
        by (inl s) = absurd (subst T (sym s ∙ e) tt)
        by (inr n) = ap (λ xs. to_come g (xs ++ rest)) (sym (drop_of_length-le piece {i = g.used} (omega (arith, n))))

    fed_text : (rest : List ℕ) (t : Bool) → g.progress.stopped ≡ t → text_so_far g ++ cond (not t) (to_come g rest) [] ≡ to_come f (piece ++ rest)
    fed_text rest t e = ap (λ xs. text_so_far g ++ xs) (rest_to_come rest t e) ∙ (promised.conserved f text piece rest u).1

    -- the run that goes on, with the slices as it left them
    abbrev onward : Feeding → Option Run → Option Feeding
    onward x = option_map (λ r. before r x.progress.store x.progress.work x.bytes x.progress.text)

    done : (t : Bool) → g.progress.stopped ≡ t → (left_before left old new : Option (List ℕ)) → 0 < length piece → Consumes left_before left piece → Appends old new (text_so_far g)
        → IfSome left_before (λ input. Turn f (onward g (then_some (not t) (run_of g))) input left old new)
    done t e None left old new n r w = tt
    done t e (Some input) None old new n r w = absurd r
    done true e (Some input) (Some rest) old new n r w = record {
      underway = tt;
      printed = text_so_far g;
      rest = rest;
      reads = refl;
      writes = w;
      shorter = tt;
      stops = tt;
      text = fed_text rest true e ∙ ap (to_come f) (sym r);
    }
    done false e (Some input) (Some rest) old new n r w = record {
      underway = let v = (promised.conserved f text piece [] u).0 in record { places = v.places; part = v.part };
      printed = text_so_far g;
      rest = rest;
      reads = refl;
      writes = w;
      shorter = omega (arith, n, ap length r, length-append piece rest);
      stops = e;
      text = fed_text rest false e ∙ ap (to_come f) (sym r);
    }

    pub after_a_piece : (x : Feeding) (next : Option Run) (left_before left old new : Option (List ℕ)) → x ≡ g → next ≡ then_some (not x.progress.stopped) (run_of x)
        → 0 < length piece → Consumes left_before left piece → Appends old new (text_so_far x) → IfSome left_before (λ input. Turn f (onward x next) input left old new)
    after_a_piece x next left_before left old new e s n r =
        subst (λ (o : Option Run). Appends old new (text_so_far x) → IfSome left_before (λ input. Turn f (onward x o) input left old new)) (sym s)
        (subst (λ (y : Feeding). Appends old new (text_so_far y) → IfSome left_before (λ input. Turn f (onward y (then_some (not y.progress.stopped) (run_of y))) input left old new)) (sym e)
        (done g.progress.stopped refl left_before left old new n r))

-- ---- all turns

-- after some turns: what they printed, and what is to come of the rest, is the text of the input
pub record Going (f : Feeding) (input : List ℕ) (turns : ℕ) (left old new : Option (List ℕ)) : Type 0 where
  pub underway : Underway f
  pub printed : List ℕ
  pub rest : List ℕ
  pub reads : left ≡ Some rest
  pub writes : Appends old new printed
  pub counted : turns + length rest ≤ length input
  pub text : printed ++ to_come f rest ≡ text_of input

nothing_more : (old : Option (List ℕ)) → Appends old old []
nothing_more None = tt
nothing_more (Some xs) = sym (append-nil xs)

more : (a b c : Option (List ℕ)) (xs ys : List ℕ) → Appends a b xs → Appends b c ys → Appends a c (xs ++ ys)
more None b c xs ys p q = tt
more (Some start) None c xs ys p q = absurd p
more (Some start) (Some bs) None xs ys p q = absurd q
more (Some start) (Some bs) (Some cs) xs ys p q = q ∙ ap (λ zs. zs ++ ys) p ∙ append_assoc start xs ys

at_first : (bytes text : List ℕ) (left old : Option (List ℕ)) → 262 ≤ length bytes → IfSome left (λ input. Going (before new_run new_store new_work bytes text) input 0 left old old)
at_first bytes text None old h = tt
at_first bytes text (Some input) old h = record {
  underway = let u = (promised.begun bytes h).0 in record { places = u.places; part = u.part };
  printed = [];
  rest = input;
  reads = refl;
  writes = nothing_more old;
  counted = omega arith;
  text = (promised.begun bytes h).1 input;
}

pub begun : (run : Run) (store work : List Float) (bytes text : List ℕ) (left old : Option (List ℕ)) → run ≡ new_run → store ≡ new_store → work ≡ new_work → 262 ≤ length bytes
    → IfSome left (λ input. Going (before run store work bytes text) input 0 left old old)
begun run store work bytes text left old e s w h =
    subst (λ (r : Run). IfSome left (λ input. Going (before r store work bytes text) input 0 left old old)) (sym e)
    (subst (λ (xs : List Float). IfSome left (λ input. Going (before new_run xs work bytes text) input 0 left old old)) (sym s)
    (subst (λ (xs : List Float). IfSome left (λ input. Going (before new_run new_store xs bytes text) input 0 left old old)) (sym w) (at_first bytes text left old h)))

module _ (f g : Feeding) (input : List ℕ) (turns : ℕ) (left next old new newer : Option (List ℕ)) (s : Going f input turns left old new) where
  goes_on : IfSome left (λ input. Turn f (Some g) input next new newer) → Going g input (turns + 1) next old newer
  goes_on = subst (λ (l : Option (List ℕ)). IfSome l (λ input. Turn f (Some g) input next new newer) → Going g input (turns + 1) next old newer) (sym s.reads) (λ t. record {
    underway = t.underway;
    printed = s.printed ++ t.printed;
    rest = t.rest;
    reads = t.reads;
    writes = more old new newer s.printed t.printed s.writes t.writes;
    counted = omega (arith, s.counted, t.shorter);
    text = append_assoc s.printed t.printed (to_come g t.rest) ∙ ap (λ xs. s.printed ++ xs) t.text ∙ s.text;
  })

  is_done : IfSome left (λ input. Turn f None input next new newer) → Appends old newer (text_of input)
  is_done = subst (λ (l : Option (List ℕ)). IfSome l (λ input. Turn f None input next new newer) → Appends old newer (text_of input)) (sym s.reads)
      (λ t. subst (Appends old newer) (ap (λ xs. s.printed ++ xs) (sym (append-nil t.printed) ∙ t.text) ∙ s.text) (more old new newer s.printed t.printed s.writes t.writes))

module _ (f : Feeding) (turns : ℕ) (left next old new newer : Option (List ℕ)) (onward : Run → Feeding) (answer : Option Run) where
  pub another : (start : Option (List ℕ)) (run : Run) → answer ≡ Some run → IfSome start (λ input. Going f input turns left old new)
      → (Underway f → IfSome left (λ input. Turn f (option_map onward answer) input next new newer)) → IfSome start (λ input. Going (onward run) input (turns + 1) next old newer)
  another None run e s h = tt
  another (Some input) run e s h =
      goes_on f (onward run) input turns left next old new newer s (subst (λ (o : Option Run). IfSome left (λ input. Turn f (option_map onward o) input next new newer)) e (h s.underway))

  pub the_last : (start : Option (List ℕ)) → answer ≡ None → IfSome start (λ input. Going f input turns left old new)
      → (Underway f → IfSome left (λ input. Turn f (option_map onward answer) input next new newer)) → Prints start old newer
  the_last None e s h = tt
  the_last (Some input) e s h = λ l.
      is_done f f input turns left next old new newer s (subst (λ (o : Option Run). IfSome left (λ input. Turn f (option_map onward o) input next new newer)) e (h s.underway))

-- no input that is shorter has so many turns
pub too_many : (x : Feeding) (turns : ℕ) (start left old new : Option (List ℕ)) → 2 ^ 64 - 1 ≤ turns → IfSome start (λ input. Going x input turns left old new)
    → Prints start old new
too_many x turns None left old new h s = tt
too_many x turns (Some input) left old new h s = λ l. absurd (omega (arith, h, l, s.counted))
