-- Laws of `specs/Promises.antt`.
use Rattle.std.specs.Prelude.{ℕ, ◌≤◌, ◌≡◌, Bool, not, List, [], ◌∷◌, ◌++◌, ltb, Float, length, Result, Ok, Err}
use Rattle.std.proofs.Math.Path.{refl, ap}
use Rattle.std.proofs.Common.{sym, subst, ◌∙◌}
use Rattle.std.proofs.Math.Bool.{true, false, cond}
use Rattle.std.proofs.Math.Dec.{T}
use Rattle.model.specs.Answers.{Value, none, weight, nothing, bit, dimension, pair, View}
use Rattle.model.specs.Slots.{store_room}
use Rattle.model.specs.Sound.{settings_fit}
use Rattle.model.specs.Start.{zero_chain, fresh_chain, fresh_store}
use Rattle.model.specs.Calls.{Started, started, start_call}
use Rattle.record.specs.declared.Record.{Record}
use Rattle.record.specs.declared.Record.TheVariants as a
use Rattle.record.specs.Fields.{kind_of_record}
use Rattle.record.specs.Reading.{kind_of, read_of, read_kind}
use Rattle.lines.specs.Text.{decimal, bit_digit, detail_text, line_text}
use Rattle.session.specs.declared.Session.{Session}
use Rattle.session.specs.Session.{new_session, detail_of, line_of, turned_away, after_start, start_step, gate_step, named_gate_step, projection_step, measure_step, reset_step, kind_step, obeys, read_step, step_of}
use Rattle.session.specs.Promises.{value_text, answer_text, Promised}

-- ---- proofs

value_text_lem : (v : Value) → detail_text (detail_of v) ≡ value_text v
unfolding detail_text bit_digit
value_text_lem none = refl
value_text_lem (weight w) = refl
value_text_lem nothing = refl
value_text_lem (bit true) = refl
value_text_lem (bit false) = refl
value_text_lem (dimension n) = refl
value_text_lem (pair p) = refl

line_text_lem : (kind : ℕ) (v : View) → line_text (line_of kind v) ≡ answer_text kind v
unfolding line_text
line_text_lem kind v = ap (λ t. decimal kind ++ (32 ∷ []) ++ decimal v.number ++ t ++ (10 ∷ [])) (value_text_lem v.value)

kind_line : (s : Session) (store work : List Float) (r : Record) → (kind_step s store work r).line.kind ≡ kind_of_record r
unfolding start_step gate_step named_gate_step projection_step measure_step reset_step kind_step
kind_line s store work (a.Start n d exponent epsilon clamp) = refl
kind_line s store work (a.Gate q0 q1 gate) = refl
kind_line s store work (a.NamedGate q0 q1 name) = refl
kind_line s store work (a.Projection qubit outcome) = refl
kind_line s store work (a.Measure qubit flag draw) = refl
kind_line s store work (a.Reset qubit draw) = refl

module _ (s : Session) (store work : List Float) where
  turned : (bytes : List ℕ) → obeys s (read_of bytes) ≡ false → step_of s store work bytes ≡ turned_away s store work
  unfolding step_of
  turned bytes = by (read_of bytes)
    where
      by : (r : Result Record ℕ) → obeys s r ≡ false → read_step s store work r ≡ turned_away s store work
      by (Err k) e = refl
      by (Ok r) e = ap (λ (t : Bool). cond t (kind_step s store work r) (turned_away s store work)) e

  done : (bytes : List ℕ) → obeys s (read_of bytes) ≡ true → ((step_of s store work bytes).line.kind ≡ kind_of bytes) × (1 ≤ kind_of bytes)
  unfolding step_of
  done bytes = by (read_of bytes) refl
    where
      by : (o : Result Record ℕ) → read_of bytes ≡ o → obeys s o ≡ true → ((read_step s store work o).line.kind ≡ kind_of bytes) × (1 ≤ kind_of bytes)
      by (Err k) z e = absurd (subst T (sym e) tt)
      by (Ok r) z e =
          let k = read_kind bytes r z in
          (ap (λ (t : Bool). (cond t (kind_step s store work r) (turned_away s store work)).line.kind) e ∙ kind_line s store work r ∙ k.0, k.1)

no_start : (store work : List Float) (n d exponent : ℕ) (epsilon clamp : Float) → (let l = start_step store n d exponent epsilon clamp work in
    (l.line.number ≡ 0 → ⊥) → (l.session ≡ new_session) × (l.store ≡ store) × (l.work ≡ work))
unfolding start_step start_call
no_start store work n d exponent epsilon clamp h = by (not (settings_fit n d epsilon clamp exponent)) (ltb (length store) (store_room n d)) h
  where
    x : Bool → Bool → Started
    x a b =
        cond a (started (Err 1) zero_chain store)
        (cond b (started (Err 2) zero_chain store)
        (started (Ok tt) (fresh_chain n d epsilon clamp exponent) (fresh_store n d store)))

    by : (a b : Bool) → ((after_start (x a b) work).line.number ≡ 0 → ⊥) → ((after_start (x a b) work).session ≡ new_session) × ((after_start (x a b) work).store ≡ store) × ((after_start (x a b) work).work ≡ work)
    by true b h = (refl, refl, refl)
    by false true h = (refl, refl, refl)
    by false false h = absurd (h refl)

pub promised : Promised
promised = record { text = line_text_lem; stopped = turned; obeyed = done; unstarted = no_start }
