-- What is promised of a record's step: the text of its line in terms of the answer, and where reading stops.
use Rattle.std.specs.Prelude.{ℕ, ◌≤◌, ◌≡◌, List, [], ◌∷◌, ◌++◌, Float}
use Rattle.std.proofs.Math.Bool.{true, false}
use Rattle.model.specs.Answers.{Value, none, weight, nothing, bit, dimension, pair, View, bits_of}
use Rattle.record.specs.Reading.{kind_of, read_of}
use Rattle.lines.specs.Text.{digit, decimal, hex_text, line_text}
use Rattle.session.specs.declared.Session.{Session}
use Rattle.session.specs.Session.{new_session, line_of, turned_away, start_step, obeys, step_of}

-- the text of an accepted answer's value: a space and its bits, 16 hex digits of a weight or of Nothing, one digit of a measured bit. No record asks for a dimension or for a layer
abbrev pub value_text : Value → List ℕ
value_text none = []
value_text (weight w) = 32 ∷ hex_text (bits_of (weight w))
value_text nothing = 32 ∷ hex_text (bits_of nothing)
value_text (bit b) = 32 ∷ digit (bits_of (bit b)) ∷ []
value_text (dimension n) = []
value_text (pair p) = []

-- the line of an answer: the kind, the refusal number or 0, and the value
abbrev pub answer_text : ℕ → View → List ℕ
answer_text kind v = decimal kind ++ (32 ∷ []) ++ decimal v.number ++ value_text v.value ++ (10 ∷ [])

pub record Promised : Type 0 where
  -- a line is the text of the answer, by its number and value
  pub text : (kind : ℕ) (v : View) → line_text (line_of kind v) ≡ answer_text kind v
  -- a record that does not read, or may not come now, leaves everything as it was, under the line `0 8`
  pub stopped : (s : Session) (store work : List Float) (bytes : List ℕ) → obeys s (read_of bytes) ≡ false → step_of s store work bytes ≡ turned_away s store work
  -- any other record has a line of its kind, which is never 0
  pub obeyed : (s : Session) (store work : List Float) (bytes : List ℕ) → obeys s (read_of bytes) ≡ true
      → ((step_of s store work bytes).line.kind ≡ kind_of bytes) × (1 ≤ kind_of bytes)
  -- a refused start leaves what was before any start, so that another may follow
  pub unstarted : (store work : List Float) (n d exponent : ℕ) (epsilon clamp : Float) → (let l = start_step store n d exponent epsilon clamp work in
      (l.line.number ≡ 0 → ⊥) → (l.session ≡ new_session) × (l.store ≡ store) × (l.work ≡ work))
