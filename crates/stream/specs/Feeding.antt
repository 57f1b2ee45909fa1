-- What a piece of the input does to a run, byte by byte, and what the input's end does.
use Rattle.std.specs.Prelude.{ℕ, ◌+◌, ◌-◌, ◌≤◌, ◌≡◌, Bool, false, not, cond, ◌&&◌, ◌||◌, List, [], ◌∷◌, ◌++◌, eqb, ltb, leb, Float, length, set, take}
use Rattle.std.proofs.lemmas.List.Edits.{sets}
use Rattle.record.specs.Frames.{frames, whole}
use Rattle.lines.specs.Text.{line_text, line_room, written, written_length}
use Rattle.session.specs.declared.Session.{Session}
use Rattle.session.specs.Session.{Left, new_session, stop_line, step_of}
use Rattle.stream.specs.declared.Run.{Run}
use Rattle.stream.specs.declared.Fed.{Fed}
use Rattle.stream.specs.Output.{stops, lines_from, text_of_lines}

-- ---- what the records that are done have left: the session, whether reading has stopped, the lent slices, and how much of the text is written

pub record Progress : Type 0 where
  pub session : Session
  pub stopped : Bool
  pub store : List Float
  pub work : List Float
  pub text : List ℕ
  pub written : ℕ

abbrev pub progress : Session → Bool → List Float → List Float → List ℕ → ℕ → Progress
progress s stopped store work text n = record { session = s; stopped = stopped; store = store; work = work; text = text; written = n }

-- a step, and its line behind the text
abbrev pub printed : Left → List ℕ → ℕ → Progress
printed l text n = progress l.session (stops l.line) l.store l.work (sets text n (line_text l.line)) (n + length (line_text l.line))

abbrev pub record_done : Progress → List ℕ → Progress
record_done p r = printed (step_of p.session p.store p.work r) p.text p.written

-- ---- with the record in progress: the slice that holds its bytes, how many are there, and how many bytes of the piece were taken

pub record Feeding : Type 0 where
  pub progress : Progress
  pub bytes : List ℕ
  pub pending : ℕ
  pub used : ℕ

abbrev pub feeding : Progress → List ℕ → ℕ → ℕ → Feeding
feeding p bytes pending used = record { progress = p; bytes = bytes; pending = pending; used = used }

abbrev pub in_progress : Feeding → List ℕ
in_progress f = take f.pending f.bytes

-- a byte behind the others
abbrev pub with_byte : Feeding → ℕ → Feeding
with_byte f b = feeding f.progress (set f.bytes f.pending b) (f.pending + 1) (f.used + 1)

-- a record that is whole is done, and the next begins
unfoldable pub if_whole : Feeding → Feeding
if_whole f = cond (whole (in_progress f)) (feeding (record_done f.progress (in_progress f)) f.bytes 0 f.used) f

-- whether a byte more can be taken: reading has not stopped, the byte has a place, and a line has room
unfoldable pub can_take : Bool → ℕ → ℕ → ℕ → ℕ → Bool
can_take stopped pending places written room = not stopped && (ltb pending places && leb line_room (room - written))

abbrev pub takes : Feeding → Bool
takes f = can_take f.progress.stopped f.pending (length f.bytes) f.progress.written (length f.progress.text)

-- bytes, one after the other, up to one that cannot be taken
unfoldable pub fed : Feeding → List ℕ → Feeding
fed f [] = f
fed f (b ∷ bs) = cond (takes f) (fed (if_whole (with_byte f b)) bs) f

-- ---- as the function has it: a run and the slices that it is lent, before a piece and after

abbrev pub before : Run → List Float → List Float → List ℕ → List ℕ → Feeding
before r store work bytes text = feeding (progress r.session r.stopped store work text 0) bytes r.pending 0

abbrev pub after : Fed → List Float → List Float → List ℕ → List ℕ → Feeding
after r store work bytes text = feeding (progress r.run.session r.run.stopped store work text r.written) bytes r.run.pending r.used

abbrev pub run_of : Feeding → Run
run_of f = record { session = f.progress.session; pending = f.pending; stopped = f.progress.stopped }

abbrev pub new_run : Run
new_run = record { session = new_session; pending = 0; stopped = false }

-- ---- the input's end: a record that is cut off gives `0 8`

pub record Ending : Type 0 where
  pub text : List ℕ
  pub written : ℕ

abbrev pub ending : List ℕ → ℕ → Ending
ending text n = record { text = text; written = n }

abbrev pub is_between : Run → Bool
is_between r = r.stopped || eqb r.pending 0

unfoldable pub ended : Run → List ℕ → Ending
ended r text = cond (is_between r) (ending text 0) (ending (written stop_line text) (written_length stop_line text))

-- ---- what is printed

-- the text that is written
abbrev pub text_so_far : Feeding → List ℕ
text_so_far f = take f.progress.written f.progress.text

-- what is still to be printed if these bytes come, and then the input's end
abbrev pub to_come : Feeding → List ℕ → List ℕ
to_come f bytes = text_of_lines (cond f.progress.stopped [] (lines_from f.progress.session f.progress.store f.progress.work (frames (in_progress f ++ bytes))))

-- a run as pieces leave it: the slice has a place for the longest record, and the bytes in it are not a whole one yet
pub record Underway (f : Feeding) : Type 0 where
  pub places : 262 ≤ length f.bytes
  pub part : whole (in_progress f) ≡ false
