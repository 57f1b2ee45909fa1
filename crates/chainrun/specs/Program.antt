-- What the program prints, whatever it reads from and writes to.
use Rattle.std.specs.Prelude.{ℕ, ◌-◌, ◌^◌, ◌<◌, ◌≡◌, false, List, [], ◌++◌, length, Some, IfSome, option_map, unwrap_or}
use Rattle.std.specs.Io.KnownBytes.{Appends}
use Rattle.std.specs.declared.option.Option.{Option}
use Rattle.stream.specs.declared.Run.{Run}
use Rattle.stream.specs.Output.{text_of}
use Rattle.stream.specs.Feeding.{Feeding, before, to_come, Underway}
use Rattle.chainrun.specs.declared.memory.Memory.{Memory}

-- a run, with the memory that it is lent
abbrev pub in_memory : Run → Memory → Feeding
in_memory run m = before run m.store.now m.work.now m.bytes.now m.text.now

-- a turn where `input` was still to be read. What it printed, and what is to come of the rest, is what was to come of the input. Where no other turn is to follow nothing is to come, and after the line `0 8` none is to follow
pub record Turn (f : Feeding) (next : Option Feeding) (input : List ℕ) (left old new : Option (List ℕ)) : Type 0 where
  pub underway : IfSome next Underway
  pub printed : List ℕ
  pub rest : List ℕ
  pub reads : left ≡ Some rest
  pub writes : Appends old new printed
  pub shorter : IfSome next (λ g. length rest < length input)
  pub stops : IfSome next (λ g. g.progress.stopped ≡ false)
  pub text : printed ++ unwrap_or (option_map (λ g. to_come g rest) next) [] ≡ to_come f input

-- behind what was written stands the text of the input, where that is known and has no more bytes than there are turns
abbrev pub Prints : Option (List ℕ) → Option (List ℕ) → Option (List ℕ) → Type 0
Prints left old new = IfSome left (λ input. length input < 2 ^ 64 - 1 → Appends old new (text_of input))
