-- `root::digits` meets its contract. After j turns the loop stands as `After` has it (`specs/Digits.antt`). Assumes nothing.
use Rattle.std.proofs.Common.{◌+◌, ◌*◌, ◌%◌, ◌^◌}
use Rattle.root.specs.Digits.{After}
use Rattle.root.proofs.digits.Given as goal

abbrev pub invariant-loop : goal.invariant-loop
invariant-loop l = After (l.d * 2 ^ 10 % 2 ^ 64) (l.initial.q * l.initial.q + l.initial.r) l.counter l.s l.q l.r
