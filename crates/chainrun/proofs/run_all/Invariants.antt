use Rattle.std.specs.Prelude.{IfSome}
use Rattle.chainrun.specs.Program.{in_memory}
use Rattle.chainrun.proofs.Turning.{Going}
use Rattle.chainrun.proofs.run_all.Given as goal

abbrev pub invariant-loop : goal.invariant-loop
invariant-loop g l = IfSome (g.R.Read.remaining l.initial.reader) (λ input. Going (in_memory l.run l.memory) input l.counter (g.R.Read.remaining l.reader) (g.W.Write.contents l.initial.writer) (g.W.Write.contents l.writer))
