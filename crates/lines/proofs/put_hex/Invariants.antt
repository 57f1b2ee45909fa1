use Rattle.std.proofs.Common.{◌≡◌, take}
use Rattle.complex.specs.Loops.{tabulate}
use Rattle.lines.specs.Text.{hex_at}
use Rattle.lines.proofs.put_hex.Given as goal

abbrev pub invariant-loop-k : goal.invariant-loop-k
invariant-loop-k l = take l.k l.digit-items ≡ tabulate l.k (hex_at l.x)
