use mathlib.Core.Path.{◌≡◌}
use Rattle.complex.specs.Loops.{each}
use Rattle.model.specs.Qr.{projected_on}
use Rattle.qr.proofs.ThinQr.one_pass.Given as goal

abbrev pub invariant-loop-i : goal.invariant-loop-i
invariant-loop-i l = l.w ≡ each l.i (projected_on l.self.high l.self.wide l.j) l.initial.w
