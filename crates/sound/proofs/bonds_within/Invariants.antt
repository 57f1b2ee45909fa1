use Rattle.std.proofs.Common.{◌≡◌, get_or}
use Rattle.complex.specs.Loops.{every}
use Rattle.model.specs.Sound.{within}
use Rattle.sound.proofs.bonds_within.Given as goal

abbrev pub invariant-loop-x : goal.invariant-loop-x
invariant-loop-x l = l.ok ≡ every l.x-index (λ k. within 1 l.high (get_or l.x-items k 0))
