use Rattle.std.proofs.Common.{◌≡◌, eqb, get_or}
use Rattle.complex.specs.Loops.{every}
use Rattle.sound.proofs.zeros_from.Given as goal

abbrev pub invariant-loop-x : goal.invariant-loop-x
invariant-loop-x l = l.ok ≡ every l.x-index (λ k. eqb (get_or l.x-items k 0) 0)
