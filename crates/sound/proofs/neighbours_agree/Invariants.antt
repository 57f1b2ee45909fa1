use Rattle.std.proofs.Common.{◌≡◌, ◌+◌, eqb, get_or, length}
use Rattle.complex.specs.Loops.{every}
use Rattle.sound.proofs.neighbours_agree.Given as goal

abbrev pub invariant-loop-a : goal.invariant-loop-a
invariant-loop-a l = l.ok ≡ every (length l.yielded) (λ k. eqb (get_or l.right k 0) (get_or l.left (k + 1) 0))
