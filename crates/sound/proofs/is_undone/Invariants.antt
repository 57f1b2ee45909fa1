use Rattle.std.proofs.Common.{◌≡◌, ◌&&◌, ltb, eqb, get_or}
use Rattle.complex.specs.Loops.{every}
use Rattle.sound.proofs.is_undone.Given as goal

abbrev pub invariant-loop-i : goal.invariant-loop-i
invariant-loop-i l = l.ok ≡ every l.i (λ k. ltb (get_or l.s-items k 0) l.n && eqb (get_or l.back (get_or l.s-items k 0) 0) k)
