use Rattle.std.proofs.Common.{◌≡◌, eqb, get_or}
use Rattle.std.specs.Float.{nan, binary64}
use Rattle.std.specs.Float.Ieee.{to_bits}
use Rattle.complex.specs.Loops.{every}
use Rattle.sound.proofs.discarded_fits.Given as goal

abbrev pub invariant-loop-x : goal.invariant-loop-x
invariant-loop-x l = l.ok ≡ every l.x-index (λ k. eqb (to_bits binary64 (get_or l.x-items k nan)) 0)
