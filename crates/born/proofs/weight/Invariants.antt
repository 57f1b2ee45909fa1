use mathlib.Core.Path.{◌≡◌}
use Rattle.complex.specs.Complex.{norm_sqr, zero_f}
use Rattle.complex.specs.Loops.{sum_f}
use Rattle.model.specs.Slots.{amplitude}
use Rattle.model.specs.Born.{bit_of}
use Rattle.born.proofs.weight.Given as goal

abbrev pub invariant-loop-a : goal.invariant-loop-a
invariant-loop-a l = l.sum ≡ sum_f l.a (λ k. sum_f l.br (λ b. norm_sqr (amplitude l.site l.br k (bit_of l.o) b)) zero_f) zero_f
