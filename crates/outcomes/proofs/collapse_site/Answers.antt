use mathlib.Core.Path.{refl}
use Rattle.outcomes.specs.Slot.{collapsed}
use Rattle.outcomes.proofs.collapse_site.Goals as goal

pub returns : goal.returns
returns g c = let a = c.args in collapsed _ a.k a.o a.w a.mps.now c.requires.w_value _ c.requires.k_bound c.if-w-mps.false refl refl refl (rw (c.collapse.ensures, c.from-bl.ensures, c.from-br.ensures))
