-- The outer invariant: the first j columns are done. The inner one: the passes that are left end where all three end.
use mathlib.Core.Path.{◌≡◌}
use Prim.Native.Nat.{◌≤◌, ◌<◌, ◌-◌, min}
use Rattle.complex.specs.Loops.{each}
use Rattle.model.specs.Qr.{passes_of, kept, column_of}
use Rattle.qr.proofs.factorize_gram_schmidt.Given as goal

abbrev pub invariant-loop-previous : goal.invariant-loop-previous
invariant-loop-previous l = (l.pass < 3) × (passes_of l.fn.high l.fn.wide l.rank l.j (3 - l.pass) l.previous l.w ≡ passes_of l.fn.high l.fn.wide l.rank l.j 3 l.initial.previous l.initial.w)

abbrev pub invariant-loop-j : goal.invariant-loop-j
invariant-loop-j l = (l.rank ≤ min l.fn.high l.fn.wide) × (kept l.rank l.w ≡ each l.j (column_of l.fn.high l.fn.wide (min l.fn.high l.fn.wide)) (kept l.initial.rank l.initial.w))

abbrev pub decreases-loop-previous : goal.decreases-loop-previous
decreases-loop-previous l = 3 - l.pass
