-- The invariant: the blocks before a are stored.
use mathlib.Core.Path.{◌≡◌}
use Rattle.std.specs.Prelude.{not, eqb}
use Rattle.complex.specs.Loops.{each}
use Rattle.model.specs.Pair.{gated_theta}
use Rattle.pair.specs.Blocks.{block, place_of, element_of}
use Rattle.pair.proofs.Neighbours.contract_line.Given as goal

abbrev pub invariant-loop-a : goal.invariant-loop-a
invariant-loop-a g l =
    let x = l.self in
    let adjoint = not (eqb g.row.ADJOINT 0) in
    l.out ≡ each l.a (block (place_of adjoint x.bonds.left x.bonds.right) (element_of adjoint (gated_theta x.gate.now x.bonds.mid x.bonds.right x.left.now x.right.now)) l.b) l.initial.out
