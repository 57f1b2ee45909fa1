-- The invariant: the blocks of each b before this one are stored. All of them fill the matrix.
use mathlib.Core.Path.{◌≡◌}
use Rattle.std.specs.Prelude.{not, eqb}
use Rattle.complex.specs.Loops.{each}
use Rattle.model.specs.Pair.{gated_theta}
use Rattle.pair.specs.Blocks.{line, place_of, element_of}
use Rattle.pair.proofs.Neighbours.contract.Given as goal

abbrev pub invariant-loop-b : goal.invariant-loop-b
invariant-loop-b g l =
    let x = l.self in
    let adjoint = not (eqb g.row.ADJOINT 0) in
    l.out ≡ each l.b (line x.bonds.left (place_of adjoint x.bonds.left x.bonds.right) (element_of adjoint (gated_theta x.gate.now x.bonds.mid x.bonds.right x.left.now x.right.now))) l.initial.out
