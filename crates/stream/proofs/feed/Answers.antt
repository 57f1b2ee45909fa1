use Rattle.std.proofs.Common.{arith, sym, ◌∙◌, length-set}
use Rattle.stream.specs.Feeding.{with_byte, after}
use Rattle.stream.proofs.Laws.Turns.{whole_within, one_byte}
use Rattle.stream.proofs.feed.Goals as goal

pub do_if_whole-requires-clause-in_bytes : goal.do_if_whole-requires-clause-in_bytes
do_if_whole-requires-clause-in_bytes c = simp length-set (omega (arith, (c.can_take.ensures.has_room c.if-not-can_take.false).0))

pub loop-byte-preserved : goal.loop-byte-preserved
loop-byte-preserved c =
    let l = c.loop-byte in
    let f = after l.fed l.store l.work l.bytes l.text in
    let piece = c.args.piece.now in
    let d = c.do_if_whole in
    let w = whole_within (with_byte f _) _ d.ensures (c.can_take.ensures.has_room c.if-not-can_take.false).1 in
    (omega (arith, w.0, l.invariant.0), w.1, one_byte f piece l.byte-index c.loop-byte-test.true (sym c.can_take.ensures.as_defined ∙ c.if-not-can_take.false) _ d.ensures ∙ l.invariant.2)
