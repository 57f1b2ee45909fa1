use Rattle.std.proofs.Common.{◌≤◌, ◌<◌, length, take, sym, subst, arith, length-take-le}
use Rattle.std.specs.Io.KnownBytes.{Consumes}
use Rattle.stream.specs.Feeding.{Feeding, after}
use Rattle.stream.proofs.Laws.Turns.{fed_within}
use Rattle.chainrun.proofs.Turning.{at_the_end, after_a_piece}
use Rattle.chainrun.proofs.turn.Goals as goal

pub print_front-requires : goal.print_front-requires
print_front-requires g c = subst (λ (f : Feeding). f.progress.written ≤ length f.progress.text) (sym c.feed-fed.ensures) (fed_within _ _ (omega arith))

pub returns-then-got-eq0 : goal.returns-then-got-eq0
returns-then-got-eq0 g c u =
    let a = c.args in
    let m = a.memory.now in
    let piece = c.read_piece.new.piece in
    let before_it = g.R.Read.remaining a.reader.now in
    let left = g.R.Read.remaining c.read_piece.new.reader in
    let some_room : 0 < length piece = omega (arith, m.room.1, c.read_piece.auto.piece) in
    let bytes = c.in_ok-got.ensures.bytes in
    at_the_end a.run m.store.now m.work.now m.bytes.now m.text.now u piece before_it left (g.W.Write.contents a.writer.now) (g.W.Write.contents c.print_end.new.writer)
    some_room (omega (arith, m.room.2, c.read_piece.auto.piece)) (subst (λ n. Consumes before_it left (take n piece)) c.if-got-eq0.true bytes.0) (bytes.1 c.if-got-eq0.true some_room) c.in_ok-print_end.ensures

pub returns : goal.returns
returns g c u =
    let a = c.args in
    let m = a.memory.now in
    let got = c.in_ok-got.got in
    let piece = c.read_piece.new.piece in
    let within = c.in_ok-got.ensures.in_bounds in
    let size = length-take-le got piece within in
    let fed = c.feed-fed in
    after_a_piece a.run m.store.now m.work.now m.bytes.now m.text.now u (take got piece) (omega (arith, m.room.2, c.read_piece.auto.piece, size, within)) (after fed.result fed.new.store fed.new.work fed.new.bytes fed.new.text) c.then_some.result
    (g.R.Read.remaining a.reader.now) (g.R.Read.remaining c.read_piece.new.reader) (g.W.Write.contents a.writer.now) (g.W.Write.contents c.print_front.new.writer)
    fed.ensures c.then_some.ensures (omega (arith, size, c.if-got-eq0.false)) c.in_ok-got.ensures.bytes.0 c.in_ok-print_front.ensures
