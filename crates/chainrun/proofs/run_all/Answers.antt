use Rattle.chainrun.specs.Program.{in_memory}
use Rattle.chainrun.proofs.Turning.{begun, another, the_last, too_many}
use Rattle.chainrun.proofs.run_all.Goals as goal

pub loop-init : goal.loop-init
loop-init g c =
    let a = c.args in
    let m = a.memory.now in
    begun c.new_run-run.result m.store.now m.work.now m.bytes.now m.text.now (g.R.Read.remaining a.reader.now) (g.W.Write.contents a.writer.now) c.new_run-run.ensures c.requires.store_value c.requires.work_value m.room.0

pub returns-in_default : goal.returns-in_default
returns-in_default g c =
    let a = c.args in
    let l = c.loop in
    let n = c.turn.new in
    the_last (in_memory l.run l.memory) l.counter (g.R.Read.remaining l.reader) (g.R.Read.remaining n.reader)
    (g.W.Write.contents a.writer.now) (g.W.Write.contents l.writer) (g.W.Write.contents n.writer) (λ r. in_memory r n.memory) _ (g.R.Read.remaining a.reader.now) c.in_default.is l.invariant c.in_ok-after.ensures

pub loop-preserved : goal.loop-preserved
loop-preserved g c =
    let a = c.args in
    let l = c.loop in
    let n = c.turn.new in
    another (in_memory l.run l.memory) l.counter (g.R.Read.remaining l.reader) (g.R.Read.remaining n.reader)
    (g.W.Write.contents a.writer.now) (g.W.Write.contents l.writer) (g.W.Write.contents n.writer) (λ r. in_memory r n.memory) _ (g.R.Read.remaining a.reader.now) _ c.in-Some.is l.invariant c.in_ok-after.ensures

pub returns : goal.returns
returns g c =
    let a = c.args in
    let l = c.loop in
    too_many (in_memory l.run l.memory) l.counter (g.R.Read.remaining a.reader.now) (g.R.Read.remaining l.reader) (g.W.Write.contents a.writer.now) (g.W.Write.contents l.writer) c.loop-test.false l.invariant
