use Rattle.stream.specs.Feeding.{after}
use Rattle.stream.proofs.Laws.Turns.{is_done}
use Rattle.stream.proofs.Fed.do_record.Goals as goal

pub returns : goal.returns
returns c = let a = c.args in
    is_done (after a.self.now a.store.now a.work.now a.bytes.now a.text.now) c.requires.is_whole c.requires.has_room _ _ _ _ c.step-out.ensures c.stops-self.ensures c.write_line.ensures.out_after c.write_line.ensures.value
