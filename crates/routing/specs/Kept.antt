-- What a swap leaves of the record.
use Rattle.std.specs.Prelude.{ℕ, ◌+◌, ◌<◌, ◌≡◌, List, Float}
use Rattle.model.specs.declared.Chain.{Chain}
use Rattle.model.specs.Routing.{relabelled}
use Rattle.model.proofs.Laws.SoundChanges.{relabelled_sound}
use Rattle.moves.specs.Ready.{Ready}

pub relabelled_ready : (c r : Chain) (store work : List Float) (k : ℕ) → Ready c store work → k + 1 < c.num_qubits → r ≡ relabelled k c → Ready r store work
relabelled_ready c r store work k h l e = record { sound = rw e (relabelled_sound c h.sound k l); store_room_lem = rw e h.store_room_lem; work_room_lem = rw e h.work_room_lem }
