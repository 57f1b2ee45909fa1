use Rattle.std.specs.Prelude.{◌≤◌, ◌≡◌, length, drop}
use Rattle.stream.specs.Feeding.{after, fed}
use Rattle.stream.proofs.feed.Given as goal

-- the bytes that are left do the rest of what the piece does
abbrev pub invariant-loop-byte : goal.invariant-loop-byte
invariant-loop-byte l = (l.fed.used ≤ l.byte-index) × (l.fed.written ≤ length l.text)
    × (fed (after l.fed l.store l.work l.bytes l.text) (drop l.byte-index l.piece) ≡ fed (after l.initial.fed l.initial.store l.initial.work l.initial.bytes l.initial.text) l.piece)
