-- Document 01's grounds for the line `0 8`, each on one record of its examples.
use Rattle.std.specs.Prelude.{◌≡◌, List, [], ◌∷◌, Float}
use Rattle.std.proofs.Math.Path.{ap}
use Rattle.std.proofs.Math.Bool.{true, false}
use Rattle.model.specs.declared.Chain.{Chain}
use Rattle.record.specs.Reading.{next}
use Rattle.record.specs.Worked.{whole_case, first_record, third_record, kind_nine_lem, one_too_few}
use Rattle.session.specs.declared.Session.{Session}
use Rattle.session.specs.Session.{session, turned_away, in_turn, read_step, step_of}

module _ (store work : List Float) where
  -- an unknown kind, and a record that is cut off
  module _ (s : Session) where
    pub unknown_kind : step_of s store work (0x02 ∷ 0x00 ∷ 0x09 ∷ 0x00 ∷ []) ≡ turned_away s store work
    unfolding step_of
    unknown_kind = ap (read_step s store work) kind_nine_lem

    pub cut_off : step_of s store work (0x04 ∷ 0x00 ∷ 0x04 ∷ 0x00 ∷ 0x00 ∷ []) ≡ turned_away s store work
    unfolding step_of
    cut_off = ap (read_step s store work) one_too_few

  -- a start after an accepted one, and a projection before one
  module _ (c : Chain) where
    pub second_start : step_of (session true c) store work whole_case ≡ turned_away (session true c) store work
    unfolding step_of in_turn
    second_start = ap (read_step (session true c) store work) first_record

    pub no_start : step_of (session false c) store work (next (next whole_case)) ≡ turned_away (session false c) store work
    unfolding step_of in_turn
    no_start = ap (read_step (session false c) store work) third_record
