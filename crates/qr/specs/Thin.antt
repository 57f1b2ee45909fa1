-- How many numbers a matrix and its r have.
use Rattle.std.specs.Prelude.{ℕ, ◌+◌, ◌*◌}
use Rattle.qr.specs.declared.ThinQr.{ThinQr}

abbrev pub numbers : ThinQr → ℕ
numbers s = s.wide * s.high + s.cap * s.wide
