-- Laws of `specs/Marked.antt`.
use Rattle.std.specs.Prelude.{◌≡◌, true, refl}
use Rattle.std.specs.Float.Ieee.{is_nan, of_bits, to_bits}
use Rattle.root.specs.Units.{in_units}
use Rattle.root.specs.NearestRoot.{nearest_root}
use Rattle.root.specs.Norm.{norm_of}
use Rattle.root.specs.Marked.{all_hold, table}

pub marked : all_hold table ≡ true
unfolding table is_nan of_bits to_bits in_units nearest_root norm_of
marked = refl
