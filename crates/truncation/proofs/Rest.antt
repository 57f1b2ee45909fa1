-- The items of a list's rest are the list's. Assumes nothing.
use Rattle.std.proofs.Common.{◌≡◌, ℕ, ◌+◌, ◌-◌, List, length, get_or, take, drop}
use Rattle.std.proofs.lemmas.List.{get_or-drop, take_rest}
use lib.Ieee.{Float, nan}

pub rest_at : (s : List Float) (from k : ℕ) → get_or (take (length s - from) (drop from s)) k nan ≡ get_or s (from + k) nan
rest_at s from k = rw (take_rest s from, get_or-drop)
