-- What a cut keeps of its singular values s, why, and what it records (truncated_svd_rank, discards_resolvable_weight, record_truncation, cut_rank).
use Rattle.std.specs.Prelude.{ℕ, codes, suc, ◌+◌, ◌-◌, ◌*◌, min, max, Bool, cond, ◌&&◌, ◌||◌, List, [], ◌∷◌, ltb, leb, Float, get_or, length}
use Rattle.std.specs.Float.{nan, binary64}
use Rattle.std.specs.Float.Ieee.{add, mul, div, lt, le, of_bits}
use Rattle.complex.specs.Complex.{zero_f}
use Rattle.complex.specs.Loops.{sum_f}
use Rattle.model.specs.declared.Reason.{Reason}
use Rattle.model.specs.declared.Reason.TheVariants.{Floor, Cap, Tolerance, Full}

-- how many lead that are above b
abbrev pub leading : Float → List Float → ℕ
leading b [] = 0
leading b (x ∷ xs) = cond (lt b x) (suc (leading b xs)) 0

-- how many lead that are above epsilon times the first
abbrev pub above_threshold : Float → List Float → ℕ
above_threshold epsilon s = leading (mul binary64 epsilon (get_or s 0 zero_f)) s

-- those, raised to 1, lowered to the cap
unfoldable pub rank : Float → ℕ → List Float → ℕ
rank epsilon cap s = min (max (above_threshold epsilon s) 1) cap

-- why, where n of so many values lead: raised to 1, else lowered, else below their number, else none of these (document 02, W3)
abbrev pub reason_by : ℕ → ℕ → ℕ → Reason
reason_by n cap many = cond (ltb n 1) Floor (cond (ltb cap n) Cap (cond (ltb n many) Tolerance Full))

unfoldable pub rank_reason : Float → ℕ → List Float → Reason
rank_reason epsilon cap s = reason_by (above_threshold epsilon s) cap (length s)

-- the word that is printed for a reason
abbrev pub reason_name : Reason → List ℕ
reason_name Floor = codes "Floor"
reason_name Cap = codes "Cap"
reason_name Tolerance = codes "Tolerance"
reason_name Full = codes "Full"

-- 4 * 2^-52 (SVD_RESOLUTION)
abbrev pub resolution : Float
resolution = of_bits binary64 0x3cd0_0000_0000_0000

-- the first value that is not kept is above the resolution times the first value
unfoldable pub resolvable : List Float → ℕ → Bool
resolvable s kept = ltb kept (length s) && lt (mul binary64 resolution (get_or s 0 nan)) (get_or s kept nan)

-- the squares from place k on, summed
abbrev pub squares_from : ℕ → List Float → Float
squares_from k s = sum_f (length s - k) (λ j. mul binary64 (get_or s (k + j) nan) (get_or s (k + j) nan)) zero_f

-- the share of the weight that is dropped, if something is dropped and the total is not at most 0
unfoldable pub share : List Float → ℕ → List Float
share s kept = cond (leb (length s) kept || le (squares_from 0 s) zero_f) [] (div binary64 (squares_from kept s) (squares_from 0 s) ∷ [])

-- shares added to the weight discarded before, from the left
abbrev pub recorded : Float → List Float → Float
recorded before [] = before
recorded before (x ∷ xs) = recorded (add binary64 before x) xs

-- the most values that a cut of these bonds can have
abbrev pub cut_rank : ℕ → ℕ → ℕ → ℕ
cut_rank bl mid br = min (2 * min bl br) (4 * mid)

-- the numbers that a cut of these bonds works in
abbrev pub workspace : ℕ → ℕ → ℕ → ℕ
workspace bl mid br = 20 * bl * br + 2 * mid * br
