-- Laws of `leading` and `rank`: the count at place k of a list, and how large a rank is. Assumes nothing.
use Rattle.std.specs.Prelude.{◌≡◌, refl, cond, true, false, List, [], ◌∷◌, ℕ, zero, suc, ◌+◌, ◌≤◌, ◌<◌, Float, length, get_or, drop}
use Rattle.std.proofs.Common.{ap, not-suc-le-zero, add-one, arith, drop-cons}
use Rattle.std.specs.List.{prefix_len}
use Rattle.std.specs.Float.{nan, binary64}
use Rattle.std.specs.Float.Ieee.{mul, lt}
use Rattle.complex.specs.Complex.{zero_f}
use Rattle.model.specs.Truncation.{leading, rank}
use Rattle.model.proofs.Laws.Reasons.{leading_within}

-- ---- the values that lead are the longest front whose values are all above b

pub leading_front : (b : Float) (s : List Float) → prefix_len (lt b) s ≡ leading b s
leading_front b [] = refl
leading_front b (x ∷ s) =
    let e : 1 + prefix_len (lt b) s ≡ suc (leading b s) = omega (arith, leading_front b s) in
    ap (λ (n : ℕ). cond (lt b x) n 0) e

-- ---- from place k on: the value there leads or not, or there is none

module _ (b : Float) (s : List Float) (k : ℕ) where
  pub leading_on : k < length s → lt b (get_or s k nan) ≡ true → leading b (drop k s) ≡ suc (leading b (drop (k + 1) s))
  leading_on h t = rw (add-one, drop-cons s k nan h, t)

  pub leading_stop : k < length s → lt b (get_or s k nan) ≡ false → leading b (drop k s) ≡ 0
  leading_stop h t = rw (drop-cons s k nan h, t)

pub leading_none : (b : Float) (s : List Float) (k : ℕ) → length s ≤ k → leading b (drop k s) ≡ 0
leading_none b [] zero h = refl
leading_none b [] (suc k) h = refl
leading_none b (x ∷ s) zero h = absurd (not-suc-le-zero h)
leading_none b (x ∷ s) (suc k) h = leading_none b s k (omega arith)

-- ---- a rank is at most the number of values

pub rank_within : (epsilon : Float) (cap : ℕ) (s : List Float) → 0 < length s → rank epsilon cap s ≤ length s
unfolding rank
rank_within epsilon cap s h = omega (arith, leading_within (mul binary64 epsilon (get_or s 0 zero_f)) s)
