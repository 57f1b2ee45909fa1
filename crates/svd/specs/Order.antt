-- Every entry of an order of n columns is a column. Assumes nothing.
use Rattle.std.specs.Prelude.{List, [], ◌∷◌, ℕ, zero, suc, ◌<◌, Float, get_or, set, replicate}
use Rattle.complex.specs.Loops.{each_keeps}
use Rattle.model.specs.Svd.{place, order_of}

-- each entry is below n
abbrev pub Below : ℕ → List ℕ → Type 0
Below n o = (k : ℕ) → get_or o k 0 < n

below_set : (n : ℕ) (o : List ℕ) (i v : ℕ) → v < n → Below n o → Below n (set o i v)
below_set n [] i v l h k = h k
below_set n (x ∷ o) zero v l h zero = l
below_set n (x ∷ o) zero v l h (suc k) = h (suc k)
below_set n (x ∷ o) (suc i) v l h zero = h zero
below_set n (x ∷ o) (suc i) v l h (suc k) = below_set n o i v l (λ k. h (suc k)) k

below_zeros : (n m : ℕ) → 0 < n → Below n (replicate m 0)
below_zeros n zero z k = z
below_zeros n (suc m) z zero = z
below_zeros n (suc m) z (suc k) = below_zeros n m z k

pub order_below : (n : ℕ) (s : ℕ → Float) → 0 < n → Below n (order_of n s)
unfolding order_of
order_below n s z = each_keeps (Below n) n _ (λ j o l h. below_set n o (place n s j) j l h) (replicate 256 0) (below_zeros n 256 z)
