-- Which qubits the first pairs of a layer name, as marks, and what these say of a pair that comes after them.
use Rattle.std.specs.Prelude.{ℕ, zero, suc, ◌+◌, ◌<◌, ◌≡◌, refl, Bool, true, false, not, ◌&&◌, ◌||◌, List, eqb, length, replicate, get_or, set}
use Rattle.std.proofs.Common.{arith, get_or-set_other}
use Rattle.std.proofs.lemmas.Bool.Decides.{nat_tests}
use Rattle.std.proofs.lemmas.Grind.{get_or-set_at}
use Rattle.std.proofs.lemmas.List.{length-set, get_or-replicate}
use Rattle.complex.specs.Loops.{each, each_keeps, every, every_more}
use Rattle.model.specs.Layers.{first, second}
use Rattle.model.specs.Calls.{meet}

-- the qubits that the first p pairs name
abbrev pub marked : List ℕ → ℕ → List Bool
marked pairs p = each p (λ r xs. set (set xs (first pairs r) true) (second pairs r) true) (replicate 64 false)

-- pair p names no qubit that one before it names
abbrev pub free : List ℕ → ℕ → Bool
free pairs p = every p (λ r. not (meet pairs r p))

marked_long : (pairs : List ℕ) (p : ℕ) → length (marked pairs p) ≡ 64
marked_long pairs p = each_keeps (λ (xs : List Bool). length xs ≡ 64) p _ (λ r xs l e. simp length-set e) (replicate 64 false) refl

-- two marks more
marks : (xs : List Bool) (a b q : ℕ) → q < length xs → get_or (set (set xs a true) b true) q false ≡ (get_or xs q false || eqb a q || eqb b q)
marks xs a b q l = grind (arith, nat_tests, get_or-set_at, get_or-set_other, length-set)

module _ (pairs : List ℕ) (p : ℕ) (low : first pairs p < 64) (high : second pairs p < 64) where
  -- pair p meets none of the first k pairs where these mark neither of its qubits
  met : (k : ℕ) → every k (λ r. not (meet pairs r p)) ≡ not (get_or (marked pairs k) (first pairs p) false || get_or (marked pairs k) (second pairs p) false)
  unfolding every each
  met zero = rw (get_or-replicate 64 (first pairs p) false false low, get_or-replicate 64 (second pairs p) false false high)
  met (suc k) =
      let l = marked_long pairs k in
      rw (met k, marks (marked pairs k) (first pairs k) (second pairs k) (first pairs p) (omega arith), marks (marked pairs k) (first pairs k) (second pairs k) (second pairs p) (omega arith)) (grind arith)

  pub free_more : every (p + 1) (free pairs) ≡ (every p (free pairs) && not (get_or (marked pairs p) (first pairs p) false || get_or (marked pairs p) (second pairs p) false))
  free_more = rw (every_more, met p)
