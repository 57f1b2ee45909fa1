-- An array of entries that calls of a closure gave, at 0, 1, 2, .. in turn: its answer at each place, where that hangs on the place alone.
use denote.Param.Members.{Mut}
use native.Mathlib.Omega.{arith}
use Rattle.std.specs.Array.{IsFromFnResult, IsFromFnResultFrom}
use Rattle.std.specs.Fn.{Called}
use Rattle.std.specs.Prelude.{ℕ, zero, suc, ◌+◌, ◌<◌, ◌≡◌, List, get_or}
use Rattle.std.proofs.Common.{◌∙◌, sym}
use Rattle.std.proofs.lemmas.Grind.{same_number_lists}
use Rattle.complex.specs.Loops.{tabulate, length_tabulate, get_d_tabulate}

module _ {F : Type 0} (g : Mut F (ℕ × Unit {0}) ℕ) (v : ℕ → ℕ) (f : F) (gives : (i y : ℕ) (q : F) → Called g f (i, tt) y q → (y ≡ v i) × (q ≡ f)) where
  entry_made : (ys : List ℕ) (i n : ℕ) → IsFromFnResultFrom g f ys i n → (k : ℕ) → k < n → get_or ys (i + k) 0 ≡ v (i + k)
  entry_made ys i zero h k l = absurd (omega arith)
  entry_made ys i (suc n) h zero l =
      let e : i + 0 ≡ i = omega arith in
      rw e (h.2.1 0 ∙ (gives i h.1 h.0 h.3).0)
  entry_made ys i (suc n) h (suc k) l =
      let e : i + suc k ≡ i + 1 + k = omega arith in
      rw e (entry_made ys (i + 1) n (rw (gives i h.1 h.0 h.3).1 at h.4) k (omega arith))

  pub given : (ys : List ℕ) (n : ℕ) → IsFromFnResult g f ys n → ys ≡ tabulate n v
  given ys n h =
      same_number_lists ys (tabulate n v) (h.long ∙ sym (length_tabulate n v))
      (λ k l. let z : 0 + k ≡ k = omega arith in let e : get_or ys (0 + k) 0 ≡ v (0 + k) = entry_made ys 0 n h.each k (omega (arith, h.long)) in (rw z at e) ∙ sym (get_d_tabulate n v 0 k (omega (arith, h.long))))
