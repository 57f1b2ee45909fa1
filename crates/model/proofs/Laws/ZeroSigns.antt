-- The sign of a zero in a gate's matrix never shows, as `Statements/ZeroSigns` states it: each sum over the matrix starts from +0, so that no sign of an added zero is left in it.
use Rattle.std.specs.Prelude.{◌≡◌, refl, Bool, true, false, ◌&&◌, cond, Float}
use Rattle.std.proofs.Math.Path.{ap, ap₂}
use Rattle.std.proofs.Common.{◌∙◌, arith}
use mathlib.Core.List.{List, [], ◌∷◌, ◌++◌, map}
use Prim.Native.Nat.{ℕ, ◌+◌, ◌*◌, ◌<◌}
use Rattle.std.specs.Float.{binary64}
use Rattle.std.specs.Float.Ieee.{fits, of_bits}
use Rattle.std.specs.Float.Ieee.Fits.{add-fits, sub-fits}
use Rattle.complex.specs.Complex.{add_c, mul_c, conj_c, zero_c}
use Rattle.complex.specs.Loops.{each}
use Rattle.complex.specs.Numbers.{numbers_same}
use Rattle.complex.specs.Matrix.{rows_same}
use Rattle.complex.specs.declared.Complex.{Complex}
use Rattle.gates.specs.Gate.{entry, swap_gate_qubits, swap_bits, swap_bits_below, entry_swapped}
use Rattle.gates.specs.Finite.{finite_c, all_finite}
use Rattle.model.specs.Chain.{site_of}
use Rattle.model.specs.Slots.{State}
use Rattle.model.specs.Svd.{svd}
use Rattle.model.specs.Pair.{theta, gated, matrix_of, adjoint_of, pair_svd}
use Rattle.model.specs.Moves.{Prepared}
use Rattle.model.specs.Cut.{cut_with, attempt, adjacent, adjacent_reason}
use Rattle.model.specs.Routing.{Step, gate_step, swap_step, route_of, turned, stepped, run_steps, gate_run, gate_reason}
use Rattle.model.specs.Calls.{gate_call}
use Rattle.model.specs.Statements.Demand3.{F64}
use Rattle.model.specs.Statements.Product.{SameGate, GateF64}
use Rattle.model.specs.Statements.ZeroSigns.{ZeroSigns}
use Rattle.model.proofs.Laws.Tests.{every_same}
use Rattle.model.proofs.Laws.GateProducts.{parts}
use Rattle.model.proofs.Laws.UnitFloats.{Level, itself, equal_level}
use Rattle.model.proofs.Laws.ZeroFloats.{level_mul, level_add, level_sub, level_finite, Clear, level_clear, clear_add}

-- ---- complex numbers

abbrev LevelC : Complex → Complex → Type 0
LevelC z w = Level z.re w.re × Level z.im w.im

-- parts that are values of binary64, and not -0
abbrev ClearC : Complex → Type 0
ClearC z = (F64 z.re × Clear z.re) × (F64 z.im × Clear z.im)

level_mul_c : {a b : Complex} (t : Complex) → LevelC a b → LevelC (mul_c a t) (mul_c b t)
unfolding mul_c
level_mul_c t l =
    (level_sub (level_mul t.re l.0) (level_mul t.im l.1), level_add (level_mul t.im l.0) (level_mul t.re l.1))

clear_term : (z a t : Complex) → ClearC z → ClearC (add_c z (mul_c a t))
unfolding add_c mul_c
clear_term z a t p =
    ((add-fits binary64 _ _, clear_add _ _ p.0.0 (sub-fits binary64 _ _) p.0.1), (add-fits binary64 _ _, clear_add _ _ p.1.0 (add-fits binary64 _ _) p.1.1))

term_same : {a b : Complex} (z t : Complex) → ClearC z → LevelC a b → add_c z (mul_c a t) ≡ add_c z (mul_c b t)
unfolding add_c
term_same {a} {b} z t c l =
    let k = level_mul_c t l in
    let p = clear_term z a t c in
    let q = clear_term z b t c in
    λ i. record {
      re = level_clear (level_add (itself z.re) k.0) p.0.1 q.0.1 i;
      im = level_clear (level_add (itself z.im) k.1) p.1.1 q.1.1 i;
    }

-- two sums that are one, and have no part -0: so they are at their start, and after one more term each
abbrev Meets : Complex → Complex → Type 0
Meets z w = (z ≡ w) × ClearC z

meets_zero : Meets zero_c zero_c
unfolding of_bits fits
meets_zero = (refl, ((tt, tt), (tt, tt)))

meets_more : {z w a b : Complex} (t : Complex) → Meets z w → LevelC a b → Meets (add_c z (mul_c a t)) (add_c w (mul_c b t))
meets_more {z} {w} {a} {b} t m l = (term_same z t m.1 l ∙ ap (λ (y : Complex). add_c y (mul_c b t)) m.0, clear_term z a t m.1)

-- ---- gates

abbrev LevelGate : List (List Complex) → List (List Complex) → Type 0
LevelGate g h = (r c : ℕ) → r < 4 → c < 4 → LevelC (entry g r c) (entry h r c)

same_level : (g h : List (List Complex)) → GateF64 g → GateF64 h → SameGate g h → LevelGate g h
same_level g h f k s r c hr hc =
    let x = entry g r c in
    let y = entry h r c in
    let e = parts x y (s r c hr hc) in
    (equal_level x.re y.re (f r c hr hc).0 (k r c hr hc).0 e.0, equal_level x.im y.im (f r c hr hc).1 (k r c hr hc).1 e.1)

-- in the order of the two qubits that the route asks for
turned_level : (b : Bool) (g h : List (List Complex)) → LevelGate g h → LevelGate (cond b g (swap_gate_qubits g)) (cond b h (swap_gate_qubits h))
turned_level true g h l r c hr hc = l r c hr hc
turned_level false g h l r c hr hc = rw (entry_swapped g r c hr hc, entry_swapped h r c hr hc) (l (swap_bits r) (swap_bits c) (swap_bits_below r hr) (swap_bits_below c hc))

finite_same : (g h : List (List Complex)) → LevelGate g h → all_finite g ≡ all_finite h
unfolding all_finite finite_c
finite_same g h l =
    every_same 4 _ _ (λ r hr. every_same 4 _ _ (λ c hc. ap₂ ◌&&◌ (level_finite (l r c hr hc).0) (level_finite (l r c hr hc).1)))

-- ---- the cut and the run

module _ (g h : List (List Complex)) (l : LevelGate g h) where
  gated_same : (th : ℕ → ℕ → Complex) (i j : ℕ) → i < 2 → j < 2 → gated g th i j ≡ gated h th i j
  unfolding each
  gated_same th i j hi hj =
      let row : (c : ℕ) → c < 4 → LevelC (entry g (i * 2 + j) c) (entry h (i * 2 + j) c) = λ c. l (i * 2 + j) c (omega arith) in
      (meets_more (th 1 1) (meets_more (th 1 0) (meets_more (th 0 1) (meets_more (th 0 0) meets_zero (row 0 (omega arith))) (row 1 (omega arith))) (row 2 (omega arith))) (row 3 (omega arith))).0

  svd_same : (clamp : Float) (bl mid br : ℕ) (left right : List Float) → pair_svd clamp bl mid br g left right ≡ pair_svd clamp bl mid br h left right
  unfolding pair_svd matrix_of adjoint_of
  svd_same clamp bl mid br left right =
      let th : ℕ → ℕ → ℕ → ℕ → Complex = λ a b i j. theta mid br left right a i j b in
      ap₂ (svd clamp (2 * bl) (2 * br))
      (rows_same 2 _ _ (λ j hj. rows_same br _ _ (λ b hb. rows_same bl _ _ (λ a ha. numbers_same 2 _ _ (λ i hi. gated_same (th a b) i j hi hj)))))
      (rows_same bl _ _ (λ a ha. rows_same 2 _ _ (λ i hi. rows_same 2 _ _ (λ j hj. numbers_same br _ _ (λ b hb. ap conj_c (gated_same (th a b) i j hi hj))))))

  cut_same : (k : ℕ) (maintained : Bool) (p : Prepared) → cut_with g k maintained p ≡ cut_with h k maintained p
  unfolding cut_with
  cut_same k maintained p = rw svd_same

  attempt_same : (k : ℕ) (s : State) → attempt g k s ≡ attempt h k s
  unfolding attempt
  attempt_same k s = rw cut_same

  adjacent_same : (k : ℕ) (s : State) → adjacent g k s ≡ adjacent h k s
  unfolding adjacent
  adjacent_same k s = simp attempt_same

  reasons_same : (k : ℕ) (s : State) → adjacent_reason g k s ≡ adjacent_reason h k s
  unfolding adjacent_reason
  reasons_same k s = simp (attempt_same, svd_same)

  runs_same : (xs : List Step) (k : ℕ) (s : State) → run_steps (xs ++ (gate_step g k ∷ [])) s ≡ run_steps (xs ++ (gate_step h k ∷ [])) s
  unfolding run_steps stepped
  runs_same [] k s = rw adjacent_same
  runs_same (x ∷ xs) k s = simp (runs_same xs k)

run_same : (g h : List (List Complex)) → LevelGate g h → (q0 q1 : ℕ) (s : State) → gate_run g q0 q1 s ≡ gate_run h q0 q1 s
unfolding gate_run
run_same g h l q0 q1 s =
    let r = route_of (site_of s.chain q0) (site_of s.chain q1) in
    runs_same _ _ (turned_level r.first g h l) (map swap_step r.swaps) r.near s

reason_same : (g h : List (List Complex)) → LevelGate g h → (q0 q1 : ℕ) (s : State) → gate_reason g q0 q1 s ≡ gate_reason h q0 q1 s
unfolding gate_reason
reason_same g h l q0 q1 s =
    let r = route_of (site_of s.chain q0) (site_of s.chain q1) in
    reasons_same (turned g r) (turned h r) (turned_level r.first g h l) r.near (run_steps (map swap_step r.swaps) s).state

call_same : (s : State) (work : List Float) (q0 q1 : ℕ) (g h : List (List Complex)) → LevelGate g h → gate_call s work q0 q1 g ≡ gate_call s work q0 q1 h
unfolding gate_call
call_same s work q0 q1 g h l = rw (finite_same g h l, run_same g h l, reason_same g h l)

pub zero_signs : ZeroSigns
zero_signs = record {
  call = λ s work q0 q1 g h f k e. call_same s work q0 q1 g h (same_level g h f k e);
  cut = λ j s g h f k e. adjacent_same g h (same_level g h f k e) j s;
}
