-- A run by what is left of it: the swaps down to the near site, and then the gate.
use Prim.Native.Nat.{ℕ, zero, suc, ◌+◌, ◌-◌, ◌≤◌, ◌<◌, min, max}
use Rattle.std.specs.Prelude.{◌≡◌, refl, Ok, Err, Bool, true, false, cond, List, [], ◌∷◌, ◌++◌, map, eqb, ltb}
use Rattle.std.proofs.Math.Path.{sym, ap}
use Rattle.std.proofs.Common.{◌∙◌, eq-eqb, ne_eqb, eqb-true}
use native.Mathlib.Omega.{arith}
use Rattle.complex.specs.declared.Complex.{Complex}
use Rattle.gates.specs.Gate.{swap_gate_qubits}
use Rattle.gates.specs.Named.{matrix_of}
use Rattle.gates.specs.declared.NamedGate.TheVariants.{Swap}
use Rattle.model.specs.Answers.{Answer, Applied, refusal_of}
use Rattle.model.specs.declared.Reason.{Reason}
use Rattle.model.specs.declared.Chain.{Chain}
use Rattle.model.specs.Chain.{site_of}
use Rattle.model.specs.Slots.{State, held}
use Rattle.model.specs.Cut.{Ran, ran, adjacent, adjacent_reason}
use Rattle.model.specs.Routing.{Step, relabelled, down_to, swap_step, gate_step, follow, stepped, run_steps, gate_run, gate_reason}
use Rattle.cuts.specs.Answered.{Answered, answered, answered_by, applied_refused, ran_refused, ran_done}

-- the answer of a run of swaps beside the state that it leaves
pub record Passed : Type 0 where
  pub answer : Answer
  pub state : State

abbrev pub passed : Answer → State → Passed
passed a s = record { answer = a; state = s }

abbrev pub passed_by : Ran → Passed
passed_by r = passed (refusal_of r.refused) r.state

-- the swaps at near + n, .., near + 1
unfoldable pub swaps_down : ℕ → ℕ → State → Ran
swaps_down near n s = run_steps (map swap_step (down_to near n)) s

-- and then the gate at near
unfoldable pub routed_gate : List (List Complex) → ℕ → ℕ → State → Ran
routed_gate gate near n s = run_steps (map swap_step (down_to near n) ++ (gate_step gate near ∷ [])) s

-- why its cut keeps as many values as it does
unfoldable pub routed_reason : List (List Complex) → ℕ → ℕ → State → Reason
routed_reason gate near n s = adjacent_reason gate near (swaps_down near n s).state

-- ---- the run by its answer

refusal_number : (k n : ℕ) → ◌≡◌ {A = Answer} (Err n) (refusal_of k) → (n ≡ k) × (n ≡ 0 → ⊥)
refusal_number zero n e = let z : ◌≡◌ {A = ℕ} 0 1 = cc in absurd (omega arith)
refusal_number (suc k) n e = let f : n ≡ suc k = cc in (f, λ z. omega arith)

refusal_none : (k : ℕ) (x : Unit {0}) → ◌≡◌ {A = Answer} (Ok x) (refusal_of k) → 0 ≡ k
refusal_none zero x e = refl
refusal_none (suc k) x e = cc

pub passed_refused : (r : Ran) (n : ℕ) (t : State) → passed (Err n) t ≡ passed_by r → (ran n t ≡ r) × (n ≡ 0 → ⊥)
passed_refused r n t e = let x = refusal_number r.refused n (ap (λ (y : Passed). y.answer) e) in (λ i. ran (x.0 i) (e i).state, x.1)

pub passed_on : (r : Ran) (x : Unit {0}) (t : State) → passed (Ok x) t ≡ passed_by r → ran 0 t ≡ r
passed_on r x t e = λ i. ran (refusal_none r.refused x (ap (λ (y : Passed). y.answer) e) i) (e i).state

pub refused_passed : (r : Ran) (n : ℕ) (t : State) → (n ≡ 0 → ⊥) → ran n t ≡ r → passed (Err n) t ≡ passed_by r
refused_passed r zero t z e = absurd (z refl)
refused_passed r (suc n) t z e = ap passed_by e

pub on_passed : (r : Ran) (t : State) → ran 0 t ≡ r → passed (Ok tt) t ≡ passed_by r
on_passed r t e = ap passed_by e

-- ---- what follows a run

pub follow_on : (r : Ran) (f : State → Ran) → r.refused ≡ 0 → follow r f ≡ f r.state
follow_on r f e = rw (eq-eqb _ _ e)

pub follow_out : (r : Ran) (f : State → Ran) → (r.refused ≡ 0 → ⊥) → follow r f ≡ r
follow_out r f e = rw (ne_eqb _ _ e)

-- nothing follows
follow_none : (r : Ran) → follow r (λ t. ran 0 t) ≡ r
follow_none r = pick (eqb r.refused 0) refl
  where
    pick : (b : Bool) → eqb r.refused 0 ≡ b → cond b (ran 0 r.state) r ≡ r
    pick true e = ap (λ (n : ℕ). ran n r.state) (sym (eqb-true r.refused 0 e))
    pick false e = refl

follow_then : (r : Ran) (f g : State → Ran) → follow (follow r f) g ≡ follow r (λ t. follow (f t) g)
follow_then r f g = pick (eqb r.refused 0) refl
  where
    pick : (b : Bool) → eqb r.refused 0 ≡ b → follow (cond b (f r.state) r) g ≡ cond b (follow (f r.state) g) r
    pick true e = refl
    pick false e = ap (λ (b : Bool). cond b (g r.state) r) e

-- ---- one swap: the cut with the gate g, then the labels

module _ (k : ℕ) (s : State) (g : List (List Complex)) (eg : g ≡ matrix_of Swap) (a : Applied) (t : State) (reason : Reason) (e : answered a t ≡ answered_by reason (adjacent g k s)) where
  -- what follows the cut
  abbrev labelled : State → Ran
  labelled u = ran 0 (held (relabelled k u.chain) u.store)

  swapped : (x : Ran) → x ≡ adjacent g k s → follow x labelled ≡ stepped (swap_step k) s
  unfolding stepped
  swapped x f = ap (λ (r : Ran). follow r labelled) (f ∙ ap (λ (m : List (List Complex)). adjacent m k s) eg)

  pub step_out : (n : ℕ) → a ≡ Err n → passed (Err n) t ≡ passed_by (stepped (swap_step k) s)
  step_out n f =
      let x = ran_refused reason (adjacent g k s) n t (ap (λ (b : Applied). answered b t) (sym f) ∙ e) in
      refused_passed (stepped (swap_step k) s) n t x.1 (sym (follow_out (ran n t) labelled x.1) ∙ swapped (ran n t) x.0)

  pub step_on : (r : Reason) (c : Chain) → a ≡ Ok r → c ≡ relabelled k t.chain → passed (Ok tt) (held c t.store) ≡ passed_by (stepped (swap_step k) s)
  step_on r c f l =
      rw l (on_passed (stepped (swap_step k) s) (labelled t).state (swapped (ran 0 t) (ran_done reason (adjacent g k s) r t (ap (λ (b : Applied). answered b t) (sym f) ∙ e))))

-- ---- the swaps

module _ (near at : ℕ) (s : State) where
  swaps_turn : near + 1 < at → swaps_down near (at - (near + 1)) s ≡ follow (stepped (swap_step (at - 1)) s) (swaps_down near (at - 1 - (near + 1)))
  unfolding swaps_down run_steps
  swaps_turn l =
      let e : at - (near + 1) ≡ suc (at - 1 - (near + 1)) = omega arith in
      let f : near + suc (at - 1 - (near + 1)) ≡ at - 1 = omega arith in
      rw e (ap (λ (k : ℕ). follow (stepped (swap_step k) s) (swaps_down near (at - 1 - (near + 1)))) f)

  pub swaps_done : at ≤ near + 1 → swaps_down near (at - (near + 1)) s ≡ ran 0 s
  unfolding swaps_down run_steps
  swaps_done l = let e : at - (near + 1) ≡ 0 = omega arith in rw e

  -- a turn of the loop: a step that left x, and the rest
  pub swaps_on : (x : Ran) → near + 1 < at → x ≡ stepped (swap_step (at - 1)) s → x.refused ≡ 0 → swaps_down near (at - (near + 1)) s ≡ swaps_down near (at - 1 - (near + 1)) x.state
  swaps_on x l e z = swaps_turn l ∙ ap (λ (r : Ran). follow r (swaps_down near (at - 1 - (near + 1)))) (sym e) ∙ follow_on x (swaps_down near (at - 1 - (near + 1))) z

  pub swaps_out : (x : Ran) → near + 1 < at → x ≡ stepped (swap_step (at - 1)) s → (x.refused ≡ 0 → ⊥) → swaps_down near (at - (near + 1)) s ≡ x
  swaps_out x l e z = swaps_turn l ∙ ap (λ (r : Ran). follow r (swaps_down near (at - 1 - (near + 1)))) (sym e) ∙ follow_out x (swaps_down near (at - 1 - (near + 1))) z

-- ---- then the gate

run_then : (xs ys : List Step) (s : State) → run_steps (xs ++ ys) s ≡ follow (run_steps xs s) (run_steps ys)
unfolding run_steps
run_then [] ys s = refl
run_then (x ∷ xs) ys s =
    ap (λ (t : Ran). cond (eqb (stepped x s).refused 0) t (stepped x s)) (run_then xs ys (stepped x s).state) ∙ sym (follow_then (stepped x s) (run_steps xs) (run_steps ys))

run_gate : (gate : List (List Complex)) (k : ℕ) (s : State) → run_steps (gate_step gate k ∷ []) s ≡ adjacent gate k s
unfolding run_steps stepped
run_gate gate k s = follow_none (follow (adjacent gate k s) (λ t. ran 0 t)) ∙ follow_none (adjacent gate k s)

module _ (gate : List (List Complex)) (near n : ℕ) (s : State) where
  run_out : (x : Ran) → x ≡ swaps_down near n s → (x.refused ≡ 0 → ⊥) → x ≡ routed_gate gate near n s
  unfolding swaps_down routed_gate
  run_out x e z = sym (run_then (map swap_step (down_to near n)) (gate_step gate near ∷ []) s ∙ ap (λ (r : Ran). follow r (run_steps (gate_step gate near ∷ []))) (sym e) ∙ follow_out x (run_steps (gate_step gate near ∷ [])) z)

  run_in : (x : Ran) → x ≡ swaps_down near n s → x.refused ≡ 0 → adjacent gate near x.state ≡ routed_gate gate near n s
  unfolding swaps_down routed_gate
  run_in x e z =
      sym (run_then (map swap_step (down_to near n)) (gate_step gate near ∷ []) s ∙ ap (λ (r : Ran). follow r (run_steps (gate_step gate near ∷ []))) (sym e) ∙ follow_on x (run_steps (gate_step gate near ∷ [])) z ∙ run_gate gate near x.state)

  abbrev routed_by : Answered
  routed_by = answered_by (routed_reason gate near n s) (routed_gate gate near n s)

  pub gate_out : (x : Ran) → x ≡ swaps_down near n s → (x.refused ≡ 0 → ⊥) → answered (Err x.refused) x.state ≡ routed_by
  gate_out x e z =
      ap (λ (a : Applied). answered a x.state) (applied_refused (routed_reason gate near n s) x.refused z) ∙ ap (answered_by (routed_reason gate near n s)) (run_out x e z)

  pub gate_on_lem : (x : Ran) (y : Answered) → x ≡ swaps_down near n s → x.refused ≡ 0 → y ≡ answered_by (adjacent_reason gate near x.state) (adjacent gate near x.state) → y ≡ routed_by
  unfolding routed_reason
  gate_on_lem x y e z f = f ∙ (λ i. answered_by (adjacent_reason gate near (e i).state) (run_in x e z i))

-- ---- from the qubits' sites

module _ (gate : List (List Complex)) (q0 q1 : ℕ) (s : State) (p q : ℕ) (e : p ≡ site_of s.chain q0) (f : q ≡ site_of s.chain q1) where
  run_routed : (near m : ℕ) (g : List (List Complex)) → g ≡ cond (ltb p q) gate (swap_gate_qubits gate) → near ≡ min p q → m ≡ max p q - min p q - 1 → routed_gate g near m s ≡ gate_run gate q0 q1 s
  unfolding gate_run routed_gate
  run_routed near m g eg en em = rw (eg, en, em, e, f)

  reason_routed : (near m : ℕ) (g : List (List Complex)) → g ≡ cond (ltb p q) gate (swap_gate_qubits gate) → near ≡ min p q → m ≡ max p q - min p q - 1 → routed_reason g near m s ≡ gate_reason gate q0 q1 s
  unfolding gate_reason routed_reason swaps_down
  reason_routed near m g eg en em = rw (eg, en, em, e, f)

  pub run_between : (near far : ℕ) (g : List (List Complex)) → g ≡ cond (ltb p q) gate (swap_gate_qubits gate) → near ≡ min p q → far ≡ max p q
      → routed_by g near (far - (near + 1)) s ≡ answered_by (gate_reason gate q0 q1 s) (gate_run gate q0 q1 s)
  run_between near far g eg en ef =
      let em : far - (near + 1) ≡ max p q - min p q - 1 = omega arith in
      λ i. answered_by (reason_routed near (far - (near + 1)) g eg en em i) (run_routed near (far - (near + 1)) g eg en em i)
