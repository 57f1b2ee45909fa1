-- A layer of pairs: what one has that is not refused, and its run by an induction over its gates. The record stays sound; the run ends done, or stopped by 6 or 7.
use Rattle.std.specs.Prelude.{ℕ, zero, suc, ◌+◌, ◌<◌, ◌≡◌, refl, ◌⊎◌, ◌≢◌, Bool, true, false, not, ◌||◌, eqb, length, Float}
use Rattle.std.proofs.Common.{arith, ap, inl, inr, T_not, eqb-true}
use mathlib.Core.List.{List, [], ◌∷◌}
use Rattle.std.specs.Float.Ieee.Bits.{is_true}
use Rattle.std.proofs.lemmas.Bool.{eqb-false, not-false}
use Rattle.complex.specs.Loops.{every_at}
use Rattle.gates.specs.Finite.{all_finite}
use Rattle.model.specs.declared.Layered.{Layered}
use Rattle.model.specs.declared.Layered.TheVariants as layered
use Rattle.model.specs.Slots.{State}
use Rattle.model.specs.Layers.{pair_count, first, second, gate_at, Placed, placed_at, placed_from, layer_of}
use Rattle.model.specs.Cut.{Ran, ran}
use Rattle.model.specs.Routing.{LayerRan, layer_ran, placed_run, onward, layer_run}
use Rattle.model.specs.Sound.{sound}
use Rattle.model.specs.Answers.{view_layered}
use Rattle.model.specs.Calls.{After, short, lengths_agree, pairs_fit, pairs_apart, gates_finite, no_pair, layer_refusal, layer_call}
use Rattle.model.specs.Statements.Demand1.{Early, Late}
use Rattle.model.specs.Statements.Soundness.{Sound}
use Rattle.model.proofs.Laws.Refusals.{first_among_none, first_among_early, passes_sound, two_qubits}
use Rattle.model.proofs.Laws.SoundKept.{Keeps, keeps_none, keeps_then, gate_run_keeps}
use Rattle.model.proofs.Laws.AfterStates.{gate_run_late}
use Rattle.model.proofs.Laws.Tests.{by_test, decides_self, test_false, neither}

-- ---- what a layer has that is not refused

-- a gate of finite numbers on two of n qubits
pub record Fits (n : ℕ) (x : Placed) : Type 0 where
  pub first : x.q0 < n
  pub second : x.q1 < n
  pub two : x.q0 ≢ x.q1
  pub finite : all_finite x.gate ≡ true

abbrev pub AllFit : ℕ → List Placed → Type 0
AllFit n [] = Unit
AllFit n (x ∷ xs) = Fits n x × AllFit n xs

-- each pair of a layer is two of its n qubits
pub fits_at_lem : (n : ℕ) (pairs : List ℕ) (p : ℕ) → pairs_fit n pairs ≡ true → p < pair_count pairs → (first pairs p < n) × (second pairs p < n) × (first pairs p ≢ second pairs p)
unfolding pairs_fit
fits_at_lem n pairs p e l =
    let none = no_pair n (first pairs p) (second pairs p) in
    let t = every_at (pair_count pairs) (λ k. not (no_pair n (first pairs k) (second pairs k))) p l (rw e tt) in
    two_qubits n (first pairs p) (second pairs p) (test_false (decides_self none) (T_not none t))

-- where each pair of a layer fits, so do those of its list
all_placed : (n : ℕ) (pairs : List ℕ) (gates : List Float) (m p : ℕ) → ((r : ℕ) → r < p + m → Fits n (placed_at pairs gates r)) → AllFit n (placed_from pairs gates m p)
unfolding placed_from
all_placed n pairs gates zero p h = tt
all_placed n pairs gates (suc m) p h = (h p (omega arith), all_placed n pairs gates m (p + 1) (λ r l. h r (omega arith)))

pub record AcceptedLayer (s : State) (work : List Float) (pairs : List ℕ) (gates : List Float) : Type 0 where
  pub sound : Sound s.chain
  pub long : short s.chain s.store work ≡ false
  pub agree : lengths_agree (length pairs) (length gates) ≡ true
  pub fit : pairs_fit s.chain.num_qubits pairs ≡ true
  pub apart : pairs_apart pairs ≡ true
  pub finite : gates_finite (pair_count pairs) gates ≡ true

module _ (s : State) (work : List Float) (pairs : List ℕ) (gates : List Float) where
  abbrev few : Bool
  few = short s.chain s.store work || not (lengths_agree (length pairs) (length gates))

  pub layer_early : eqb (layer_refusal s work pairs gates) 0 ≡ false → Early (layer_refusal s work pairs gates)
  layer_early = first_among_early (not (sound s.chain)) few (not (pairs_fit s.chain.num_qubits pairs)) (not (pairs_apart pairs)) (not (gates_finite (pair_count pairs) gates))

  pub layer_accepted : eqb (layer_refusal s work pairs gates) 0 ≡ true → AcceptedLayer s work pairs gates
  layer_accepted e =
      let p = first_among_none (not (sound s.chain)) few (not (pairs_fit s.chain.num_qubits pairs)) (not (pairs_apart pairs)) (not (gates_finite (pair_count pairs) gates)) e in
      let slices = neither (short s.chain s.store work) (not (lengths_agree (length pairs) (length gates))) p.two in
      record {
        sound = passes_sound s.chain p.three;
        long = slices.0;
        agree = not-false (lengths_agree (length pairs) (length gates)) slices.1;
        fit = not-false (pairs_fit s.chain.num_qubits pairs) p.four;
        apart = not-false (pairs_apart pairs) p.nine;
        finite = not-false (gates_finite (pair_count pairs) gates) p.five;
      }

  pub layer_fits : AcceptedLayer s work pairs gates → AllFit s.chain.num_qubits (layer_of pairs gates)
  unfolding gates_finite
  layer_fits a = all_placed s.chain.num_qubits pairs gates (pair_count pairs) 0 (λ r l.
      let two = fits_at_lem s.chain.num_qubits pairs r a.fit (omega arith) in
      record { first = two.0; second = two.1; two = two.2; finite = is_true _ (every_at (pair_count pairs) (λ p. all_finite (gate_at gates p)) r (omega arith) (rw a.finite tt)) })

-- ---- the run

-- no gate, and a gate that is not refused
pub layer_none : (p : ℕ) (s : State) → layer_run p [] s ≡ layer_ran layered.Done s
unfolding layer_run
layer_none p s = refl

pub layer_on : (p : ℕ) (x : Placed) (xs : List Placed) (s t : State) → placed_run x s ≡ ran 0 t → layer_run p (x ∷ xs) s ≡ layer_run (p + 1) xs t
unfolding layer_run
layer_on p x xs s t e = ap (λ (r : Ran). onward p r (layer_run (p + 1) xs)) e

-- ---- an induction over the gates

pub placed_run_keeps : (x : Placed) (s : State) → Sound s.chain → Fits s.chain.num_qubits x → Keeps s.chain (placed_run x s).state.chain
placed_run_keeps x s h f = gate_run_keeps x.gate x.q0 x.q1 s h f.first f.second f.two

-- P holds of the run of the gates xs, the first of them that of pair p, in the state s: of no gate; of a gate that is not refused and the rest; of one that is refused
module _ (P : ℕ → List Placed → State → LayerRan → Type 0)
    (none : (p : ℕ) (s : State) → Sound s.chain → P p [] s (layer_ran layered.Done s))
    (on : (p : ℕ) (x : Placed) (xs : List Placed) (s : State) → Sound s.chain → Fits s.chain.num_qubits x → (placed_run x s).refused ≡ 0
    → (r : LayerRan) → P (p + 1) xs (placed_run x s).state r → P p (x ∷ xs) s r)
    (out : (p : ℕ) (x : Placed) (xs : List Placed) (s : State) → Sound s.chain → Fits s.chain.num_qubits x → (placed_run x s).refused ≢ 0
    → P p (x ∷ xs) s (layer_ran (layered.Stopped (placed_run x s).refused p) (placed_run x s).state)) where
  pub layer_by : (p : ℕ) (xs : List Placed) (s : State) → Sound s.chain → AllFit s.chain.num_qubits xs → P p xs s (layer_run p xs s)
  unfolding layer_run
  layer_by p [] s h f = none p s h
  layer_by p (x ∷ xs) s h f =
      let y = placed_run_keeps x s h f.0 in
      let rest = layer_by (p + 1) xs (placed_run x s).state y.sound (rw y.qubits f.1) in
      by_test (P p (x ∷ xs) s) (eqb (placed_run x s).refused 0) _ _
      (λ e. on p x xs s h f.0 (eqb-true (placed_run x s).refused 0 e) _ rest)
      (λ e. out p x xs s h f.0 (eqb-false (placed_run x s).refused 0 e))

-- ---- the record stays sound

pub layer_run_keeps : (p : ℕ) (xs : List Placed) (s : State) → Sound s.chain → AllFit s.chain.num_qubits xs → Keeps s.chain (layer_run p xs s).state.chain
layer_run_keeps =
    layer_by (λ p xs s r. Keeps s.chain r.state.chain) (λ p s h. keeps_none s.chain h)
    (λ p x xs s h f e r k. keeps_then (placed_run_keeps x s h f) k) (λ p x xs s h f e. placed_run_keeps x s h f)

pub layer_call_keeps : (s : State) (work : List Float) → Sound s.chain → (pairs : List ℕ) (gates : List Float) → Keeps s.chain (layer_call s work pairs gates).chain
unfolding layer_call
layer_call_keeps s work h pairs gates =
    by_test (λ (a : After Layered). Keeps s.chain a.chain) (eqb (layer_refusal s work pairs gates) 0) _ _
    (λ e. layer_run_keeps 0 (layer_of pairs gates) s h (layer_fits s work pairs gates (layer_accepted s work pairs gates e))) (λ e. keeps_none s.chain h)

-- ---- how it ends

-- done, or stopped by 6 or 7
abbrev pub Ended : Layered → Type 0
Ended layered.Done = Unit
Ended (layered.Refused k) = ⊥
Ended (layered.Stopped k p) = (k ≡ 6) ⊎ (k ≡ 7)

pub layer_run_ended : (p : ℕ) (xs : List Placed) (s : State) → Sound s.chain → AllFit s.chain.num_qubits xs → Ended (layer_run p xs s).answer
layer_run_ended =
    layer_by (λ p xs s r. Ended r.answer) (λ p s h. tt) (λ p x xs s h f e r k. k)
    (λ p x xs s h f e. late_stops (placed_run x s).refused e (gate_run_late x.gate x.q0 x.q1 s))
  where
    late_stops : (k : ℕ) → k ≢ 0 → Late k → (k ≡ 6) ⊎ (k ≡ 7)
    late_stops k some (inl z) = absurd (some z)
    late_stops k some (inr z) = z

pub ended_late : (a : Layered) → Ended a → Late (view_layered a).number
ended_late layered.Done e = inl refl
ended_late (layered.Refused k) e = absurd e
ended_late (layered.Stopped k p) e = inr e
