-- A gate's answer beside the state that it leaves, from a run of cuts and the reason of the last.
use Rattle.std.specs.Prelude.{ℕ, zero, suc, ◌≡◌, refl, Ok, Err}
use Rattle.std.proofs.Common.{arith, ap}
use Rattle.model.specs.Answers.{Applied}
use Rattle.model.specs.declared.Reason.{Reason}
use Rattle.model.specs.Slots.{State}
use Rattle.model.specs.Cut.{Tried, Ran, ran}
use Rattle.model.specs.Calls.{applied_of}

pub record Answered : Type 0 where
  pub answer : Applied
  pub state : State

abbrev pub answered : Applied → State → Answered
answered a s = record { answer = a; state = s }

abbrev pub answered_by : Reason → Ran → Answered
answered_by reason r = answered (applied_of reason r.refused) r.state

-- ---- the run by its answer

module _ (reason : Reason) where
  -- a number that is not 0
  pub applied_refused : (k : ℕ) → (k ≡ 0 → ⊥) → Err k ≡ applied_of reason k
  applied_refused zero above = absurd (above refl)
  applied_refused (suc k) above = refl

  refused_number : (k n : ℕ) → Err n ≡ applied_of reason k → (n ≡ k) × (n ≡ 0 → ⊥)
  refused_number zero n e = let z : ◌≡◌ {A = ℕ} 0 1 = cc in absurd (omega arith)
  refused_number (suc k) n e = let f : n ≡ suc k = cc in (f, λ z. omega arith)

  done_number : (k : ℕ) (x : Reason) → Ok x ≡ applied_of reason k → 0 ≡ k
  done_number zero x e = refl
  done_number (suc k) x e = cc

  pub ran_refused : (r : Ran) (n : ℕ) (t : State) → answered (Err n) t ≡ answered_by reason r → (ran n t ≡ r) × (n ≡ 0 → ⊥)
  ran_refused r n t e = let x = refused_number r.refused n (ap (λ (y : Answered). y.answer) e) in (λ i. ran (x.0 i) (e i).state, x.1)

  pub ran_done : (r : Ran) (x : Reason) (t : State) → answered (Ok x) t ≡ answered_by reason r → ran 0 t ≡ r
  ran_done r x t e = λ i. ran (done_number r.refused x (ap (λ (y : Answered). y.answer) e) i) (e i).state

-- ---- an attempt

-- where it is not made again
abbrev pub ran_of : Tried → Ran
ran_of t = ran t.refused t.state
