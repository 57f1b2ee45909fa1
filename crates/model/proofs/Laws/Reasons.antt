-- Why a cut keeps as many values as it does, as `Statements/Reasons` states it.
use Rattle.std.specs.Prelude.{ℕ, zero, suc, ◌+◌, ◌≤◌, ◌<◌, min, max, ◌≡◌, refl, ◌≢◌, Bool, true, false, cond, T, ltb, eqb, length, get_or, Float, Ok, Err}
use Rattle.std.proofs.Common.{arith, ap₂, ◌∙◌, subst, inl, ⊎_elim, ltb-true, ltb-false, lt-ltb, le-ltb, eqb-true}
use Rattle.std.proofs.Math.Path.{sym, ap}
use mathlib.Core.List.{List, [], ◌∷◌, ◌++◌, map}
use Rattle.std.specs.Float.{nan, binary64}
use Rattle.std.specs.Float.Ieee.{mul, lt}
use Rattle.complex.specs.Complex.{zero_f}
use Rattle.complex.specs.declared.Complex.{Complex}
use Rattle.gates.specs.Named.{matrix_of}
use Rattle.model.specs.declared.Reason.{Reason}
use Rattle.model.specs.declared.Reason.TheVariants.{Floor, Cap, Tolerance, Full}
use Rattle.model.specs.Chain.{site_of}
use Rattle.model.specs.Slots.{State}
use Rattle.model.specs.Truncation.{leading, above_threshold, rank, reason_by, rank_reason}
use Rattle.model.specs.Cut.{Ran, reason_of, adjacent_reason}
use Rattle.model.specs.Routing.{Route, route_of, Step, swap_step, gate_step, turned, stepped, run_steps, gate_reason}
use Rattle.model.specs.Answers.{Applied, view_applied, told_applied}
use Rattle.model.specs.Calls.{After, applied_of, gate_call, named_gate_call}
use Rattle.model.specs.Statements.Table.{gate_steps}
use Rattle.model.specs.Statements.Demand1Cuts.{cut_svd}
use Rattle.model.specs.Statements.Soundness.{Sound}
use Rattle.model.specs.Statements.Reasons.{Lead, Says, RankReasons, Ranked, RankByReason, reasons_of, TellsReason, GateReasons}
use Rattle.model.proofs.Laws.SoundKept.{Inside, stepped_keeps, gate_accepted}
use Rattle.model.proofs.Laws.CutEnds.{stored_reason, stepped_number, run_on, run_done}
use Rattle.model.proofs.Laws.Gates.{gate_ran, gate_is_run, run_number}
use Rattle.model.proofs.Laws.Tests.{by_test, below_or_past, decides_self, test_true}

-- ---- the values that lead: n of them are above b, or more, exactly where the count is n or more

module _ (b : Float) where
  abbrev Above : List Float → ℕ → Type 0
  Above s n = (j : ℕ) → j < n → (j < length s) × T (lt b (get_or s j nan))

  counted : (s : List Float) (n : ℕ) → Above s n → n ≤ leading b s
  counted s zero h = omega arith
  counted [] (suc n) h = absurd (omega (arith, (h 0 (omega arith)).0))
  counted (x ∷ xs) (suc n) h =
      let rest = counted xs n (λ j l. let y = h (suc j) (omega arith) in (omega (arith, y.0), y.1)) in
      rw (test_true (decides_self (lt b x)) (h 0 (omega arith)).1) (omega arith)

  counts : (s : List Float) (n : ℕ) → n ≤ leading b s → Above s n
  counts [] n l = λ j m. absurd (omega arith)
  counts (x ∷ xs) n l = pick (lt b x) refl l (λ k. counts xs k)
    where
      pick : (t : Bool) → lt b x ≡ t → n ≤ cond t (suc (leading b xs)) 0 → ((k : ℕ) → k ≤ leading b xs → Above xs k) → Above (x ∷ xs) n
      pick true e l rest zero m = (omega arith, subst T (sym e) tt)
      pick true e l rest (suc j) m = let y = rest (suc j) (omega arith) j (omega arith) in (omega (arith, y.0), y.1)
      pick false e l rest j m = absurd (omega arith)

  pub leading_within : (s : List Float) → leading b s ≤ length s
  leading_within s = ⊎_elim (λ (l : length s < leading b s). absurd (omega (arith, (counts s (leading b s) (omega arith) (length s) l).0))) (λ (l : leading b s ≤ length s). l) (below_or_past (length s) (leading b s))

-- ---- the reason, by the number n of values that lead, the cap and how many values there are

module _ (n cap many : ℕ) where
  abbrev By : Reason → Type 0
  By Floor = n < 1
  By Cap = (1 ≤ n) × (cap < n)
  By Tolerance = (1 ≤ n) × (n ≤ cap) × (n < many)
  By Full = (1 ≤ n) × (n ≤ cap) × (many ≤ n)

  given : By (reason_by n cap many)
  given =
      by_test By (ltb n 1) _ _ (ltb-true n 1) (λ e.
      let one = ltb-false n 1 e in
      by_test By (ltb cap n) _ _ (λ f. (one, ltb-true cap n f)) (λ f.
      let low = ltb-false cap n f in
      by_test By (ltb n many) _ _ (λ g. (one, low, ltb-true n many g)) (λ g. (one, low, ltb-false n many g))))

  only : (r : Reason) → By r → reason_by n cap many ≡ r
  only Floor x = rw (lt-ltb n 1 x)
  only Cap x = rw (le-ltb n 1 x.0, lt-ltb cap n x.1)
  only Tolerance x = rw (le-ltb n 1 x.0, le-ltb cap n x.1, lt-ltb n many x.2)
  only Full x = rw (le-ltb n 1 x.0, le-ltb cap n x.1, le-ltb n many x.2)

module _ (epsilon : Float) (cap : ℕ) (s : List Float) where
  abbrev n : ℕ
  n = above_threshold epsilon s

  lead : (k : ℕ) → k ≤ n → Lead epsilon s k
  lead = counts (mul binary64 epsilon (get_or s 0 zero_f)) s

  led : (k : ℕ) → Lead epsilon s k → k ≤ n
  led = counted (mul binary64 epsilon (get_or s 0 zero_f)) s

  -- fewer than k lead
  fewer : (k : ℕ) → (Lead epsilon s k → ⊥) → n < k
  fewer k none = ⊎_elim (λ (l : n < k). l) (λ (l : k ≤ n). absurd (none (lead k l))) (below_or_past n k)

  most : n ≤ length s
  most = leading_within (mul binary64 epsilon (get_or s 0 zero_f)) s

  says : (r : Reason) → By n cap (length s) r → Says epsilon cap s r
  says Floor x = λ h. omega (arith, led 1 h)
  says Cap x = lead (cap + 1) (omega (arith, x.1))
  says Tolerance x = (lead 1 x.0, λ h. omega (arith, led (cap + 1) h, x.1), λ h. omega (arith, led (length s) h, x.2))
  says Full x = (lead (length s) x.2, omega (arith, most, x.0), omega (arith, x.1, x.2))

  said : (r : Reason) → Says epsilon cap s r → By n cap (length s) r
  said Floor x = fewer 1 x
  said Cap x = let l = led (cap + 1) x in (omega arith, omega arith)
  said Tolerance x = (led 1 x.0, omega (arith, fewer (cap + 1) x.1), fewer (length s) x.2)
  said Full x = let l = led (length s) x.0 in (omega (arith, x.1), omega (arith, most, x.2), l)

  ranked : (r : Reason) → By n cap (length s) r → Ranked epsilon cap s (min (max n 1) cap) r
  ranked Floor x = omega arith
  ranked Cap x = omega (arith, x.0, x.1)
  ranked Tolerance x =
      let e : min (max n 1) cap ≡ n = omega (arith, x.0, x.1) in
      (lead _ (omega arith), λ h. omega (arith, led _ h), omega (arith, x.2))
  ranked Full x = omega (arith, most, x.0, x.1, x.2)

pub rank_reasons : RankReasons
unfolding RankReasons rank_reason
rank_reasons epsilon cap s r =
    let k = n epsilon cap s in
    (λ e. says epsilon cap s r (subst (By k cap (length s)) e (given k cap (length s))), λ x. only k cap (length s) r (said epsilon cap s r x))

pub rank_by_reason : RankByReason
unfolding RankByReason rank rank_reason
rank_by_reason epsilon cap s = let k = n epsilon cap s in ranked epsilon cap s (reason_by k cap (length s)) (given k cap (length s))

-- ---- the reasons of a run

reasons_on : (x : Step) (xs : List Step) (s : State) → eqb (stepped x s).refused 0 ≡ true → reasons_of (x ∷ xs) s ≡ reason_of s (cut_svd x.gate x.site s) ∷ reasons_of xs (stepped x s).state
unfolding reasons_of
reasons_on x xs s e = rw e

-- the last is that of the last step, in the state that the steps before it leave
run_reasons : (xs : List Step) (x : Step) (s : State) → Sound s.chain → Inside s.chain.num_qubits (xs ++ (x ∷ [])) → (run_steps (xs ++ (x ∷ [])) s).refused ≡ 0
    → reasons_of (xs ++ (x ∷ [])) s ≡ reasons_of xs s ++ (adjacent_reason x.gate x.site (run_steps xs s).state ∷ [])
unfolding run_steps reasons_of
run_reasons [] x s h inside z =
    let e = run_done x [] s z in
    reasons_on x [] s e ∙ ap (λ (r : Reason). r ∷ []) (sym (stored_reason x.gate x.site s h inside.0 (sym (stepped_number x s) ∙ eqb-true (stepped x s).refused 0 e)))
run_reasons (y ∷ xs) x s h inside z =
    let e = run_done y (xs ++ (x ∷ [])) s z in
    let t = (stepped y s).state in
    let k = stepped_keeps y s h inside.0 in
    let later = run_reasons xs x t k.sound (rw k.qubits inside.1) (ap (λ (r : Ran). r.refused) (sym (run_on y (xs ++ (x ∷ [])) s e)) ∙ z) in
    reasons_on y (xs ++ (x ∷ [])) s e ∙ ap (λ (rs : List Reason). reason_of s (cut_svd y.gate y.site s) ∷ rs) later
    ∙ ap₂ (λ (rs : List Reason) (r : Ran). rs ++ (adjacent_reason x.gate x.site r.state ∷ [])) (sym (reasons_on y xs s e)) (sym (run_on y xs s e))

-- ---- what a gate tells

told_number : (a : Applied) → (told_applied a).number ≡ (view_applied a).number
told_number (Ok r) = refl
told_number (Err k) = refl

told_refused : (a : Applied) → (told_applied a).number ≢ 0 → (told_applied a).reason ≡ []
told_refused (Ok r) z = absurd (z refl)
told_refused (Err k) z = refl

module _ (s : State) (work : List Float) (q0 q1 : ℕ) (g : List (List Complex)) where
  abbrev a : After Applied
  a = gate_call s work q0 q1 g

  abbrev route : Route
  route = route_of (site_of s.chain q0) (site_of s.chain q1)

  abbrev swaps : List Step
  swaps = map swap_step route.swaps

  tells : (told_applied a.answer).number ≡ 0 → reasons_of (gate_steps s q0 q1 g) s ≡ reasons_of swaps s ++ (told_applied a.answer).reason
  unfolding gate_reason
  tells z =
      let number = sym (told_number a.answer) ∙ z in
      let e = gate_ran s work q0 q1 g (inl number) in
      let x = gate_accepted s work q0 q1 g e in
      let done = run_number s work q0 q1 g e ∙ number in
      let told = ap (λ (y : After Applied). (told_applied y.answer).reason) (gate_is_run s work q0 q1 g e) ∙ ap (λ (k : ℕ). (told_applied (applied_of (gate_reason g q0 q1 s) k)).reason) done in
      run_reasons swaps (gate_step (turned g route) route.near) s x.sound x.inside done ∙ ap (λ (rs : List Reason). reasons_of swaps s ++ rs) (sym told)

  tells_reason : TellsReason s q0 q1 g a
  tells_reason = record { number = told_number a.answer; accepted = λ z. (reasons_of swaps s, tells z); refused = told_refused a.answer }

pub gate_reasons : GateReasons
unfolding named_gate_call
gate_reasons = record { gate = tells_reason; named = λ s work q0 q1 name. tells_reason s work q0 q1 (matrix_of name) }
