-- A gate: the number that it answers, by its table; and that it is done or stops at a cut, the proof of (f).
use Rattle.std.specs.Prelude.{ℕ, ◌≤◌, ◌+◌, ◌<◌, ◌≡◌, ◌⊎◌, ◌≢◌, ◌||◌, Bool, true, false, List, [], ◌∷◌, ◌++◌, eqb, Float, Err}
use Rattle.std.proofs.Math.Path.{refl, ap}
use Rattle.std.proofs.Common.{sym, ◌∙◌, subst, inl, inr, ⊎_elim, arith, eq-eqb}
use Rattle.std.proofs.Math.Bool.{cond}
use Rattle.complex.specs.declared.Complex.{Complex}
use Rattle.gates.specs.Named.{matrix_of}
use Rattle.gates.specs.declared.NamedGate.{NamedGate}
use Rattle.model.specs.declared.Chain.{Chain}
use Rattle.model.specs.declared.Reason.{Reason}
use Rattle.model.specs.Chain.{labels_of}
use Rattle.model.specs.Slots.{State}
use Rattle.model.specs.Routing.{gate_run, gate_reason, Step, stepped, run_steps}
use Rattle.model.specs.Answers.{Applied, view_applied}
use Rattle.model.specs.Calls.{After, outside, cleared, gate_refusal, gate_after, gate_call, named_gate_call, after, applied_of}
use Rattle.model.specs.Cut.{Ran}
use Rattle.model.specs.Statements.Table.{◌when◌, Unsound, ShortSlice, NoGate, AboveWorkspace, NanIn, FirstGround, NoPair, gate_table, gate_steps, cut_rows}
use Rattle.model.specs.Statements.Demand1.{Late}
use Rattle.model.specs.Statements.Demand1Cuts.{StandsBySix, StandsBySeven, shares_of, StopsAt, GateEnds, Stops}
use Rattle.model.proofs.Laws.SoundKept.{Inside, stepped_keeps, gate_accepted}
use Rattle.model.proofs.Laws.Refusals.{decides_unsound, decides_short, decides_gate, applied_number, untested, test, first_then, table_answered, run_late, gate_early}
use Rattle.model.proofs.Laws.CutEnds.{CutEnds, above, nan, stored, adjacent_ends, stepped_number, refused_narrowed, stepped_refused, run_on}
use Rattle.model.specs.Statements.Soundness.{Sound}
use Rattle.model.proofs.Laws.MoveLaws.{AsBefore}
use Rattle.model.proofs.Laws.CutShares.{Tally, tallied, counted, of_chain_lem, run_tallied}
use Rattle.model.proofs.Laws.BondShares.{of_bond_lem}
use Rattle.model.proofs.Laws.RouteLabels.{run_labels, gate_labels}
use Rattle.model.proofs.Laws.Tests.{Decides, by_test, decides_as, decides_either, decides_equal, decides_least}

-- ---- the number that a run of cuts answers

ends_number : (g : List (List Complex)) (k : ℕ) (s : State) (r : Ran) → CutEnds g k s r → FirstGround (6 when AboveWorkspace k s ∷ 7 when ((t : State) × NanIn g k s t) ∷ []) r.refused
ends_number g k s r (above a e) = inl (a, ap (λ (x : Ran). x.refused) e)
ends_number g k s r (nan a t n e) = inr (a, inl ((t, n), ap (λ (x : Ran). x.refused) e))
ends_number g k s r (stored a n e) = inr (a, inr (λ x. n x.0 x.1, ap (λ (x : Ran). x.refused) e))

run_more : (x : Step) (xs : List Step) (s : State)
    → (run_steps (x ∷ xs) s).refused ≡ cond (eqb (stepped x s).refused 0) (run_steps xs (stepped x s).state).refused (stepped x s).refused
unfolding run_steps
run_more x xs s = either (eqb (stepped x s).refused 0) (run_steps xs (stepped x s).state) (stepped x s)
  where
    either : (b : Bool) (y z : Ran) → (cond b y z).refused ≡ cond b y.refused z.refused
    either true y z = refl
    either false y z = refl

pub run_first : (xs : List Step) (s : State) → Sound s.chain → Inside s.chain.num_qubits xs → FirstGround (cut_rows xs s) (run_steps xs s).refused
unfolding run_steps
run_first [] s h inside = refl
run_first (x ∷ xs) s h inside =
    let y = stepped_keeps x s h inside.0 in
    subst (FirstGround (cut_rows (x ∷ xs) s)) (sym (run_more x xs s))
    (first_then (6 when AboveWorkspace x.site s ∷ 7 when ((t : State) × NanIn x.gate x.site s t) ∷ []) (cut_rows xs (stepped x s).state) (stepped x s).refused _ tt
    (rw (stepped_number x s) (ends_number x.gate x.site s _ (adjacent_ends x.gate x.site s h inside.0)))
    (λ e. run_first xs (stepped x s).state y.sound (rw y.qubits inside.1)))

-- ---- the number that a gate answers

pub decides_pair : (c : Chain) (q0 q1 : ℕ) → Decides (outside c q0 || outside c q1 || eqb q0 q1) (NoPair c q0 q1)
decides_pair c q0 q1 = decides_as (decides_either (decides_either (decides_least c.num_qubits q0) (decides_least c.num_qubits q1)) (decides_equal q0 q1)) to back
  where
    to : ((c.num_qubits ≤ q0) ⊎ (c.num_qubits ≤ q1)) ⊎ (q0 ≡ q1) → NoPair c q0 q1
    to (inl (inl x)) = inl x
    to (inl (inr x)) = inr (inl x)
    to (inr x) = inr (inr x)

    back : NoPair c q0 q1 → ((c.num_qubits ≤ q0) ⊎ (c.num_qubits ≤ q1)) ⊎ (q0 ≡ q1)
    back (inl x) = inl (inl x)
    back (inr (inl x)) = inl (inr x)
    back (inr (inr x)) = inr x

module _ (s : State) (work : List Float) (q0 q1 : ℕ) where
  pub gate_refusals : (g : List (List Complex)) → FirstGround (gate_table s work q0 q1 g) (view_applied (gate_call s work q0 q1 g).answer).number
  unfolding gate_call gate_run
  gate_refusals g =
      table_answered (λ (a : After Applied). (view_applied a.answer).number)
      (3 when Unsound s.chain ∷ 2 when ShortSlice s.chain s.store work ∷ 4 when NoPair s.chain q0 q1 ∷ 5 when NoGate g ∷ []) (cut_rows (gate_steps s q0 q1 g) s)
      (gate_refusal s work q0 q1 g) (gate_run g q0 q1 s).refused (gate_after (gate_reason g q0 q1 s) (gate_run g q0 q1 s) (cleared s.chain work)) _
      (applied_number (gate_reason g q0 q1 s) (gate_run g q0 q1 s).refused) refl tt
      (test 3 (decides_unsound s.chain) (test 2 (decides_short s.chain s.store work) (test 4 (decides_pair s.chain q0 q1) (test 5 (decides_gate g) untested))))
      (λ z. let x = gate_accepted s work q0 q1 g (eq-eqb _ 0 z) in run_first (gate_steps s q0 q1 g) s x.sound x.inside)

  pub named_refusals : (name : NamedGate) → FirstGround (gate_table s work q0 q1 (matrix_of name)) (view_applied (named_gate_call s work q0 q1 name).answer).number
  unfolding named_gate_call
  named_refusals name = gate_refusals (matrix_of name)

-- ---- the cut at which a refused run stops

record Stopped (steps : List Step) (s : State) (r : Ran) : Type 0 where
  before : List Step
  cut : Step
  rest : List Step
  route : steps ≡ before ++ (cut ∷ rest)
  done : (run_steps before s).refused ≡ 0
  within : Inside s.chain.num_qubits before
  ends : CutEnds cut.gate cut.site (run_steps before s).state r
  -- of the record it changed the bonds and the centre alone
  same : AsBefore (run_steps before s).state.chain r.state.chain

-- after a step that is not refused
stopped_after : (x : Step) (xs : List Step) (s : State) (r : Ran) → x.site + 1 < s.chain.num_qubits → (stepped x s).state.chain.num_qubits ≡ s.chain.num_qubits → eqb (stepped x s).refused 0 ≡ true
    → Stopped xs (stepped x s).state r → Stopped (x ∷ xs) s r
stopped_after x xs s r inside n e z =
    let first = run_on x z.before s e in
    record {
      before = x ∷ z.before;
      cut = z.cut;
      rest = z.rest;
      route = ap (λ (ys : List Step). x ∷ ys) z.route;
      done = ap (λ (y : Ran). y.refused) first ∙ z.done;
      within = (inside, subst (λ (m : ℕ). Inside m z.before) n z.within);
      ends = subst (λ (y : Ran). CutEnds z.cut.gate z.cut.site y.state r) (sym first) z.ends;
      same = subst (λ (y : Ran). AsBefore y.state.chain r.state.chain) (sym first) z.same;
    }

run_stops : (xs : List Step) (s : State) → Sound s.chain → Inside s.chain.num_qubits xs → (run_steps xs s).refused ≢ 0 → Stopped xs s (run_steps xs s)
unfolding run_steps
run_stops [] s h inside refused = absurd (refused refl)
run_stops (x ∷ xs) s h inside refused =
    let y = stepped_keeps x s h inside.0 in
    by_test (λ (r : Ran). r.refused ≢ 0 → Stopped (x ∷ xs) s r) (eqb (stepped x s).refused 0) (run_steps xs (stepped x s).state) (stepped x s)
    (λ e z. stopped_after x xs s _ inside.0 y.qubits e (run_stops xs (stepped x s).state y.sound (rw y.qubits inside.1) z))
    (λ e z.
    let c = subst (CutEnds x.gate x.site s) (sym (stepped_refused x s e)) (adjacent_ends x.gate x.site s h inside.0) in
    record {
      before = [];
      cut = x;
      rest = xs;
      route = refl;
      done = refl;
      within = tt;
      ends = c;
      same = (refused_narrowed x.gate x.site s h inside.0 (stepped x s) c z).rest;
    })
    refused

-- ---- what the call answers and leaves there

module _ (x : Step) (t : State) (reason : Reason) (work : List Float) where
  stands : (r : Ran) → CutEnds x.gate x.site t r → r.refused ≢ 0 → StandsBySix (gate_after reason r work) x t ⊎ StandsBySeven (gate_after reason r work) x t
  stands r (above a e) z = inl (ap (λ (y : Ran). applied_of reason y.refused) e, a, ap (λ (y : Ran). y.state) e)
  stands r (nan a u n e) z = inr (ap (λ (y : Ran). applied_of reason y.refused) e, subst (NanIn x.gate x.site t) (sym (ap (λ (y : Ran). y.state) e)) n)
  stands r (stored a n e) z = absurd (z (ap (λ (y : Ran). y.refused) e))

stopped : (steps : List Step) (s : State) (reason : Reason) (work : List Float) (r : Ran) → Sound s.chain → r.refused ≢ 0 → Stopped steps s r → StopsAt steps s (gate_after reason r work)
stopped steps s reason work r h refused z =
    let weighs : (y : Tally) → tallied y r.state ≡ counted y (tallied y s) (shares_of z.before s) = λ y. ap y.figure z.same.totals ∙ run_tallied y z.before s h z.within in
    record {
      before = z.before;
      cut = z.cut;
      rest = z.rest;
      route = z.route;
      done = z.done;
      stands = stands z.cut (run_steps z.before s).state reason work r z.ends refused;
      weight = weighs of_chain_lem;
      bond_weight = λ k. weighs (of_bond_lem k);
      labels = z.same.labels ∙ run_labels z.before s h z.within z.done;
    }

-- ---- a gate

module _ (s : State) (work : List Float) (q0 q1 : ℕ) (g : List (List Complex)) where
  abbrev number : ℕ
  number = (view_applied (gate_call s work q0 q1 g).answer).number

  -- accepted, or refused by 6 or 7, it ran
  pub gate_ran : Late number → eqb (gate_refusal s work q0 q1 g) 0 ≡ true
  unfolding gate_call
  gate_ran l =
      run_late (λ (a : After Applied). (view_applied a.answer).number) (gate_refusal s work q0 q1 g) (gate_after (gate_reason g q0 q1 s) (gate_run g q0 q1 s) (cleared s.chain work)) (after (Err (gate_refusal s work q0 q1 g)) s work)
      refl (gate_early s work q0 q1 g) l

  pub gate_is_run : eqb (gate_refusal s work q0 q1 g) 0 ≡ true → gate_call s work q0 q1 g ≡ gate_after (gate_reason g q0 q1 s) (run_steps (gate_steps s q0 q1 g) s) (cleared s.chain work)
  unfolding gate_call gate_run
  gate_is_run e = ap (λ (b : Bool). cond b (gate_after (gate_reason g q0 q1 s) (gate_run g q0 q1 s) (cleared s.chain work)) (after (Err (gate_refusal s work q0 q1 g)) s work)) e

  pub run_number : eqb (gate_refusal s work q0 q1 g) 0 ≡ true → (run_steps (gate_steps s q0 q1 g) s).refused ≡ number
  run_number e = sym (ap (λ (a : After Applied). (view_applied a.answer).number) (gate_is_run e) ∙ applied_number (gate_reason g q0 q1 s) (run_steps (gate_steps s q0 q1 g) s).refused)

  pub gate_ends : GateEnds s q0 q1 g (gate_call s work q0 q1 g)
  gate_ends = record {
    done = λ z.
        let e = gate_ran (inl z) in
        let x = gate_accepted s work q0 q1 g e in
        ap (λ (a : After Applied). labels_of a.chain) (gate_is_run e) ∙ gate_labels g q0 q1 s x.sound x.first x.second x.two (run_number e ∙ z);
    stopped = λ l.
        let e = gate_ran (inr l) in
        let x = gate_accepted s work q0 q1 g e in
        let some : (run_steps (gate_steps s q0 q1 g) s).refused ≢ 0 = λ z. ⊎_elim (λ (v : number ≡ 6). omega (arith, run_number e)) (λ (v : number ≡ 7). omega (arith, run_number e)) l in
        subst (StopsAt (gate_steps s q0 q1 g) s) (sym (gate_is_run e))
        (stopped (gate_steps s q0 q1 g) s (gate_reason g q0 q1 s) (cleared s.chain work) (run_steps (gate_steps s q0 q1 g) s) x.sound some (run_stops (gate_steps s q0 q1 g) s x.sound x.inside some));
  }

pub stops : Stops
unfolding named_gate_call
stops = record { gate = gate_ends; named = λ s work q0 q1 name. gate_ends s work q0 q1 (matrix_of name) }
