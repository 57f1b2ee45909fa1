-- W9. A workspace exponent of 64 or more is no cap: no call answers 6. From 63 to 255 nothing but the record's own field tells one exponent from another.
-- Statements only; `Laws/NeverSix` and `Laws/AsAt63` prove them.
use Rattle.std.specs.Prelude.{ℕ, ◌≤◌, ◌≡◌, ◌≢◌, List, Float, Ok}
use Rattle.model.specs.declared.Chain.{Chain}
use Rattle.model.specs.Chain.{ChainSettings, bonds_of, labels_of, cut_totals_of, built}
use Rattle.model.specs.Slots.{State, held}
use Rattle.model.specs.Answers.{view_contracted}
use Rattle.model.specs.Calls.{start_call, left_environment_call, right_environment_call}
use Rattle.model.specs.Lists.{Call, answer_of, final_state, answers_of}

pub record NeverSix : Type 0 where
  -- whatever the record, its slices and the call
  pub call : (c : Call) (s : State) → 64 ≤ s.chain.workspace_exponent → (answer_of c s).number ≢ 6
  -- and after any list of calls from an accepted start
  pub after_start_lem : (n d : ℕ) (epsilon clamp : Float) (exponent : ℕ) (store : List Float) → 64 ≤ exponent
      → (let st = start_call n d epsilon clamp exponent store in
      st.answer ≡ Ok tt → (cs : List Call) (c : Call) → (answer_of c (final_state cs (held st.chain st.store))).number ≢ 6)
  -- environments make no cut
  pub left_environment : (s : State) (work out : List Float) (from site : ℕ) → (view_contracted (left_environment_call s work out from site).answer).number ≢ 6
  pub right_environment : (s : State) (work out : List Float) (site to : ℕ) → (view_contracted (right_environment_call s work out site to).answer).number ≢ 6

-- a record, and a state, with another workspace exponent
abbrev pub with_exponent : Chain → ℕ → Chain
with_exponent c e =
    let settings : ChainSettings = record { qubits = c.num_qubits; cap = c.max_bond_dim; exponent = e; epsilon = c.svd_epsilon; clamp = c.norm_clamp_min } in
    built settings (bonds_of c) (labels_of c) c.classical_bits c.center (cut_totals_of c)

abbrev pub under : ℕ → State → State
under e s = held (with_exponent s.chain e) s.store

-- an exponent from 63 to 255 gives the answers of 63, and its states but for the exponent itself
pub record AsAt63 : Type 0 where
  -- a start, at any byte
  pub start : (n d : ℕ) (epsilon clamp : Float) (exponent : ℕ) (store : List Float) → exponent ≤ 255
      → (let a = start_call n d epsilon clamp exponent store in
      let b = start_call n d epsilon clamp 63 store in
      (a.answer ≡ b.answer) × (a.answer ≡ Ok tt → held a.chain a.store ≡ under exponent (held b.chain b.store)))
  -- a list of calls, on any state, of a sound record or not
  pub calls : (cs : List Call) (s : State) (e : ℕ) → 63 ≤ e → e ≤ 255
      → (answers_of cs (under e s) ≡ answers_of cs (under 63 s)) × (final_state cs (under e s) ≡ under e (final_state cs (under 63 s)))
  -- an environment, at any byte; it leaves the state
  pub left_environment : (s : State) (work out : List Float) (from site e : ℕ) → e ≤ 255
      → left_environment_call (under e s) work out from site ≡ left_environment_call (under 63 s) work out from site
  pub right_environment : (s : State) (work out : List Float) (site to e : ℕ) → e ≤ 255
      → right_environment_call (under e s) work out site to ≡ right_environment_call (under 63 s) work out site to
