-- DEMAND 1: what every call answers, and what it leaves of its record and slices, on all inputs. Where a gate stops that 6 or 7 refuses, `Demand1Cuts` says.
-- Statements only; `Laws/Demand1Proofs` proves them.
use Rattle.std.specs.Prelude.{ℕ, ◌*◌, ◌+◌, ◌-◌, ◌≤◌, ◌<◌, min, max, ◌≡◌, ◌⊎◌, ◌↔◌, Bool, not, List, [], ◌∷◌, T, length, take, drop, replicate, Float, Option, None, Some, Ok}
use Rattle.std.specs.Float.{binary64}
use Rattle.std.specs.Float.Ieee.{div, le}
use Rattle.complex.specs.Complex.{zero_f}
use Rattle.complex.specs.declared.Complex.{Complex}
use Rattle.gates.specs.Named.{matrix_of}
use Rattle.gates.specs.declared.NamedGate.{NamedGate}
use Rattle.model.specs.declared.Projected.{Projected}
use Rattle.model.specs.declared.Projected.TheVariants as projected
use Rattle.model.specs.Chain.{site_of}
use Rattle.model.specs.Slots.{State, slot_of}
use Rattle.model.specs.Layers.{Placed, layer_of}
use Rattle.model.specs.Born.{weight_at, total_at, drawn_at, readied}
use Rattle.model.specs.Environment.{Env, left_env, right_env}
use Rattle.model.specs.Start.{zero_chain}
use Rattle.model.specs.Answers.{view_answer, view_applied, view_layered, view_projected, view_measured, view_contracted}
use Rattle.model.specs.Calls.{After, Started, Walked, start_call, gate_call, named_gate_call, layer_call, project_call, measure_call, reset_call, left_environment_call, right_environment_call}
use Rattle.model.specs.Lists.{left}
use Rattle.model.specs.Statements.Table.{FirstGround, start_table, gate_table, layer_table, project_table, measure_table, reset_table, environment_table}

-- ---- the number: that of the first ground in the call's table; with none the call is accepted

pub record Numbered : Type 0 where
  pub start : (n d : ℕ) (epsilon clamp : Float) (exponent : ℕ) (store : List Float) →
      FirstGround (start_table n d epsilon clamp exponent store) (view_answer (start_call n d epsilon clamp exponent store).answer).number
  pub gate : (s : State) (work : List Float) (q0 q1 : ℕ) (gate : List (List Complex)) →
      FirstGround (gate_table s work q0 q1 gate) (view_applied (gate_call s work q0 q1 gate).answer).number
  pub named : (s : State) (work : List Float) (q0 q1 : ℕ) (name : NamedGate) →
      FirstGround (gate_table s work q0 q1 (matrix_of name)) (view_applied (named_gate_call s work q0 q1 name).answer).number
  pub layer : (s : State) (work : List Float) (pairs : List ℕ) (gates : List Float) →
      FirstGround (layer_table s work pairs gates) (view_layered (layer_call s work pairs gates).answer).number
  pub project : (s : State) (work : List Float) (q : ℕ) (o : Bool) → FirstGround (project_table s work q) (view_projected (project_call s work q o).answer).number
  pub measure : (s : State) (work : List Float) (q flag : ℕ) (draw : Float) →
      FirstGround (measure_table s work q flag draw) (view_measured (measure_call s work q flag draw).answer).number
  pub reset : (s : State) (work : List Float) (q : ℕ) (draw : Float) → FirstGround (reset_table s work q draw) (view_answer (reset_call s work q draw).answer).number
  pub left_environment : (s : State) (work out : List Float) (from site : ℕ) →
      FirstGround (environment_table s work out from site) (view_contracted (left_environment_call s work out from site).answer).number
  pub right_environment : (s : State) (work out : List Float) (site to : ℕ) →
      FirstGround (environment_table s work out to site) (view_contracted (right_environment_call s work out site to).answer).number

-- ---- what remains of record and slices

-- accepted, or refused by 6 or 7; and refused by any other number, where nothing is written
abbrev pub Late : ℕ → Type 0
Late number = (number ≡ 0) ⊎ ((number ≡ 6) ⊎ (number ≡ 7))

abbrev pub Early : ℕ → Type 0
Early number = Late number → ⊥

-- the work slice: as it was where nothing is written; else +0 as far as the call needs it; past that always as it was
pub record WorkLeft (d number : ℕ) (before after : List Float) : Type 0 where
  pub unaltered : Early number → after ≡ before
  pub cleared : Late number → take (80 * d * d + 16 * d) after ≡ replicate (80 * d * d + 16 * d) zero_f
  pub past : drop (80 * d * d + 16 * d) after ≡ drop (80 * d * d + 16 * d) before
  pub long : length after ≡ length before

-- the store: a site below lo or above hi keeps its whole slot, and numbers past the slots are never changed
pub record StoreLeft (n d lo hi : ℕ) (before after : List Float) : Type 0 where
  pub slots : (j : ℕ) → (j < lo) ⊎ (hi < j) → slot_of d j after ≡ slot_of d j before
  pub past : drop (4 * n * d * d) after ≡ drop (4 * n * d * d) before
  pub long : length after ≡ length before

-- the sites that a call on the sites from `near` to `far` may rewrite: these, and those between them and the centre; all, where no centre is recorded
abbrev pub lowest : Option ℕ → ℕ → ℕ
lowest None near = 0
lowest (Some k) near = min k near

abbrev pub highest : Option ℕ → ℕ → ℕ → ℕ
highest None n far = n - 1
highest (Some k) n far = max k far

-- what a call that answers `number` leaves of the state s and of the work slice
pub record Leaves {A : Type 0} (s : State) (work : List Float) (near far number : ℕ) (a : After A) : Type 0 where
  pub unaltered : Early number → left a ≡ s
  pub work_left : WorkLeft s.chain.max_bond_dim number work a.work
  pub store_left : (let c = s.chain in StoreLeft c.num_qubits c.max_bond_dim (lowest c.center near) (highest c.center c.num_qubits far) s.store a.store)

-- a start that is refused hands back the all-zero record
pub record StartLeaves (n d number : ℕ) (store : List Float) (a : Started) : Type 0 where
  pub unaltered : 1 ≤ number → (a.chain ≡ zero_chain) × (a.store ≡ store)
  pub past : drop (4 * n * d * d) a.store ≡ drop (4 * n * d * d) store
  pub long : length a.store ≡ length store

-- the result slice begins with the environment's entries, 2 · dim · dim numbers, and is as it was past them; e is the environment
pub record EnvironmentLeaves (s : State) (work out : List Float) (number : ℕ) (e : Env) (a : Walked) : Type 0 where
  pub unaltered : Early number → a.out ≡ out
  pub work_left : WorkLeft s.chain.max_bond_dim number work a.work
  pub result : number ≡ 0 → (a.answer ≡ Ok e.dim) × (take (2 * e.dim * e.dim) a.out ≡ e.entries) × (drop (2 * e.dim * e.dim) a.out ≡ drop (2 * e.dim * e.dim) out)
  pub long : length a.out ≡ length out

-- the sites from one qubit's to the other's
abbrev pub near_site : State → ℕ → ℕ → ℕ
near_site s q0 q1 = min (site_of s.chain q0) (site_of s.chain q1)

abbrev pub far_site : State → ℕ → ℕ → ℕ
far_site s q0 q1 = max (site_of s.chain q0) (site_of s.chain q1)

-- the lowest and the highest site of the qubits that a layer names
abbrev pub nearest_of : State → List Placed → ℕ
nearest_of s [] = s.chain.num_qubits - 1
nearest_of s (x ∷ xs) = min (near_site s x.q0 x.q1) (nearest_of s xs)

abbrev pub farthest_of : State → List Placed → ℕ
farthest_of s [] = 0
farthest_of s (x ∷ xs) = max (far_site s x.q0 x.q1) (farthest_of s xs)

pub record Remains : Type 0 where
  pub start : (n d : ℕ) (epsilon clamp : Float) (exponent : ℕ) (store : List Float) →
      (let a = start_call n d epsilon clamp exponent store in StartLeaves n d (view_answer a.answer).number store a)
  pub gate : (s : State) (work : List Float) (q0 q1 : ℕ) (gate : List (List Complex)) →
      (let a = gate_call s work q0 q1 gate in Leaves s work (near_site s q0 q1) (far_site s q0 q1) (view_applied a.answer).number a)
  pub named : (s : State) (work : List Float) (q0 q1 : ℕ) (name : NamedGate) →
      (let a = named_gate_call s work q0 q1 name in Leaves s work (near_site s q0 q1) (far_site s q0 q1) (view_applied a.answer).number a)
  -- a gate after which no centre is recorded moved none: it rewrites no site but those from one qubit's to the other's
  pub unmoved : (s : State) (work : List Float) (q0 q1 : ℕ) (gate : List (List Complex)) →
      (let a = gate_call s work q0 q1 gate in
      a.chain.center ≡ None → StoreLeft s.chain.num_qubits s.chain.max_bond_dim (near_site s q0 q1) (far_site s q0 q1) s.store a.store)
  pub unmoved_named : (s : State) (work : List Float) (q0 q1 : ℕ) (name : NamedGate) →
      (let a = named_gate_call s work q0 q1 name in
      a.chain.center ≡ None → StoreLeft s.chain.num_qubits s.chain.max_bond_dim (near_site s q0 q1) (far_site s q0 q1) s.store a.store)
  pub layer : (s : State) (work : List Float) (pairs : List ℕ) (gates : List Float) →
      (let a = layer_call s work pairs gates in let xs = layer_of pairs gates in Leaves s work (nearest_of s xs) (farthest_of s xs) (view_layered a.answer).number a)
  pub project : (s : State) (work : List Float) (q : ℕ) (o : Bool) →
      (let a = project_call s work q o in let k = site_of s.chain q in Leaves s work k k (view_projected a.answer).number a)
  pub measure : (s : State) (work : List Float) (q flag : ℕ) (draw : Float) →
      (let a = measure_call s work q flag draw in let k = site_of s.chain q in Leaves s work k k (view_measured a.answer).number a)
  pub reset : (s : State) (work : List Float) (q : ℕ) (draw : Float) →
      (let a = reset_call s work q draw in let k = site_of s.chain q in Leaves s work k k (view_answer a.answer).number a)
  pub left_environment : (s : State) (work out : List Float) (from site : ℕ) →
      (let a = left_environment_call s work out from site in EnvironmentLeaves s work out (view_contracted a.answer).number (left_env from site s) a)
  pub right_environment : (s : State) (work out : List Float) (site to : ℕ) →
      (let a = right_environment_call s work out site to in EnvironmentLeaves s work out (view_contracted a.answer).number (right_env site to s) a)

-- ---- Nothing is answered exactly where the outcome's Born weight, not yet divided by the total, is at most the clamp

-- What an accepted projection answers and leaves, where t is the state with the centre on the qubit's site, and weight and total are the outcome's there.
-- Where Nothing is answered, the amplitudes are unchanged save by the centre move.
pub record NothingExactly (clamp weight total : Float) (t : State) (a : After Projected) : Type 0 where
  pub exactly : (a.answer ≡ projected.Nothing) ↔ T (le weight clamp)
  pub unaltered : T (le weight clamp) → left a ≡ t
  pub kept : T (not (le weight clamp)) → a.answer ≡ projected.Kept (div binary64 weight total)

pub record Clamped : Type 0 where
  pub project : (s : State) (work : List Float) (q : ℕ) (o : Bool) →
      (let a = project_call s work q o in
      let k = site_of s.chain q in
      let t = readied k s in
      (view_projected a.answer).number ≡ 0 → NothingExactly s.chain.norm_clamp_min (weight_at k o t) (total_at k t) t a)
  -- a measurement or a reset whose outcome has no more weight answers, and rewrites no amplitude
  pub measure : (s : State) (work : List Float) (q flag : ℕ) (draw : Float) →
      (let a = measure_call s work q flag draw in
      let k = site_of s.chain q in
      let t = readied k s in
      (view_measured a.answer).number ≡ 0 → T (le (weight_at k (drawn_at k draw t) t) s.chain.norm_clamp_min) → a.store ≡ t.store)
  pub reset : (s : State) (work : List Float) (q : ℕ) (draw : Float) →
      (let a = reset_call s work q draw in
      let k = site_of s.chain q in
      let t = readied k s in
      (view_answer a.answer).number ≡ 0 → T (le (weight_at k (drawn_at k draw t) t) s.chain.norm_clamp_min) → a.store ≡ t.store)
