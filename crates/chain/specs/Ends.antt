-- What a refused call leaves is what the model defines, and so is what start and a gate by its name leave. k is the number that the call is refused under.
use Rattle.std.specs.Prelude.{ℕ, zero, suc, ◌≤◌, ◌≡◌, List, Bool, not, ◌||◌, cond, leb, length, Float, Ok, Err}
use Rattle.std.proofs.Math.Path.{refl}
use Rattle.std.proofs.Common.{sym, ap, ◌∙◌, arith, ltb-false}
use Rattle.std.proofs.Math.Bool.{true, false}
use lib.Dec.{T, ltb, eqb}
use Rattle.complex.specs.declared.Complex.{Complex}
use Rattle.gates.specs.declared.NamedGate.{NamedGate}
use Rattle.gates.specs.Named.{matrix_of}
use Rattle.model.specs.declared.Chain.{Chain}
use Rattle.model.specs.declared.Layered.TheVariants as layered
use Rattle.model.specs.declared.Projected.TheVariants as projected
use Rattle.model.specs.Answers.{Answer, Applied, refusal_of}
use Rattle.model.specs.Slots.{State, held, store_room}
use Rattle.model.specs.Sound.{settings_fit, share01, sound}
use Rattle.gates.specs.Finite.{all_finite}
use Rattle.model.specs.Start.{fresh_chain, fresh_store, zero_chain}
use Rattle.model.specs.Calls.{After, after, Started, started, start_call, gate_call, named_gate_call, layer_call, project_call, measure_call, reset_call, walked, env_room, left_environment_call, right_environment_call, first_of, layer_number, short, outside}
use Rattle.model.proofs.Laws.SoundFacts.{settings_facts}

-- ---- a refused call: its number, by the answer of the tests

refused_by : (number k : ℕ) → ◌≡◌ {A = Answer} (Err k) (refusal_of number) → (k ≡ number) × (k ≡ 0 → ⊥)
refused_by zero k e = let z : ◌≡◌ {A = ℕ} 0 1 = cc in absurd (omega arith)
refused_by (suc n) k e = let f : k ≡ suc n = cc in (f, λ z. omega arith)

passed_by : (number : ℕ) {x : Unit {0}} → ◌≡◌ {A = Answer} (Ok x) (refusal_of number) → number ≡ 0
passed_by zero e = refl
passed_by (suc n) e = cc

-- f says what is left under a number, x what an accepted call leaves
turned : {A : Type 0} (f : ℕ → A) (x : A) (k number : ℕ) → ◌≡◌ {A = Answer} (Err k) (refusal_of number) → f k ≡ cond (eqb number 0) x (f number)
turned f x k number e = let y = refused_by number k e in ap f y.0 ∙ either (eqb number 0) (lib.Dec.eqb→eq number 0) (λ z. y.1 (y.0 ∙ z))
  where
    either : (b : Bool) → (T b → number ≡ 0) → (number ≡ 0 → ⊥) → f number ≡ cond b x (f number)
    either true g above = absurd (above (g tt))
    either false g above = refl

-- `proper` is the test of what the call is handed, as the call makes it
module _ (c : Chain) (store work : List Float) (k : ℕ) where
  pub gate_refused : (q0 q1 : ℕ) (gate : List (List Complex)) (proper : Bool) → proper ≡ all_finite gate → ◌≡◌ {A = Answer} (Err k) (refusal_of (first_of (not (sound c)) (short c store work) (outside c q0 || outside c q1 || eqb q0 q1) (not proper)))
      → after (Err k) (held c store) work ≡ gate_call (held c store) work q0 q1 gate
  unfolding gate_call
  gate_refused q0 q1 gate proper e = rw e (turned (λ (n : ℕ). after (Err n) (held c store) work) _ k _)

  pub layer_refused : (pairs : List ℕ) (gates : List Float) → ◌≡◌ {A = Answer} (Err k) (refusal_of (layer_number c (short c store work) pairs gates))
      → after (layered.Refused k) (held c store) work ≡ layer_call (held c store) work pairs gates
  unfolding layer_call
  layer_refused pairs gates = turned (λ (n : ℕ). after (layered.Refused n) (held c store) work) _ k _

  pub project_refused : (q : ℕ) (o : Bool) → ◌≡◌ {A = Answer} (Err k) (refusal_of (first_of (not (sound c)) (short c store work) (outside c q) false))
      → after (projected.Refused k) (held c store) work ≡ project_call (held c store) work q o
  unfolding project_call
  project_refused q o = turned (λ (n : ℕ). after (projected.Refused n) (held c store) work) _ k _

  pub measure_refused : (q flag : ℕ) (draw : Float) (proper : Bool) → proper ≡ share01 draw → ◌≡◌ {A = Answer} (Err k) (refusal_of (first_of (not (sound c)) (short c store work) (outside c q || leb 64 flag) (not proper)))
      → after (Err k) (held c store) work ≡ measure_call (held c store) work q flag draw
  unfolding measure_call
  measure_refused q flag draw proper e = rw e (turned (λ (n : ℕ). after (Err n) (held c store) work) _ k _)

  pub reset_refused : (q : ℕ) (draw : Float) (proper : Bool) → proper ≡ share01 draw → ◌≡◌ {A = Answer} (Err k) (refusal_of (first_of (not (sound c)) (short c store work) (outside c q) (not proper)))
      → after (Err k) (held c store) work ≡ reset_call (held c store) work q draw
  unfolding reset_call
  reset_refused q draw proper e = rw e (turned (λ (n : ℕ). after (Err n) (held c store) work) _ k _)

  module _ (out : List Float) where
    abbrev walk_number : ℕ → ℕ → ℕ
    walk_number end site = first_of (not (sound c)) (short c store work || ltb (length out) (env_room c.max_bond_dim)) (outside c end || ltb c.num_qubits site) false

    pub left_refused : (from site : ℕ) → ◌≡◌ {A = Answer} (Err k) (refusal_of (walk_number from site)) → walked (Err k) work out ≡ left_environment_call (held c store) work out from site
    unfolding left_environment_call
    left_refused from site = turned (λ (n : ℕ). walked (Err n) work out) _ k _

    pub right_refused : (site to : ℕ) → ◌≡◌ {A = Answer} (Err k) (refusal_of (walk_number to site)) → walked (Err k) work out ≡ right_environment_call (held c store) work out site to
    unfolding right_environment_call
    right_refused site to = turned (λ (n : ℕ). walked (Err n) work out) _ k _

-- ---- a gate by its name

pub named_ends : (s : State) (work : List Float) (q0 q1 : ℕ) (name : NamedGate) (gate : List (List Complex)) (x : After Applied)
    → gate ≡ matrix_of name → x ≡ gate_call s work q0 q1 gate → x ≡ named_gate_call s work q0 q1 name
unfolding named_gate_call
named_ends s work q0 q1 name gate x e f = f ∙ ap (gate_call s work q0 q1) e

-- ---- start, by the record that it is to leave

module _ (n d : ℕ) (epsilon clamp : Float) (exponent : ℕ) (store : List Float) (fresh : Chain) (ef : fresh ≡ fresh_chain n d epsilon clamp exponent) where
  abbrev number : Chain → ℕ
  number c = cond (not (settings_fit c.num_qubits c.max_bond_dim c.svd_epsilon c.norm_clamp_min c.workspace_exponent)) 1 (cond (ltb (length store) (store_room c.num_qubits c.max_bond_dim)) 2 0)

  abbrev start_number : Bool → Bool → ℕ
  start_number fit short = cond (not fit) 1 (cond short 2 0)

  same_number : number fresh ≡ start_number (settings_fit n d epsilon clamp exponent) (ltb (length store) (store_room n d))
  unfolding fresh_chain
  same_number = rw ef refl

  -- where it is not refused, the settings are in range, and the store holds n sites
  pub start_fits : ◌≡◌ {A = Answer} (Ok tt) (refusal_of (number fresh)) → (n ≤ 64) × (1 ≤ d) × (d ≤ 128) × (store_room n d ≤ length store)
  start_fits e = go (settings_fit n d epsilon clamp exponent) (ltb (length store) (store_room n d)) refl refl (sym same_number ∙ passed_by _ e)
    where
      go : (fit short : Bool) → settings_fit n d epsilon clamp exponent ≡ fit → ltb (length store) (store_room n d) ≡ short → start_number fit short ≡ 0
          → (n ≤ 64) × (1 ≤ d) × (d ≤ 128) × (store_room n d ≤ length store)
      go true false f l z =
          let h = settings_facts n d epsilon clamp exponent (rw f tt) in
          (h.qubits.1, h.cap.0, h.cap.1, ltb-false (length store) (store_room n d) l)
      go true true f l z = absurd (omega (arith, z))
      go false short f l z = absurd (omega (arith, z))

  -- the call, by its two tests
  abbrev tested : Bool → Bool → Started
  tested fit short =
      cond (not fit) (started (Err 1) zero_chain store)
      (cond short (started (Err 2) zero_chain store) (started (Ok tt) (fresh_chain n d epsilon clamp exponent) (fresh_store n d store)))

  pub start_ends : (left : List Float) → ◌≡◌ {A = Answer} (Ok tt) (refusal_of (number fresh)) → left ≡ fresh_store n d store → started (Ok tt) fresh left ≡ start_call n d epsilon clamp exponent store
  unfolding start_call
  start_ends left e el = (λ i. started (Ok tt) (ef i) (el i)) ∙ go (settings_fit n d epsilon clamp exponent) (ltb (length store) (store_room n d)) (sym same_number ∙ passed_by _ e)
    where
      go : (fit short : Bool) → start_number fit short ≡ 0 → started (Ok tt) (fresh_chain n d epsilon clamp exponent) (fresh_store n d store) ≡ tested fit short
      go true false z = refl
      go true true z = absurd (omega (arith, z))
      go false short z = absurd (omega (arith, z))

  pub start_refused : (c : Chain) (k : ℕ) → ◌≡◌ {A = Answer} (Err k) (refusal_of (number fresh)) → c ≡ zero_chain → started (Err k) c store ≡ start_call n d epsilon clamp exponent store
  unfolding start_call
  start_refused c k e ec =
      let x = refused_by _ k e in
      (λ i. started (Err ((x.0 ∙ same_number) i)) (ec i) store) ∙ go (settings_fit n d epsilon clamp exponent) (ltb (length store) (store_room n d)) (λ z. x.1 (x.0 ∙ same_number ∙ z))
    where
      go : (fit short : Bool) → (start_number fit short ≡ 0 → ⊥) → started (Err (start_number fit short)) zero_chain store ≡ tested fit short
      go true false above = absurd (above refl)
      go true true above = refl
      go false short above = refl
