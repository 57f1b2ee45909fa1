-- Proofs of (c) and (d) of `Statements/Demand1Sound`.
use Rattle.std.specs.Prelude.{ℕ, ◌+◌, ◌<◌, ◌≡◌, ◌≢◌, true, List, [], ◌∷◌, T, Float, Ok}
use Rattle.std.proofs.Common.{arith}
use Rattle.complex.specs.declared.Complex.{Complex}
use Rattle.model.specs.declared.Chain.{Chain}
use Rattle.model.specs.Slots.{State}
use Rattle.model.specs.Moves.{established}
use Rattle.model.specs.Cut.{attempt, adjacent}
use Rattle.model.specs.Sound.{sound}
use Rattle.model.specs.Calls.{start_call}
use Rattle.model.specs.Lists.{Call, gate, named, layer, project, measure, reset, state_of, final_state}
use Rattle.model.specs.Statements.Soundness.{Sound}
use Rattle.model.proofs.Laws.SoundFacts.{sound_facts, facts_sound}
use Rattle.model.proofs.Laws.SoundKept.{Keeps, keeps_none, keeps_then, gate_call_keeps, named_gate_call_keeps, project_call_keeps, measure_call_keeps, reset_call_keeps}
use Rattle.model.proofs.Laws.LayerRuns.{layer_call_keeps}
use Rattle.model.proofs.Laws.StartLaws.{start_sound}
use Rattle.model.proofs.Laws.CutEnds.{second_not_6, untouched_by_6}
use Rattle.model.specs.Statements.Demand1Sound.{Orderly}

-- ---- (c)

-- a call leaves a sound record, and the settings as they were
pub call_keeps : (c : Call) (s : State) → T (sound s.chain) → Keeps s.chain (state_of c s).chain
call_keeps (gate q0 q1 g work) s h = gate_call_keeps s work (sound_facts s.chain h) q0 q1 g
call_keeps (named q0 q1 name work) s h = named_gate_call_keeps s work (sound_facts s.chain h) q0 q1 name
call_keeps (layer pairs gates work) s h = layer_call_keeps s work (sound_facts s.chain h) pairs gates
call_keeps (project q o work) s h = project_call_keeps s work (sound_facts s.chain h) q o
call_keeps (measure q flag draw work) s h = measure_call_keeps s work (sound_facts s.chain h) q flag draw
call_keeps (reset q draw work) s h = reset_call_keeps s work (sound_facts s.chain h) q draw

pub call_sound : (c : Call) (s : State) → T (sound s.chain) → T (sound (state_of c s).chain)
call_sound c s h = facts_sound (state_of c s).chain (call_keeps c s h).sound

pub start_accepted_sound : (n d : ℕ) (epsilon clamp : Float) (exponent : ℕ) (store : List Float)
    → (start_call n d epsilon clamp exponent store).answer ≡ Ok tt → T (sound (start_call n d epsilon clamp exponent store).chain)
start_accepted_sound n d epsilon clamp exponent store done = facts_sound _ (start_sound n d epsilon clamp exponent store done)

-- so does a list of calls
pub list_keeps : (cs : List Call) (s : State) → T (sound s.chain) → Keeps s.chain (final_state cs s).chain
list_keeps [] s h = keeps_none s.chain (sound_facts s.chain h)
list_keeps (c ∷ cs) s h = keeps_then (call_keeps c s h) (list_keeps cs (state_of c s) (call_sound c s h))

sound_orderly : (n d : ℕ) (c : Chain) → c.num_qubits ≡ n → c.max_bond_dim ≡ d → Sound c → Orderly n d c
sound_orderly n d c en ed h = record {
  sites = λ q l. (omega (arith, h.sites.below q (omega arith)), h.sites.undone q (omega arith));
  qubits = λ k l. (omega (arith, h.qubits.below k (omega arith)), h.qubits.undone k (omega arith));
  neighbours = λ i l. h.bonds.neighbours i (omega arith);
  bonds = λ k l. (omega (arith, (h.bonds.left_range k (omega arith)).1), omega (arith, (h.bonds.right_range k (omega arith)).1));
}

pub call_orderly : (c : Call) (s : State) → T (sound s.chain) → Orderly s.chain.num_qubits s.chain.max_bond_dim (state_of c s).chain
call_orderly c s h = let x = call_keeps c s h in sound_orderly s.chain.num_qubits s.chain.max_bond_dim (state_of c s).chain x.qubits x.cap x.sound

-- ---- (d)

module _ (gate : List (List Complex)) (k : ℕ) (s : State) (h : T (sound s.chain)) (inside : k + 1 < s.chain.num_qubits) where
  pub second_cut_not_6 : (attempt gate k s).again ≡ true → (attempt gate k (established k (attempt gate k s).state)).refused ≢ 6
  second_cut_not_6 again = second_not_6 gate k s (sound_facts s.chain h) inside again

  pub cut_6_untouched : (adjacent gate k s).refused ≡ 6 → (adjacent gate k s).state ≡ s
  cut_6_untouched six = untouched_by_6 gate k s (sound_facts s.chain h) inside six
