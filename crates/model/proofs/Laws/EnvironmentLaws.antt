-- Environments: their entries are those of a square matrix, whose dimension is a bond of the chain; and what the two calls leave of their slices.
use Rattle.std.specs.Prelude.{ℕ, ◌+◌, ◌-◌, ◌*◌, ◌≤◌, ◌<◌, ◌≡◌, refl, List, ◌++◌, length, take, drop, Float, Bool, false, not, ◌||◌, ltb, eqb}
use Rattle.std.proofs.Common.{arith, mul-le-mul, ap, ◌∙◌, length-append, length-drop, take_at, drop_at, inl, ltb-false}
use Rattle.complex.specs.Loops.{between, each_keeps}
use Rattle.complex.specs.Numbers.{length_numbers}
use Rattle.complex.specs.Matrix.{length_rows}
use Rattle.complex.specs.declared.Complex.{Complex}
use Rattle.model.specs.Slots.{State}
use Rattle.model.specs.Environment.{Env, square, left_across, right_across, left_env, right_env}
use Rattle.model.specs.Sound.{sound}
use Rattle.model.specs.Answers.{view_contracted}
use Rattle.model.specs.Calls.{Walked, short, outside, env_room, env_refusal, env_after, left_environment_call, right_environment_call}
use Rattle.model.specs.Statements.Demand1.{Early, EnvironmentLeaves}
use Rattle.model.specs.Statements.Soundness.{Sound}
use Rattle.model.proofs.Laws.SoundFacts.{left_most, right_most}
use Rattle.model.proofs.Laws.AfterStates.{work_kept, work_cleared, not_short}
use Rattle.model.proofs.Laws.Refusals.{passes_sound, first_of_early, first_of_none, not_outside}
use Rattle.model.proofs.Laws.Tests.{by_test, neither}

-- a square matrix whose dimension is at most d
pub record Squared (d : ℕ) (e : Env) : Type 0 where
  pub whole : length e.entries ≡ 2 * e.dim * e.dim
  pub most : e.dim ≤ d

square_squared : (d dim : ℕ) (f : ℕ → ℕ → Complex) → dim ≤ d → Squared d (square dim f)
square_squared d dim f h = record { whole = length_rows dim _ (λ r. length_numbers dim (λ c. f r c)) dim ∙ omega arith; most = h }

module _ (s : State) (h : Sound s.chain) where
  pub left_env_squared : (from site : ℕ) → from < s.chain.num_qubits → site ≤ s.chain.num_qubits → Squared s.chain.max_bond_dim (left_env from site s)
  unfolding left_env between left_across
  left_env_squared from site l m =
      each_keeps (Squared s.chain.max_bond_dim) (site - from) _
      (λ k e b p. square_squared s.chain.max_bond_dim _ _ (right_most s.chain h (from + k) (omega arith))) _ (square_squared s.chain.max_bond_dim _ _ (left_most s.chain h from l))

  pub right_env_squared : (site to : ℕ) → to < s.chain.num_qubits → Squared s.chain.max_bond_dim (right_env site to s)
  unfolding right_env right_across
  right_env_squared site to l =
      each_keeps (Squared s.chain.max_bond_dim) (to - site) _
      (λ k e b p. square_squared s.chain.max_bond_dim _ _ (left_most s.chain h (to - k) (omega arith))) _ (square_squared s.chain.max_bond_dim _ _ (right_most s.chain h to l))

-- the result slice with an environment at its start
module _ (d : ℕ) (e : Env) (q : Squared d e) (out : List Float) where
  pub written_front : take (2 * e.dim * e.dim) (e.entries ++ drop (length e.entries) out) ≡ e.entries
  written_front = take_at e.entries _ _ q.whole

  pub written_past : drop (2 * e.dim * e.dim) (e.entries ++ drop (length e.entries) out) ≡ drop (2 * e.dim * e.dim) out
  written_past = drop_at e.entries _ _ q.whole ∙ ap (λ (n : ℕ). drop n out) q.whole

  pub written_length_lem : 2 * d * d ≤ length out → length (e.entries ++ drop (length e.entries) out) ≡ length out
  written_length_lem h = simp (length-append, length-drop) (omega (arith, mul-le-mul q.most q.most))

-- ---- what the calls leave

module _ (s : State) (work out : List Float) (end site : ℕ) (e : Env) (square : Sound s.chain → end < s.chain.num_qubits → site ≤ s.chain.num_qubits → Squared s.chain.max_bond_dim e) where
  abbrev lacking : Bool
  lacking = short s.chain s.store work || ltb (length out) (env_room s.chain.max_bond_dim)

  abbrev apart : Bool
  apart = outside s.chain end || ltb s.chain.num_qubits site

  environment_leaves : (let a = env_after (env_refusal s work out end site) e s work out in EnvironmentLeaves s work out (view_contracted a.answer).number e a)
  environment_leaves =
      by_test (λ (a : Walked). EnvironmentLeaves s work out (view_contracted a.answer).number e a) (eqb (env_refusal s work out end site) 0) _ _
      (λ q.
      let p = first_of_none (not (sound s.chain)) lacking apart false q in
      let slices = neither (short s.chain s.store work) (ltb (length out) (env_room s.chain.max_bond_dim)) p.two in
      let indices = neither (outside s.chain end) (ltb s.chain.num_qubits site) p.four in
      let sq = square (passes_sound s.chain p.three) (not_outside s.chain end indices.0) (ltb-false s.chain.num_qubits site indices.1) in
      record {
        unaltered = λ x. absurd (x (inl refl));
        work_left = work_cleared s.chain 0 work (inl refl) (not_short s work slices.0).scratch;
        result = λ x. (refl, written_front s.chain.max_bond_dim e sq out, written_past s.chain.max_bond_dim e sq out);
        long = written_length_lem s.chain.max_bond_dim e sq out (ltb-false (length out) (env_room s.chain.max_bond_dim) slices.1);
      })
      (λ q.
      let early : Early (env_refusal s work out end site) = first_of_early (not (sound s.chain)) lacking apart false q in
      record { unaltered = λ x. refl; work_left = work_kept s.chain (env_refusal s work out end site) work early; result = λ x. absurd (early (inl x)); long = refl })

module _ (s : State) (work out : List Float) where
  pub left_environment_leaves : (from site : ℕ) → (let a = left_environment_call s work out from site in EnvironmentLeaves s work out (view_contracted a.answer).number (left_env from site s) a)
  unfolding left_environment_call
  left_environment_leaves from site = environment_leaves s work out from site (left_env from site s) (λ h l m. left_env_squared s h from site l m)

  pub right_environment_leaves : (site to : ℕ) → (let a = right_environment_call s work out site to in EnvironmentLeaves s work out (view_contracted a.answer).number (right_env site to s) a)
  unfolding right_environment_call
  right_environment_leaves site to = environment_leaves s work out to site (right_env site to s) (λ h l m. right_env_squared s h site to l)
