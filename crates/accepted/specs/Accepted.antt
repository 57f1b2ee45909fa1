-- What a call that is not refused has: a sound record, and slices that are long enough for the part of the work slice that it lends and leaves +0.
use Rattle.std.specs.Prelude.{ℕ, ◌*◌, ◌≤◌, ◌<◌, ◌≡◌, List, ◌++◌, true, not, length, take, drop, replicate, Float}
use Rattle.std.proofs.Common.{ap, ◌∙◌, mul-le-mul, arith, length-take-le, drop_at}
use Rattle.std.proofs.lemmas.List.{take-append-le}
use Rattle.complex.specs.Complex.{zero_f}
use Rattle.model.specs.declared.Chain.{Chain}
use Rattle.model.specs.Slots.{State, store_room, work_room}
use Rattle.model.specs.Sound.{sound}
use Rattle.model.specs.Calls.{cleared}
use Rattle.model.specs.Statements.Soundness.{Sound}
use Rattle.model.proofs.Laws.Refusals.{passes_sound}
use Rattle.model.specs.Environment.{left_env, right_env}
use Rattle.model.proofs.Laws.EnvironmentLaws.{left_env_squared, right_env_squared}
use Rattle.moves.specs.Ready.{Ready}

-- the record's test tells what a sound record is
pub sound_told : (c : Chain) → sound c ≡ true → (sound c ≡ true) × Sound c
sound_told c e = (e, passes_sound c (ap not e))

-- the part of the work slice that is lent is as long as it is to be
pub ready_part : (c : Chain) (store work : List Float) (room : ℕ) → Sound c → store_room c.num_qubits c.max_bond_dim ≤ length store → work_room c.max_bond_dim ≤ length work → room ≡ work_room c.max_bond_dim → Ready c store (take room work)
ready_part c store work room h l m e = record { sound = h; store_room_lem = l; work_room_lem = omega (arith, length-take-le room work (omega arith)) }

-- and +0 where it was lent, whatever a run left there
pub cleared_front : (c : Chain) (work used : List Float) (room : ℕ) → work_room c.max_bond_dim ≤ length work → room ≡ work_room c.max_bond_dim → length used ≡ length (take room work) → replicate room zero_f ++ drop room (used ++ drop room work) ≡ cleared c work
unfolding cleared
cleared_front c work used room l e n =
    let whole : length used ≡ room = n ∙ length-take-le room work (omega arith) in
    rw (drop_at used (drop room work) room whole, e)

-- ---- an environment is within the cap, and goes from the part to the result slice

module _ (s : State) (h : Sound s.chain) where
  pub left_few : (from site : ℕ) → from < s.chain.num_qubits → site ≤ s.chain.num_qubits → ((left_env from site s).dim ≤ s.chain.max_bond_dim) × ((left_env from site s).dim * (left_env from site s).dim ≤ s.chain.max_bond_dim * s.chain.max_bond_dim)
  left_few from site l m = let e = (left_env_squared s h from site l m).most in (e, mul-le-mul e e)

  pub right_few : (site to : ℕ) → to < s.chain.num_qubits → ((right_env site to s).dim ≤ s.chain.max_bond_dim) × ((right_env site to s).dim * (right_env site to s).dim ≤ s.chain.max_bond_dim * s.chain.max_bond_dim)
  right_few site to l = let e = (right_env_squared s h site to l).most in (e, mul-le-mul e e)

pub written : (n : ℕ) (used rest out entries : List Float) → n ≤ length used → take n used ≡ entries → take n (used ++ rest) ++ drop n out ≡ entries ++ drop (length entries) out
written n used rest out entries l e = rw (take-append-le n used rest l, ← e, length-take-le n used l)
