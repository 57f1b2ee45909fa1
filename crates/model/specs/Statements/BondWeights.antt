-- W6. What each bond between neighbours has discarded. Statements only; `Laws/BondShares` proves them.
use Rattle.std.specs.Prelude.{ℕ, ◌+◌, ◌≤◌, ◌<◌, ◌≡◌, T, Float}
use mathlib.Core.List.{List, foldl}
use Rattle.std.specs.Float.{binary64}
use Rattle.std.specs.Float.Ieee.{add}
use Rattle.complex.specs.Complex.{zero_f}
use Rattle.model.specs.declared.Chain.{Chain}
use Rattle.model.specs.Chain.{bond_discarded}
use Rattle.model.specs.Slots.{State, held}
use Rattle.model.specs.Sound.{sound}
use Rattle.model.specs.Calls.{start_call}
use Rattle.model.specs.Lists.{Call, state_of, final_state}
use Rattle.model.specs.Statements.Demand1Cuts.{call_shares, list_shares, of_bond, discarded_at}
use Rattle.model.specs.Statements.Demand3.{F64}

pub record BondWeights : Type 0 where
  -- a start sets each to +0, accepted or not
  pub start : (n d : ℕ) (epsilon clamp : Float) (exponent : ℕ) (store : List Float) (k : ℕ) → k < 63
      → bond_discarded (start_call n d epsilon clamp exponent store).chain k ≡ zero_f
  -- a call, refused or not, adds the shares of its stored cuts at that bond, the swaps' included, in the order of the cuts, to what was there before, and changes no bond otherwise
  pub call : (k : ℕ) (c : Call) (s : State) → discarded_at k (state_of c s) ≡ foldl (add binary64) (discarded_at k s) (of_bond k (call_shares c s))
  pub list : (k : ℕ) (cs : List Call) (s : State) → discarded_at k (final_state cs s) ≡ foldl (add binary64) (discarded_at k s) (of_bond k (list_shares cs s))
  -- so after a list of calls from a start on it is the sum of that bond's shares, from +0 on
  pub since_start : (n d : ℕ) (epsilon clamp : Float) (exponent : ℕ) (store : List Float) (k : ℕ) → k < 63
      → (let st = start_call n d epsilon clamp exponent store in
      let s = held st.chain st.store in
      (cs : List Call) → discarded_at k (final_state cs s) ≡ foldl (add binary64) zero_f (of_bond k (list_shares cs s)))
  -- in a sound record whose entries are values of binary64 it is +0, and nothing else, past the last bond
  pub past : (c : Chain) → T (sound c) → (k : ℕ) → c.num_qubits ≤ k + 1 → k < 63 → F64 (bond_discarded c k) → bond_discarded c k ≡ zero_f
