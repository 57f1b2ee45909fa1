-- What each bond between neighbours has discarded is the shares of the cuts stored at it, added from the left in their order, from +0 on: the proof of `Statements/BondWeights`.
use Rattle.std.specs.Prelude.{ℕ, ◌<◌, ◌≡◌, refl, ◌≢◌, Bool, true, false, not, cond, List, [], ◌∷◌, ◌++◌, map, ltb, eqb, length, get_or, Float}
use Rattle.std.proofs.Common.{sym, ap, ◌∙◌, eq-eqb, ne_eqb, get_or-set_same, get_or-set_other}
use Rattle.std.proofs.Math.Decide.{ℕ_discrete}
use Rattle.std.proofs.lemmas.List.{get_or-replicate}
use Rattle.std.specs.Float.{nan, binary64}
use Rattle.std.specs.Float.Ieee.{of_bits}
use Rattle.std.specs.Float.Ieee.Bits.{of_bits-to_bits}
use Rattle.complex.specs.Complex.{zero_f}
use Rattle.model.specs.declared.Chain.{Chain}
use Rattle.model.specs.Chain.{bond_discarded}
use Rattle.model.specs.Slots.{held, store_room}
use Rattle.model.specs.Truncation.{recorded}
use Rattle.model.specs.Cut.{cut_recorded}
use Rattle.model.specs.Sound.{settings_fit}
use Rattle.model.specs.Start.{fresh_chain, zero_chain}
use Rattle.model.specs.Calls.{Started, start_call}
use Rattle.model.specs.Statements.Demand1Cuts.{Dropped, dropped_at, list_shares, of_bond}
use Rattle.model.specs.Statements.BondWeights.{BondWeights}
use Rattle.model.proofs.Laws.SoundFacts.{sound_facts}
use Rattle.model.proofs.Laws.CutShares.{added, recorded_added, Tally, counted, call_tallied, list_tallied}
use Rattle.model.proofs.Laws.Tests.{either_way}

-- ---- the shares of one bond

module _ (k : ℕ) where
  pub chosen_append : (xs ys : List Dropped) → of_bond k (xs ++ ys) ≡ of_bond k xs ++ of_bond k ys
  chosen_append [] ys = refl
  chosen_append (x ∷ xs) ys = pick (eqb x.bond k) (chosen_append xs ys)
    where
      pick : (b : Bool) → of_bond k (xs ++ ys) ≡ of_bond k xs ++ of_bond k ys
          → cond b (x.share ∷ of_bond k (xs ++ ys)) (of_bond k (xs ++ ys)) ≡ cond b (x.share ∷ of_bond k xs) (of_bond k xs) ++ of_bond k ys
      pick true e = ap (λ (r : List Float). x.share ∷ r) e
      pick false e = e

  -- a cut's shares are all of its own bond, and none of another
  chosen_own : (shares : List Float) → of_bond k (map (dropped_at k) shares) ≡ shares
  chosen_own [] = refl
  chosen_own (x ∷ xs) = rw (eq-eqb k k refl) (ap (λ (r : List Float). x ∷ r) (chosen_own xs))

  chosen_elsewhere : (j : ℕ) → j ≢ k → (shares : List Float) → of_bond k (map (dropped_at j) shares) ≡ []
  chosen_elsewhere j e [] = refl
  chosen_elsewhere j e (x ∷ xs) = rw (ne_eqb j k e) (chosen_elsewhere j e xs)

-- a cut at the bond j adds its shares to the figure of j, and leaves every other
pub cut_adds : (k j chi : ℕ) (shares : List Float) (c : Chain) → j < length c.bond_discarded → bond_discarded (cut_recorded j chi shares c) k ≡ added (bond_discarded c k) (of_bond k (map (dropped_at j) shares))
cut_adds k j chi shares c room = choose (ℕ_discrete k j)
  where
    choose : Dec (k ≡ j) → bond_discarded (cut_recorded j chi shares c) k ≡ added (bond_discarded c k) (of_bond k (map (dropped_at j) shares))
    choose (yes e) =
        rw e (get_or-set_same c.bond_discarded j (recorded (bond_discarded c j) shares) nan room ∙ recorded_added (bond_discarded c j) shares
        ∙ ap (added (bond_discarded c j)) (sym (chosen_own j shares)))
    choose (no e) = get_or-set_other c.bond_discarded j k (recorded (bond_discarded c j) shares) nan e ∙ ap (added (bond_discarded c k)) (sym (chosen_elsewhere k j (λ q. e (sym q)) shares))

abbrev pub of_bond_lem : ℕ → Tally
of_bond_lem k = record { figure = λ t. get_or t.by_bond k nan; chosen = of_bond k; none = refl; joined = chosen_append k; of_cut = cut_adds k }

-- ---- the promises

start_zero : (n d : ℕ) (epsilon clamp : Float) (exponent : ℕ) (store : List Float) (k : ℕ) → k < 63 → bond_discarded (start_call n d epsilon clamp exponent store).chain k ≡ zero_f
unfolding start_call fresh_chain zero_chain
start_zero n d epsilon clamp exponent store k l =
    let zero = get_or-replicate 63 k zero_f nan l in
    let P : Started → Type 0 = λ a. bond_discarded a.chain k ≡ zero_f in
    either_way P (not (settings_fit n d epsilon clamp exponent)) _ _ zero (either_way P (ltb (length store) (store_room n d)) _ _ zero zero)

pub bond_weights : BondWeights
bond_weights = record {
  start = start_zero;
  call = λ k. call_tallied (of_bond_lem k);
  list = λ k. list_tallied (of_bond_lem k);
  since_start = λ n d epsilon clamp exponent store k l.
      let st = start_call n d epsilon clamp exponent store in
      let s = held st.chain st.store in
      λ cs. list_tallied (of_bond_lem k) cs s ∙ ap (λ (w : Float). counted (of_bond_lem k) w (list_shares cs s)) (start_zero n d epsilon clamp exponent store k l);
  past = λ c h k l m f. sym (of_bits-to_bits binary64 (bond_discarded c k) f) ∙ ap (of_bits binary64) ((sound_facts c h).past_last_bond k l m);
}
