-- One turn of each walk, and none; a move, from what each of its parts leaves.
use Prim.Native.Nat.{ℕ, suc, ◌+◌, ◌-◌, ◌*◌, ◌≤◌, ◌<◌}
use Rattle.std.specs.Prelude.{◌≡◌, ◌⊎◌, refl, Option, None, Some}
use Rattle.std.proofs.Common.{sym, ap, ◌∙◌, ⊎_elim}
use native.Mathlib.Omega.{arith}
use borrow.Author.Tests.{le-leb, lt-leb}
use Rattle.model.specs.declared.WeightSide.TheVariants.{Left, Right}
use Rattle.model.specs.Slots.{State}
use Rattle.model.specs.Moves.{step_right, step_left, walk_right, walk_left, centered, moved, established, centered_on, prepared, prepared_on}
use Rattle.model.proofs.Laws.MoveLaws.{moved_still}

module _ (to at : ℕ) (s : State) where
  pub right_turn : at < to → walk_right (to - at) at s ≡ walk_right (to - (at + 1)) (at + 1) (step_right at s)
  unfolding walk_right
  right_turn l = let e : to - at ≡ suc (to - (at + 1)) = omega arith in rw e

  pub right_done : to ≤ at → walk_right (to - at) at s ≡ s
  unfolding walk_right
  right_done l = let e : to - at ≡ 0 = omega arith in rw e

  pub left_turn : to < at → walk_left (at - to) at s ≡ walk_left (at - 1 - to) (at - 1) (step_left (at - 1) s)
  unfolding walk_left
  left_turn l = let e : at - to ≡ suc (at - 1 - to) = omega arith in rw e

  pub left_done : at ≤ to → walk_left (at - to) at s ≡ s
  unfolding walk_left
  left_done l = let e : at - to ≡ 0 = omega arith in rw e

-- ---- moves

pub moved_walks : (from to : ℕ) (s : State) → centered to (walk_left (from - to) from (walk_right (to - from) from s)) ≡ moved from to s
unfolding moved
moved_walks from to s = refl

-- from the end `far`, away from `to`, to the other end, and from there to `to`
module _ (to last far : ℕ) (s : State) (n : last ≡ s.chain.num_qubits - 1) where
  pub established_down : 2 * to ≤ last → far ≡ last → moved (last - far) to (moved far (last - far) s) ≡ established to s
  unfolding established
  established_down l e = let z : last - last ≡ 0 = omega arith in rw (← n, le-leb (2 * to) last l, e, z)

  pub established_up : last < 2 * to → far ≡ 0 → moved (last - far) to (moved far (last - far) s) ≡ established to s
  unfolding established
  established_up l e = let z : last - 0 ≡ last = omega arith in rw (← n, lt-leb (2 * to) last l, e, z)

-- the end that a centre comes to from where it may be, and the other end, are sites
module _ {A B : Type 0} (n far : ℕ) (l : 0 < n) (came : (A × (far ≡ n - 1)) ⊎ (B × (far ≡ 0))) where
  pub end_below : far ≤ n - 1
  end_below = ⊎_elim (λ w. omega (arith, w.1)) (λ w. omega (arith, w.1)) came

  pub ends_within : (far < n) × (n - 1 - far < n)
  ends_within = let h = end_below in (omega arith, omega arith)

-- where no centre is recorded, and where one is
module _ (k : ℕ) (center : Option ℕ) where
  pub prepared_unknown : center ≡ None → (s : State) → prepared Right (centered_on k center s) ≡ prepared_on k center s
  prepared_unknown e s = rw e

  module _ (from : ℕ) (e : center ≡ Some from) where
    pub on_own : (s : State) → s.chain.center ≡ center → from ≡ k → s ≡ centered_on k center s
    on_own s own o = rw (e, o) (sym (moved_still k s (own ∙ e ∙ ap Some o)))

    pub prepared_right : from ≤ k → (s : State) → prepared Right (centered_on k center s) ≡ prepared_on k center s
    prepared_right l s = rw (e, le-leb from k l)

    pub prepared_left : k < from → (s : State) → prepared Left (centered_on (k + 1) center s) ≡ prepared_on k center s
    prepared_left l s = rw (e, lt-leb from k l)
