-- The environment after each step of a walk.
use Rattle.std.specs.Prelude.{ℕ, ◌+◌, ◌-◌, ◌*◌, ◌≤◌, ◌<◌, ◌≡◌, List, length, take, Float}
use Rattle.std.proofs.Common.{sym, ap, ◌∙◌, arith}
use Rattle.complex.specs.Loops.{each, each_none, each_more, between, between_none, between_more}
use Rattle.model.specs.declared.Chain.{Chain}
use Rattle.model.specs.Chain.{bond_left, bond_right}
use Rattle.model.specs.Slots.{held, site_at}
use Rattle.model.specs.Environment.{Env, identity_env, left_across, right_across, left_step, right_step, left_env, right_env}
use Rattle.model.specs.Statements.Soundness.{Sound}
use Rattle.walks.specs.Products.{env_of}
use Rattle.walks.specs.Steps.{left_env_lem, right_env_lem}

-- ---- the walks, step by step. What holds before a step, `LeftAt` and `RightAt`, stays closed in the proofs of the loops, which the laws below carry it through

-- the environment at the front of the work slice
abbrev pub front_env : ℕ → List Float → Env
front_env dim work = env_of dim (take (2 * (dim * dim)) work)

-- the identity there
front_identity : (dim bond : ℕ) (work : List Float) → dim ≡ bond → take (2 * (dim * dim)) work ≡ (identity_env dim).entries → front_env dim work ≡ identity_env bond
front_identity dim bond work p q = (λ i. record { dim = dim; entries = q i }) ∙ ap identity_env p

module _ (c : Chain) (store : List Float) (site from : ℕ) where
  abbrev step : ℕ → Env → Env
  step = left_step (held c store)

  -- the sites from `from` to before k are contracted
  pub record LeftWalk (k dim : ℕ) (work : List Float) : Type 0 where
    pub past : from ≤ k
    pub within : k - from ≤ site - from
    pub bond : k < c.num_qubits → dim ≡ bond_left c k
    pub env : front_env dim work ≡ between from k step (identity_env (bond_left c from))

  unfoldable pub LeftAt : ℕ → ℕ → List Float → Type 0
  LeftAt k dim work = LeftWalk k dim work

  pub left_start : (dim : ℕ) (work : List Float) → dim ≡ bond_left c from → take (2 * (dim * dim)) work ≡ (identity_env dim).entries → LeftAt from dim work
  unfolding LeftAt
  left_start dim work p q = record { past = omega arith; within = omega arith; bond = λ _. p; env = rw between_none (front_identity dim (bond_left c from) work p q) }

  pub left_turn : (k dim br : ℕ) (work next : List Float) → Sound c → site ≤ c.num_qubits → LeftAt k dim work → k < site → br ≡ bond_right c k
      → take (2 * (br * br)) next ≡ (left_across (bond_left c k) br (site_at (held c store) k) (front_env (bond_left c k) work)).entries → LeftAt (k + 1) br next
  unfolding LeftAt
  left_turn k dim br work next s m h l q e =
      let here = site_at (held c store) k in
      let bl = bond_left c k in
      record {
        past = omega (arith, h.past);
        within = omega (arith, h.past);
        bond = λ b. q ∙ s.bonds.neighbours k b;
        env =
            left_env_lem bl br here (take (2 * (br * br)) next) (front_env bl work) e
            ∙ ap (λ (b : ℕ). left_across bl br here (front_env b work)) (sym (h.bond (omega arith)))
            ∙ ap (left_across bl br here) h.env
            ∙ ap (λ (b : ℕ). left_across bl b here (between from k step (identity_env (bond_left c from)))) q
            ∙ sym (between_more from k step (identity_env (bond_left c from)) h.past);
      }

  pub left_done : (k dim : ℕ) (work : List Float) → LeftAt k dim work → site ≤ k → front_env dim work ≡ left_env from site (held c store)
  unfolding left_env between LeftAt
  left_done k dim work h l = let e : k - from ≡ site - from = omega (arith, h.within) in rw e at h.env

module _ (c : Chain) (store : List Float) (site to : ℕ) where
  abbrev back : ℕ → Env → Env
  back n = right_step (held c store) (to - n)

  -- the sites from `to` back to k + 1 are contracted
  pub record RightWalk (k dim : ℕ) (work : List Float) : Type 0 where
    pub past : k ≤ to
    pub within : to - k ≤ to - site
    pub bond : dim ≡ bond_right c k
    pub env : front_env dim work ≡ each (to - k) back (identity_env (bond_right c to))

  unfoldable pub RightAt : ℕ → ℕ → List Float → Type 0
  RightAt k dim work = RightWalk k dim work

  pub right_start : (dim : ℕ) (work : List Float) → dim ≡ bond_right c to → take (2 * (dim * dim)) work ≡ (identity_env dim).entries → RightAt to dim work
  unfolding RightAt
  right_start dim work p q =
      let e : to - to ≡ 0 = omega arith in
      record { past = omega arith; within = omega arith; bond = p; env = rw (e, each_none) (front_identity dim (bond_right c to) work p q) }

  pub right_turn : (k dim bl : ℕ) (work next : List Float) → Sound c → to < c.num_qubits → RightAt k dim work → site < k → bl ≡ bond_left c k
      → take (2 * (bl * bl)) next ≡ (right_across bl (bond_right c k) (site_at (held c store) k) (front_env (bond_right c k) work)).entries → RightAt (k - 1) bl next
  unfolding RightAt
  right_turn k dim bl work next s m h l q e =
      let here = site_at (held c store) k in
      let br = bond_right c k in
      let one : to - (k - 1) ≡ to - k + 1 = omega (arith, h.past) in
      let at : to - (to - k) ≡ k = omega (arith, h.past) in
      let p : k - 1 + 1 ≡ k = omega arith in
      record {
        past = omega (arith, h.past);
        within = omega (arith, h.past);
        bond = q ∙ sym (s.bonds.neighbours (k - 1) (omega (arith, h.past)) ∙ ap (bond_left c) p);
        env =
            right_env_lem bl br here (take (2 * (bl * bl)) next) (front_env br work) e
            ∙ ap (λ (b : ℕ). right_across bl br here (front_env b work)) (sym h.bond)
            ∙ ap (right_across bl br here) h.env
            ∙ ap (λ (b : ℕ). right_across b br here (each (to - k) back (identity_env (bond_right c to)))) q
            ∙ ap (λ (j : ℕ). right_step (held c store) j (each (to - k) back (identity_env (bond_right c to)))) (sym at)
            ∙ sym (each_more (to - k) back (identity_env (bond_right c to)))
            ∙ ap (λ (n : ℕ). each n back (identity_env (bond_right c to))) (sym one);
      }

  pub right_done : (k dim : ℕ) (work : List Float) → RightAt k dim work → k ≤ site → front_env dim work ≡ right_env site to (held c store)
  unfolding right_env RightAt
  right_done k dim work h l = let e : to - k ≡ to - site = omega (arith, h.within) in rw e at h.env
