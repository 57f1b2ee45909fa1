-- The two label maps are inverse to each other, and stay so where the qubits at two neighbouring sites are exchanged.
use Rattle.std.specs.Prelude.{ℕ, ◌+◌, ◌≤◌, ◌<◌, ◌≡◌, refl, ◌≢◌, cond, eqb, length, get_or, set}
use Rattle.std.proofs.Common.{sym, ap, ◌∙◌, subst, arith, eq-eqb, ne_eqb, length-set, get_or-set_same, get_or-set_other}
use Rattle.std.proofs.Math.Decide.{ℕ_discrete}
use Rattle.model.specs.declared.Chain.{Chain}
use Rattle.model.specs.Chain.{Labels, labels_of}
use Rattle.model.specs.Statements.Demand1Cuts.{exchanged}
use Rattle.model.specs.Statements.Soundness.{Undone, Sound}

-- ---- k and k + 1 exchanged

abbrev pub turn : ℕ → ℕ → ℕ
turn k j = cond (eqb j k) (k + 1) (cond (eqb j (k + 1)) k j)

pub turn_first : (k : ℕ) → turn k k ≡ k + 1
turn_first k = rw (eq-eqb k k refl)

pub turn_second : (k : ℕ) → turn k (k + 1) ≡ k
turn_second k = rw (ne_eqb (k + 1) k (λ e. omega arith), eq-eqb (k + 1) (k + 1) refl)

pub turn_else : (k j : ℕ) → j ≢ k → j ≢ k + 1 → turn k j ≡ j
turn_else k j m n = rw (ne_eqb j k m, ne_eqb j (k + 1) n)

-- a number is k, or k + 1, or neither
pub three : (k j : ℕ) (P : ℕ → Type 0) → P k → P (k + 1) → (j ≢ k → j ≢ k + 1 → P j) → P j
three k j P x y z = go (ℕ_discrete j k) (ℕ_discrete j (k + 1))
  where
    go : Dec (j ≡ k) → Dec (j ≡ k + 1) → P j
    go (yes e) d = subst P (sym e) x
    go (no m) (yes e) = subst P (sym e) y
    go (no m) (no n) = z m n

pub turn_turn : (k j : ℕ) → turn k (turn k j) ≡ j
turn_turn k j =
    three k j (λ i. turn k (turn k i) ≡ i) (ap (turn k) (turn_first k) ∙ turn_second k) (ap (turn k) (turn_second k) ∙ turn_first k)
    (λ m n. ap (turn k) (turn_else k j m n) ∙ turn_else k j m n)

pub turn_below : (k n j : ℕ) → k + 1 < n → j < n → turn k j < n
turn_below k n j h =
    three k j (λ i. i < n → turn k i < n) (λ l. rw (turn_first k) h) (λ l. rw (turn_second k) (omega arith)) (λ m o l. rw (turn_else k j m o) l)

-- ---- the maps of a chain of n sites

pub record Maps (n : ℕ) (l : Labels) : Type 0 where
  pub sites_long : n ≤ length l.sites
  pub qubits_long : n ≤ length l.qubits
  pub sites : Undone n l.sites l.qubits
  pub qubits : Undone n l.qubits l.sites

pub sound_maps : (c : Chain) → Sound c → Maps c.num_qubits (labels_of c)
sound_maps c h = record { sites_long = omega arith; qubits_long = omega arith; sites = h.sites; qubits = h.qubits }

-- two qubits stand at two sites
pub sites_apart : {n : ℕ} {l : Labels} → Maps n l → (q0 q1 : ℕ) → q0 < n → q1 < n → q0 ≢ q1 → get_or l.sites q0 0 ≢ get_or l.sites q1 0
sites_apart {l = l} u q0 q1 a b two e = two (sym (u.sites.undone q0 a) ∙ ap (λ (x : ℕ). get_or l.qubits x 0) e ∙ u.sites.undone q1 b)

-- ---- the qubits at sites k and k + 1 exchanged

module _ (n : ℕ) (l : Labels) (u : Maps n l) (k : ℕ) (h : k + 1 < n) where
  abbrev a : ℕ
  a = get_or l.qubits k 0

  abbrev b : ℕ
  b = get_or l.qubits (k + 1) 0

  low : k < n
  low = omega arith

  a_low : a < n
  a_low = u.qubits.below k low

  b_low : b < n
  b_low = u.qubits.below (k + 1) h

  -- the qubit at site j is the one at j exchanged
  pub exchanged_qubit : (j : ℕ) → get_or (exchanged k l).qubits j 0 ≡ get_or l.qubits (turn k j) 0
  exchanged_qubit j =
      let long : n ≤ length l.qubits = u.qubits_long in
      three k j (λ i. get_or (exchanged k l).qubits i 0 ≡ get_or l.qubits (turn k i) 0)
      (rw (turn_first k) (get_or-set_other (set l.qubits k b) (k + 1) k a 0 (λ e. omega arith) ∙ get_or-set_same l.qubits k b 0 (omega arith)))
      (rw (turn_second k) (get_or-set_same (set l.qubits k b) (k + 1) a 0 (rw length-set (omega arith))))
      (λ m o. rw (turn_else k j m o) (get_or-set_other (set l.qubits k b) (k + 1) j a 0 o ∙ get_or-set_other l.qubits k j b 0 m))

  -- the site of qubit q is its site exchanged, and an entry past the chain is as it was
  pub exchanged_site : (q : ℕ) → q < n → get_or (exchanged k l).sites q 0 ≡ turn k (get_or l.sites q 0)
  exchanged_site q i = go (ℕ_discrete q b) (ℕ_discrete q a)
    where
      long : n ≤ length l.sites
      long = u.sites_long

      back : (j : ℕ) → get_or l.sites q 0 ≡ j → q ≡ get_or l.qubits j 0
      back j e = sym (u.sites.undone q i) ∙ ap (λ (x : ℕ). get_or l.qubits x 0) e

      go : Dec (q ≡ b) → Dec (q ≡ a) → get_or (exchanged k l).sites q 0 ≡ turn k (get_or l.sites q 0)
      go (yes e) d = rw (e, u.qubits.undone (k + 1) h, turn_second k) (get_or-set_same (set l.sites a (k + 1)) b k 0 (rw length-set (omega (arith, b_low, long))))
      go (no f) (yes e) =
          get_or-set_other (set l.sites a (k + 1)) b q k 0 f
          ∙ rw (e, u.qubits.undone k low, turn_first k) (get_or-set_same l.sites a (k + 1) 0 (omega (arith, a_low, long)))
      go (no f) (no g) =
          get_or-set_other (set l.sites a (k + 1)) b q k 0 f ∙ get_or-set_other l.sites a q (k + 1) 0 g
          ∙ sym (turn_else k (get_or l.sites q 0) (λ e. g (back k e)) (λ e. f (back (k + 1) e)))

  pub exchanged_past : (q : ℕ) → n ≤ q → get_or (exchanged k l).sites q 0 ≡ get_or l.sites q 0
  exchanged_past q i =
      get_or-set_other (set l.sites a (k + 1)) b q k 0 (λ e. omega (arith, b_low)) ∙ get_or-set_other l.sites a q (k + 1) 0 (λ e. omega (arith, a_low))

  -- the maps are still inverse to each other
  pub exchanged_maps : Maps n (exchanged k l)
  exchanged_maps = record {
    sites_long = rw (length-set, length-set) u.sites_long;
    qubits_long = rw (length-set, length-set) u.qubits_long;
    sites = record {
      below = λ q i. rw (exchanged_site q i) (turn_below k n _ h (u.sites.below q i));
      undone = λ q i. rw (exchanged_site q i) (exchanged_qubit (turn k (get_or l.sites q 0)) ∙ rw (turn_turn k (get_or l.sites q 0)) (u.sites.undone q i));
      past = λ q i. exchanged_past q i ∙ u.sites.past q i;
    };
    qubits = record {
      below = λ j i. rw (exchanged_qubit j) (u.qubits.below (turn k j) (turn_below k n j h i));
      undone = λ j i.
          let there : turn k j < n = turn_below k n j h i in
          rw (exchanged_qubit j) (exchanged_site (get_or l.qubits (turn k j) 0) (u.qubits.below (turn k j) there) ∙ rw (u.qubits.undone (turn k j) there) (turn_turn k j));
      past = λ j i. exchanged_qubit j ∙ rw (turn_else k j (λ e. omega arith) (λ e. omega arith)) (u.qubits.past j i);
    };
  }
