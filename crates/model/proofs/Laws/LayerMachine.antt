-- The machine's tests of a layer are the chain's: the lengths by the number of bytes; and a qubit named by two pairs by counting, for each qubit, the pairs that name it.
-- By the same count a layer that is not refused has at most 32 pairs.
use Prim.Native.Nat.{ℕ, zero, suc, ◌+◌, ◌*◌, ◌/◌, ◌%◌, ◌≤◌, ◌<◌}
use native.Mathlib.Omega.{arith}
use Rattle.std.proofs.Common.{eq-or-lt_of_le, le_of_suc-le-suc, sym, ap, subst, ◌∙◌, ltb→lt, eq-eqb, ne_eqb, le-ltb, lt-ltb}
use Rattle.std.proofs.Math.Decide.{ℕ_discrete}
use Rattle.std.specs.Prelude.{◌≡◌, refl, ◌⊎◌, ◌≢◌, Bool, not, ◌||◌, cond, List, [], eqb, ltb, length, Float}
use Rattle.std.proofs.Math.Logic.{inl, inr, ⊎_elim}
use Rattle.std.proofs.Math.Bool.{true, false}
use Rattle.std.proofs.lemmas.Bool.{not-false}
use Rattle.complex.specs.Loops.{each, every, every_at}
use Rattle.model.specs.Layers.{pair_count, first, second}
use Rattle.model.specs.Calls.{lengths_agree, pairs_apart}
use Rattle.model.specs.Machine.{unpaired, namings, named_twice}
use Rattle.model.specs.Statements.Table.{Unpaired, Names, NamedTwice}
use Rattle.model.specs.Statements.Layers.{AtMost32}
use Rattle.model.proofs.Laws.LayerRuns.{fits_at_lem, layer_accepted}
use Rattle.model.proofs.Laws.LayerCalls.{decides_lengths, decides_twice, layer_ran_lem}
use Rattle.model.proofs.Laws.Tests.{Decides, decides_as, decides_below, decides_either, decides_equal, decides_not, decides_some, decides_alike, trichotomy}

-- ---- the lengths

pub unpaired_alike : (pairs : List ℕ) (gates : List Float) → not (lengths_agree (length pairs) (length gates)) ≡ unpaired pairs gates
unpaired_alike pairs gates = decides_alike (decides_lengths pairs gates) (decides_as (decides_either (decides_equal (length pairs % 2) 1) (decides_not (decides_equal (length gates) (16 * length pairs)))) to back)
  where
    to : (length pairs % 2 ≡ 1) ⊎ (length gates ≡ 16 * length pairs → ⊥) → Unpaired pairs gates
    to (inl e) x = omega (arith, x.1)
    to (inr f) x = f (omega (arith, x.1, x.2))

    back : Unpaired pairs gates → (length pairs % 2 ≡ 1) ⊎ (length gates ≡ 16 * length pairs → ⊥)
    back f = go (ℕ_discrete (length pairs % 2) 1)
      where
        go : Dec (length pairs % 2 ≡ 1) → (length pairs % 2 ≡ 1) ⊎ (length gates ≡ 16 * length pairs → ⊥)
        go (yes e) = inl e
        go (no n) = inr (λ e. f (length pairs / 2, omega arith, omega arith))

-- ---- how many of the first k pairs name the qubit q

module _ (pairs : List ℕ) (q : ℕ) where
  abbrev named : ℕ → Bool
  named p = eqb q (first pairs p) || eqb q (second pairs p)

  decides_named : (p : ℕ) → Decides (named p) (Names pairs p q)
  decides_named p = decides_either (decides_equal q (first pairs p)) (decides_equal q (second pairs p))

  counted : ℕ → ℕ
  counted k = each k (λ p m. cond (named p) (m + 1) m) 0

  -- one pair more
  more : (k : ℕ) → (Names pairs k q × (counted (suc k) ≡ counted k + 1)) ⊎ ((Names pairs k q → ⊥) × (counted (suc k) ≡ counted k))
  unfolding counted each
  more k = go (named k) (decides_named k)
    where
      go : (b : Bool) → Decides b (Names pairs k q) → (Names pairs k q × (cond b (counted k + 1) (counted k) ≡ counted k + 1)) ⊎ ((Names pairs k q → ⊥) × (cond b (counted k + 1) (counted k) ≡ counted k))
      go true d = inl (d.holds tt, refl)
      go false d = inr (d.fails, refl)

  one_named : (k : ℕ) → 1 ≤ counted k → (r : ℕ) × (r < k) × Names pairs r q
  unfolding counted each
  one_named zero l = absurd (omega arith)
  one_named (suc k) l =
      ⊎_elim (λ x. (k, omega arith, x.0)) (λ x. let y = one_named k (omega (arith, x.1)) in (y.0, omega (arith, y.1), y.2)) (more k)

  named_one : (k r : ℕ) → r < k → Names pairs r q → 1 ≤ counted k
  unfolding counted each
  named_one zero r l n = absurd (omega arith)
  named_one (suc k) r l n =
      ⊎_elim (λ x. omega (arith, x.1))
      (λ x. ⊎_elim (λ (e : r ≡ k). absurd (x.0 (subst (λ (p : ℕ). Names pairs p q) e n))) (λ (m : r < k). omega (arith, x.1, named_one k r m n)) (eq-or-lt_of_le (le_of_suc-le-suc l))) (more k)

  two_named : (k : ℕ) → 2 ≤ counted k → (p : ℕ) × (p < k) × ((r : ℕ) × (r < p) × Names pairs r q × Names pairs p q)
  unfolding counted each
  two_named zero l = absurd (omega arith)
  two_named (suc k) l =
      ⊎_elim (λ x. let y = one_named k (omega (arith, x.1)) in (k, omega arith, (y.0, y.1, y.2, x.0))) (λ x. let y = two_named k (omega (arith, x.1)) in (y.0, omega (arith, y.1), y.2)) (more k)

  named_two : (k p r : ℕ) → p < k → r < p → Names pairs r q → Names pairs p q → 2 ≤ counted k
  unfolding counted each
  named_two zero p r l m a b = absurd (omega arith)
  named_two (suc k) p r l m a b =
      ⊎_elim (λ (e : p ≡ k). at_last e) (λ (i : p < k). let y = named_two k p r i m a b in ⊎_elim (λ x. omega (arith, x.1)) (λ x. omega (arith, x.1)) (more k)) (eq-or-lt_of_le (le_of_suc-le-suc l))
    where
      at_last : p ≡ k → 2 ≤ counted (suc k)
      at_last e = ⊎_elim (λ x. omega (arith, x.1, named_one k r (omega arith) a)) (λ x. absurd (x.0 (subst (λ (j : ℕ). Names pairs j q) e b))) (more k)

-- ---- a qubit that two pairs name, all pairs being of n qubits

pub twice_alike : (n : ℕ) (pairs : List ℕ) → ((p : ℕ) → p < pair_count pairs → (first pairs p < n) × (second pairs p < n))
    → not (pairs_apart pairs) ≡ named_twice n pairs
unfolding counted
twice_alike n pairs below = decides_alike (decides_twice pairs []) (decides_as (decides_some n _ (λ q. 2 ≤ namings pairs q) (λ q. at_least (namings pairs q))) to back)
  where
    at_least : (k : ℕ) → Decides (not (ltb k 2)) (2 ≤ k)
    at_least k = decides_as (decides_not (decides_below k 2)) (λ f. reach f) (λ l m. omega arith)
      where
        reach : (k < 2 → ⊥) → 2 ≤ k
        reach f = omega arith

    to : (q : ℕ) × (q < n) × (2 ≤ namings pairs q) → NamedTwice pairs
    to x = let y = two_named pairs x.0 (pair_count pairs) x.2 in (y.0, y.1, (y.2.0, y.2.1, (x.0, y.2.2, y.2.3)))

    back : NamedTwice pairs → (q : ℕ) × (q < n) × (2 ≤ namings pairs q)
    back y =
        let r = y.2 in
        let named = r.2 in
        (named.0, ⊎_elim (λ (e : named.0 ≡ first pairs y.0). omega (arith, below y.0 y.1)) (λ (e : named.0 ≡ second pairs y.0). omega (arith, below y.0 y.1)) named.2, named_two pairs named.0 (pair_count pairs) y.0 r.0 y.1 r.1 named.1 named.2)

-- ---- at most 32 pairs

-- f 0 + .. + f (n - 1)
total : ℕ → (ℕ → ℕ) → ℕ
total zero f = 0
total (suc n) f = total n f + f n

total_none : (n : ℕ) → total n (λ q. 0) ≡ 0
unfolding total
total_none zero = refl
total_none (suc n) = omega (arith, total_none n)

total_most : (n : ℕ) (f : ℕ → ℕ) → ((q : ℕ) → q < n → f q ≤ 1) → total n f ≤ n
unfolding total
total_most zero f h = omega arith
total_most (suc n) f h = omega (arith, total_most n f (λ q l. h q (omega arith)), h n (omega arith))

-- 1 at a, and 0 elsewhere
abbrev at : ℕ → ℕ → ℕ
at a q = cond (eqb q a) 1 0

total_at_lem : (n a : ℕ) → total n (at a) ≡ cond (ltb a n) 1 0
unfolding total
total_at_lem zero a = rw (le-ltb a 0 (omega arith))
total_at_lem (suc n) a = rw (total_at_lem n a) (go (trichotomy a n))
  where
    go : (a < n) ⊎ ((a ≡ n) ⊎ (n < a)) → cond (ltb a n) 1 0 + at a n ≡ cond (ltb a (suc n)) 1 0
    go (inl l) = rw (lt-ltb a n l, ne_eqb n a (λ e. omega arith), lt-ltb a (suc n) (omega arith))
    go (inr (inl e)) = rw (le-ltb a n (omega arith), eq-eqb n a (sym e), lt-ltb a (suc n) (omega arith))
    go (inr (inr l)) = rw (le-ltb a n (omega arith), ne_eqb n a (λ e. omega arith), le-ltb a (suc n) (omega arith))

total_sum : (n : ℕ) (f g h : ℕ → ℕ) → ((q : ℕ) → f q ≡ g q + h q) → total n f ≡ total n g + total n h
unfolding total
total_sum zero f g h e = refl
total_sum (suc n) f g h e = omega (arith, total_sum n f g h e, e n)

-- of n qubits, k pairs name 2 k
total_named : (n : ℕ) (pairs : List ℕ) (k : ℕ) → ((p : ℕ) → p < k → (first pairs p < n) × (second pairs p < n) × (first pairs p ≢ second pairs p)) → total n (λ q. counted pairs q k) ≡ 2 * k
unfolding counted each
total_named n pairs zero h = total_none n
total_named n pairs (suc k) h =
    let a = first pairs k in
    let b = second pairs k in
    let x = h k (omega arith) in
    let two : total n (λ q. at a q + at b q) ≡ total n (at a) + total n (at b) = total_sum n (λ q. at a q + at b q) (at a) (at b) (λ q. refl) in
    let more : total n (λ q. counted pairs q (suc k)) ≡ total n (λ q. counted pairs q k) + total n (λ q. at a q + at b q) = total_sum n (λ q. counted pairs q (suc k)) (λ q. counted pairs q k) (λ q. at a q + at b q) (λ q. one x.2 q) in
    omega (arith, more, two, rw (lt-ltb a n x.0) at (total_at_lem n a), rw (lt-ltb b n x.1) at (total_at_lem n b), total_named n pairs k (λ p l. h p (omega arith)))
  where
    one : first pairs k ≢ second pairs k → (q : ℕ) → counted pairs q (suc k) ≡ counted pairs q k + (at (first pairs k) q + at (second pairs k) q)
    one apart q = go (ℕ_discrete q (first pairs k)) (ℕ_discrete q (second pairs k))
      where
        go : Dec (q ≡ first pairs k) → Dec (q ≡ second pairs k) → counted pairs q (suc k) ≡ counted pairs q k + (at (first pairs k) q + at (second pairs k) q)
        go (yes e) (yes f) = absurd (apart (sym e ∙ f))
        go (yes e) (no f) = rw (eq-eqb q (first pairs k) e, ne_eqb q (second pairs k) f)
        go (no e) (yes f) = rw (ne_eqb q (first pairs k) e, eq-eqb q (second pairs k) f)
        go (no e) (no f) = rw (ne_eqb q (first pairs k) e, ne_eqb q (second pairs k) f) (omega arith)

pub at_most_32 : AtMost32
unfolding AtMost32 counted
at_most_32 s work pairs gates l =
    let a = layer_accepted s work pairs gates (layer_ran_lem s work pairs gates l) in
    let n = s.chain.num_qubits in
    let two : (p : ℕ) → p < pair_count pairs → (first pairs p < n) × (second pairs p < n) × (first pairs p ≢ second pairs p) = λ p. fits_at_lem n pairs p a.fit in
    let none : named_twice n pairs ≡ false = sym (twice_alike n pairs (λ p m. let x = two p m in (x.0, x.1))) ∙ ap not a.apart in
    let once : (q : ℕ) → q < n → namings pairs q ≤ 1 = λ q m. omega (arith, ltb→lt (namings pairs q) 2 (every_at n (λ q. ltb (namings pairs q) 2) q m (rw (not-false (every n (λ q. ltb (namings pairs q) 2)) none) tt))) in
    omega (arith, total_named n pairs (pair_count pairs) two, total_most n (λ q. namings pairs q) once, a.sound.settings.qubits.1)
