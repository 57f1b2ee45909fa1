-- A chain that follows the bits-and-phase machine, by qubit: the label maps lead from qubits to sites, and the sites' phases multiply to the machine's.
-- Swaps of neighbours keep every qubit's bit and the phase; a gate on any two qubits, in either order, moves their bits and multiplies the phase.
use Rattle.std.specs.Prelude.{◌≡◌, refl, Bool, false, cond, ◌≢◌, ltb, get_or}
use Rattle.std.proofs.Common.{ap, sym, ◌∙◌, subst, arith, lt-ltb, le-ltb}
use mathlib.Core.List.{List, [], ◌∷◌, ◌++◌, map}
use Prim.Native.Nat.{ℕ, zero, suc, ◌+◌, ◌-◌, ◌≤◌, ◌<◌, min, max}
use Rattle.std.proofs.Math.Decide.{ℕ_discrete, dec_lt}
use Rattle.complex.specs.declared.Complex.{Complex}
use Rattle.gates.specs.Gate.{swap_gate_qubits}
use Rattle.gates.specs.Named.{matrix_of}
use Rattle.gates.specs.declared.NamedGate.TheVariants.{Swap}
use Rattle.model.specs.Chain.{Labels}
use Rattle.model.specs.Slots.{State, held}
use Rattle.model.specs.Cut.{Ran, ran, adjacent}
use Rattle.model.specs.Routing.{relabelled, down_to, route_of, Step, swap_step, gate_step, steps_of, follow, stepped, run_steps, gate_run}
use Rattle.model.specs.Phases.{Phase, ◌⊗◌, one}
use Rattle.model.specs.Machine as machine
use Rattle.model.specs.Machine.{Machine}
use Rattle.model.specs.Statements.Demand1Cuts.{exchanged}
use Rattle.model.proofs.Laws.Labels.{turn, turn_first, turn_second, turn_else, three, turn_turn, Maps, exchanged_site, exchanged_maps}
use Rattle.model.proofs.Laws.Units.{Moves, assoc, comm, one_right}
use Rattle.model.proofs.Laws.Tracked.{Setup, Fit, Tracked, update, update_at, update_else, update2, update2_first, update2_second, update2_else, adjacent_tracked}
use Rattle.model.proofs.Laws.UnitGates.{swap_moves, exchanged_moves, first_read, second_read, phase_read}
use Rattle.model.proofs.Laws.SoundKept.{relabelled_by}

-- ---- two places exchanged

-- a function with two values exchanged is the function after the exchange
exchanged_turn : {X : Type 0} (k : ℕ) (f : ℕ → X) (j : ℕ) → update2 k (f (k + 1)) (f k) f j ≡ f (turn k j)
exchanged_turn k f j =
    three k j (λ i. update2 k (f (k + 1)) (f k) f i ≡ f (turn k i))
    (update2_first k (f (k + 1)) (f k) f ∙ ap f (sym (turn_first k)))
    (update2_second k (f (k + 1)) (f k) f ∙ ap f (sym (turn_second k)))
    (λ m n. update2_else k (f (k + 1)) (f k) f j m n ∙ ap f (sym (turn_else k j m n)))

-- ---- the label maps

abbrev pub label : List ℕ → ℕ → ℕ
label A q = get_or A q 0

abbrev pub labels : List ℕ → List ℕ → Labels
labels A B = record { sites = A; qubits = B }

-- as `relabelled` has them
abbrev sites_turned : List ℕ → List ℕ → ℕ → List ℕ
sites_turned A B k = (exchanged k (labels A B)).sites

abbrev qubits_turned : List ℕ → List ℕ → ℕ → List ℕ
qubits_turned A B k = (exchanged k (labels A B)).qubits

-- ---- the phases multiplied from site 0 up

abbrev pub multiplied : ℕ → (ℕ → Phase) → Phase
multiplied zero p = one
multiplied (suc k) p = multiplied k p ⊗ p k

multiplied_same : (k : ℕ) (p q : ℕ → Phase) → ((j : ℕ) → j < k → q j ≡ p j) → multiplied k q ≡ multiplied k p
multiplied_same zero p q h = refl
multiplied_same (suc k) p q h = λ i. multiplied_same k p q (λ j J. h j (omega arith)) i ⊗ h k (omega arith) i

-- c (x y) in place of x, and 1 in place of y: the product, times c
shuffled : (m c x y : Phase) → (m ⊗ (c ⊗ (x ⊗ y))) ⊗ one ≡ ((m ⊗ x) ⊗ y) ⊗ c
shuffled m c x y =
    one_right (m ⊗ (c ⊗ (x ⊗ y)))
    ∙ ap (λ (z : Phase). m ⊗ z) (comm c (x ⊗ y))
    ∙ sym (assoc m (x ⊗ y) c)
    ∙ ap (λ (z : Phase). z ⊗ c) (sym (assoc m x y))

module _ (k : ℕ) (c : Phase) (p : ℕ → Phase) where
  abbrev cut_phases : ℕ → Phase
  cut_phases = update2 k (c ⊗ (p k ⊗ p (k + 1))) one p

  moved_base : multiplied (suc (suc k)) cut_phases ≡ multiplied (suc (suc k)) p ⊗ c
  moved_base =
      let e : suc k ≡ k + 1 = omega arith in
      (λ i. (multiplied_same k p cut_phases (λ j J. update2_else k (c ⊗ (p k ⊗ p (k + 1))) one p j (omega arith) (omega arith)) i ⊗ update2_first k (c ⊗ (p k ⊗ p (k + 1))) one p i)
      ⊗ cut_phases (e i))
      ∙ (λ i. (multiplied k p ⊗ (c ⊗ (p k ⊗ p (k + 1)))) ⊗ update2_second k (c ⊗ (p k ⊗ p (k + 1))) one p i)
      ∙ shuffled (multiplied k p) c (p k) (p (k + 1))
      ∙ (λ i. ((multiplied k p ⊗ p k) ⊗ p (sym e i)) ⊗ c)

  moved_step : (m : ℕ) → (k + 1 < m → multiplied m cut_phases ≡ multiplied m p ⊗ c) → Dec (m ≡ suc k) → k + 1 ≤ m → multiplied (suc m) cut_phases ≡ multiplied (suc m) p ⊗ c
  moved_step m r (yes e) h = subst (λ (x : ℕ). multiplied (suc x) cut_phases ≡ multiplied (suc x) p ⊗ c) (sym e) moved_base
  moved_step m r (no n) h =
      (λ i. r (omega arith) i ⊗ update2_else k (c ⊗ (p k ⊗ p (k + 1))) one p m (omega arith) (omega arith) i)
      ∙ assoc (multiplied m p) c (p m) ∙ ap (λ (z : Phase). multiplied m p ⊗ z) (comm c (p m)) ∙ sym (assoc (multiplied m p) (p m) c)

  -- a cut multiplies the product
  multiplied_moved : (n : ℕ) → k + 1 < n → multiplied n cut_phases ≡ multiplied n p ⊗ c
  multiplied_moved zero h = absurd (omega arith)
  multiplied_moved (suc m) h = moved_step m (multiplied_moved m) (ℕ_discrete m (suc k)) (omega arith)

-- ---- the chain follows the machine

pub record Following (S : Setup) (s : State) (M : Machine) : Type 0 where
  pub sites : List ℕ
  pub qubits : List ℕ
  pub bits : ℕ → Bool
  pub phases : ℕ → Phase
  pub tracked : Tracked S sites qubits s bits phases
  pub maps : Maps S.qubits (labels sites qubits)
  pub at_bits : (q : ℕ) → q < S.qubits → M.bits q ≡ bits (label sites q)
  pub at_phase : multiplied S.qubits phases ≡ M.phase

-- the machine after a gate that moves bits so
abbrev pub moved_by : (g : List (List Complex)) → Moves g → ℕ → ℕ → Machine → Machine
moved_by g G q0 q1 M = record {
  bits = update q1 (G.second (M.bits q0) (M.bits q1)) (update q0 (G.first (M.bits q0) (M.bits q1)) M.bits);
  phase = M.phase ⊗ G.by (M.bits q0) (M.bits q1);
}

-- the machine reads such a gate so
pub moved_is : (g : List (List Complex)) (G : Moves g) (q0 q1 : ℕ) (M : Machine) → machine.moved g q0 q1 M ≡ moved_by g G q0 q1 M
unfolding machine.moved
moved_is g G q0 q1 M =
    let a = M.bits q0 in
    let b = M.bits q1 in
    λ i. record {
      bits = update q1 (second_read g G a b i) (update q0 (first_read g G a b i) M.bits);
      phase = M.phase ⊗ phase_read g G a b i;
    }

-- ---- a route

relabelled_tracked : (S : Setup) (A B : List ℕ) (k : ℕ) (s : State) (b : ℕ → Bool) (p : ℕ → Phase) → Tracked S A B s b p
    → Tracked S (sites_turned A B k) (qubits_turned A B k) (held (relabelled k s.chain) s.store) b p
relabelled_tracked S A B k s b p t = record {
  same = t.same;
  lefts_one = t.lefts_one;
  rights_one = t.rights_one;
  holds = t.holds;
  centre = t.centre;
  high_one = t.high_one;
  none = t.none;
  sites_are = λ i. sites_turned (t.sites_are i) (t.qubits_are i) k;
  qubits_are = λ i. qubits_turned (t.sites_are i) (t.qubits_are i) k;
}

-- a step whose cut is accepted, and what follows it
accepted_step : (x : Step) (s t : State) → adjacent x.gate x.site s ≡ ran 0 t → (rest : List Step)
    → run_steps (x ∷ rest) s ≡ run_steps rest (relabelled_by x t)
unfolding run_steps stepped
accepted_step x s t e rest =
    ap (λ (r : Ran). follow (follow r (λ t. ran 0 (relabelled_by x t))) (run_steps rest)) e

-- where the swaps at the sites k + d, .., k + 1 lead from the site map A, bits b and phases p: the qubits at k and k + d + 1 stand at k and k + 1
pub record Routed (S : Setup) (A : List ℕ) (b : ℕ → Bool) (p : ℕ → Phase) (d k : ℕ) (s : State) : Type 0 where
  pub state : State
  pub is : (rest : List Step) → run_steps (map swap_step (down_to k d) ++ rest) s ≡ run_steps rest state
  pub sites : List ℕ
  pub qubits : List ℕ
  pub bits : ℕ → Bool
  pub phases : ℕ → Phase
  pub tracked : Tracked S sites qubits state bits phases
  pub maps : Maps S.qubits (labels sites qubits)
  pub kept : (q : ℕ) → q < S.qubits → bits (label sites q) ≡ b (label A q)
  pub near : (q : ℕ) → q < S.qubits → label A q ≡ k → label sites q ≡ k
  pub far : (q : ℕ) → q < S.qubits → label A q ≡ k + d + 1 → label sites q ≡ k + 1
  pub product : multiplied S.qubits phases ≡ multiplied S.qubits p

-- one swap more, at the site j = k + d + 1, which leaves u
swap_first : (S : Setup) (d k : ℕ) (A B : List ℕ) (s u : State) (b : ℕ → Bool) (p : ℕ → Phase) → k + suc d + 1 < S.qubits → Maps S.qubits (labels A B) → adjacent (matrix_of Swap) (k + suc d) s ≡ ran 0 u
    → Routed S (sites_turned A B (k + suc d)) (update2 (k + suc d) (b (k + suc d + 1)) (b (k + suc d)) b) (update2 (k + suc d) (one ⊗ (p (k + suc d) ⊗ p (k + suc d + 1))) one p) d k
    (held (relabelled (k + suc d) u.chain) u.store)
    → Routed S A b p (suc d) k s
swap_first S d k A B s u b p J M e r =
    let j = k + suc d in
    let site1 = exchanged_site S.qubits (labels A B) M j J in
    record {
      state = r.state;
      is = λ rest. accepted_step (swap_step (k + suc d)) s u e (map swap_step (down_to k d) ++ rest) ∙ r.is rest;
      sites = r.sites;
      qubits = r.qubits;
      bits = r.bits;
      phases = r.phases;
      tracked = r.tracked;
      maps = r.maps;
      kept = λ q Q. r.kept q Q ∙ ap (update2 j (b (j + 1)) (b j) b) (site1 q Q) ∙ exchanged_turn j b (turn j (label A q)) ∙ ap b (turn_turn j (label A q));
      near = λ q Q e. r.near q Q (site1 q Q ∙ ap (turn j) e ∙ turn_else j k (omega arith) (omega arith));
      far = λ q Q e. r.far q Q (site1 q Q ∙ ap (turn j) e ∙ turn_second j ∙ omega arith);
      product = r.product ∙ multiplied_moved j one p S.qubits J ∙ one_right (multiplied S.qubits p);
    }

module _ (S : Setup) (D : Fit S) where
  swaps_routed : (d k : ℕ) (A B : List ℕ) (s : State) (b : ℕ → Bool) (p : ℕ → Phase) → k + d + 1 < S.qubits → Tracked S A B s b p → Maps S.qubits (labels A B) → Routed S A b p d k s
  swaps_routed zero k A B s b p K t M = record {
    state = s;
    is = λ rest. refl;
    sites = A;
    qubits = B;
    bits = b;
    phases = p;
    tracked = t;
    maps = M;
    kept = λ q Q. refl;
    near = λ q Q e. e;
    far = λ q Q e. omega arith;
    product = refl;
  }
  swaps_routed (suc d) k A B s b p K t M =
      let j = k + suc d in
      let c = adjacent_tracked S D A B b p (matrix_of Swap) swap_moves j K s t in
      swap_first S d k A B s c.0 b p K M c.1
      (swaps_routed d k (sites_turned A B j) (qubits_turned A B j) (held (relabelled j c.0.chain) c.0.store) (update2 j (b (j + 1)) (b j) b) (update2 j (one ⊗ (p j ⊗ p (j + 1))) one p)
      (omega arith) (relabelled_tracked S A B j c.0 _ _ c.2) (exchanged_maps S.qubits (labels A B) M j K))

  -- a run is accepted, and leaves the chain following M
  abbrev Done : Ran → Machine → Type 0
  Done r M = (t : State) × (r ≡ ran 0 t) × Following S t M

  -- a gate on the qubits u and v, which stand at k and k + 1
  module _ (g : List (List Complex)) (G : Moves g) (k u v : ℕ) (s : State) (M : Machine) (K : k + 1 < S.qubits) (bu : u < S.qubits) (bv : v < S.qubits) (t : Following S s M)
      (eu : label t.sites u ≡ k) (ev : label t.sites v ≡ k + 1) where
    abbrev old : ℕ → Bool
    old = t.bits

    abbrev X : Bool
    X = G.first (old k) (old (k + 1))

    abbrev Y : Bool
    Y = G.second (old k) (old (k + 1))

    bit_u : old k ≡ M.bits u
    bit_u = ap t.bits (sym eu) ∙ sym (t.at_bits u bu)

    bit_v : old (k + 1) ≡ M.bits v
    bit_v = ap t.bits (sym ev) ∙ sym (t.at_bits v bv)

    one_site : (q : ℕ) → q < S.qubits → (w : ℕ) → w < S.qubits → label t.sites q ≡ label t.sites w → q ≡ w
    one_site q Q w W e = sym (t.maps.sites.undone q Q) ∙ ap (label t.qubits) e ∙ t.maps.sites.undone w W

    apart : u ≢ v
    apart e = let f : k ≡ k + 1 = sym eu ∙ ap (label t.sites) e ∙ ev in omega arith

    abbrev F : Bool
    F = G.first (M.bits u) (M.bits v)

    abbrev L : Bool
    L = G.second (M.bits u) (M.bits v)

    new_bits : (q : ℕ) → q < S.qubits → Dec (q ≡ v) → Dec (q ≡ u) → update v L (update u F M.bits) q ≡ update2 k X Y old (label t.sites q)
    new_bits q Q (yes e) d =
        ap (update v L (update u F M.bits)) e ∙ update_at v L (update u F M.bits)
        ∙ sym (λ i. G.second (bit_u i) (bit_v i))
        ∙ sym (update2_second k X Y old)
        ∙ ap (update2 k X Y old) (sym (ap (label t.sites) e ∙ ev))
    new_bits q Q (no f) (yes e) =
        update_else v L (update u F M.bits) q f ∙ ap (update u F M.bits) e ∙ update_at u F M.bits
        ∙ sym (λ i. G.first (bit_u i) (bit_v i))
        ∙ sym (update2_first k X Y old)
        ∙ ap (update2 k X Y old) (sym (ap (label t.sites) e ∙ eu))
    new_bits q Q (no f) (no n) =
        update_else v L (update u F M.bits) q f ∙ update_else u F M.bits q n
        ∙ t.at_bits q Q
        ∙ sym (update2_else k X Y old (label t.sites q) (λ e. n (one_site q Q u bu (e ∙ sym eu))) (λ e. f (one_site q Q v bv (e ∙ sym ev))))

    neighbours : Done (adjacent g k s) (moved_by g G u v M)
    neighbours =
        let c = adjacent_tracked S D t.sites t.qubits t.bits t.phases g G k K s t.tracked in (
          c.0,
          c.1,
          record {
            sites = t.sites;
            qubits = t.qubits;
            bits = update2 k X Y old;
            phases = update2 k (G.by (old k) (old (k + 1)) ⊗ (t.phases k ⊗ t.phases (k + 1))) one t.phases;
            tracked = c.2;
            maps = t.maps;
            at_bits = λ q Q. new_bits q Q (ℕ_discrete q v) (ℕ_discrete q u);
            at_phase = multiplied_moved k (G.by (old k) (old (k + 1))) t.phases S.qubits K ∙ (λ i. t.at_phase i ⊗ G.by (bit_u i) (bit_v i));
          },
        )

  -- after the swaps the chain follows the same machine
  abbrev routed_following : (s : State) (M : Machine) (t : Following S s M) (d k : ℕ) (o : Routed S t.sites t.bits t.phases d k s) → Following S o.state M
  routed_following s M t d k o = record {
    sites = o.sites;
    qubits = o.qubits;
    bits = o.bits;
    phases = o.phases;
    tracked = o.tracked;
    maps = o.maps;
    at_bits = λ q Q. t.at_bits q Q ∙ sym (o.kept q Q);
    at_phase = o.product ∙ t.at_phase;
  }

  pub following_as : (s : State) (M N : Machine) → ((q : ℕ) → N.bits q ≡ M.bits q) → N.phase ≡ M.phase → Following S s M → Following S s N
  following_as s M N e f t = record {
    sites = t.sites;
    qubits = t.qubits;
    bits = t.bits;
    phases = t.phases;
    tracked = t.tracked;
    maps = t.maps;
    at_bits = λ q Q. e q ∙ t.at_bits q Q;
    at_phase = t.at_phase ∙ sym f;
  }

  either_order : (u : ℕ) (x : Bool) (v : ℕ) (y : Bool) (f : ℕ → Bool) → u ≢ v → (q : ℕ) → update v y (update u x f) q ≡ update u x (update v y f) q
  either_order u x v y f n q = go (ℕ_discrete q u) (ℕ_discrete q v)
    where
      go : Dec (q ≡ u) → Dec (q ≡ v) → update v y (update u x f) q ≡ update u x (update v y f) q
      go (yes e) d = update_else v y (update u x f) q (λ g. n (sym e ∙ g)) ∙ ap (update u x f) e ∙ update_at u x f ∙ sym (update_at u x (update v y f)) ∙ ap (update u x (update v y f)) (sym e)
      go (no m) (yes e) = ap (update v y (update u x f)) e ∙ update_at v y (update u x f) ∙ sym (update_at v y f) ∙ ap (update v y f) (sym e) ∙ sym (update_else u x (update v y f) q m)
      go (no m) (no l) = update_else v y (update u x f) q l ∙ update_else u x f q m ∙ sym (update_else u x (update v y f) q m ∙ update_else v y f q l)

  -- the gate after the swaps
  gate_last : (g : List (List Complex)) (d k : ℕ) (s u : State) (N : Machine) → ((rest : List Step) → run_steps (map swap_step (down_to k d) ++ rest) s ≡ run_steps rest u) → Done (adjacent g k u) N
      → Done (run_steps (map swap_step (down_to k d) ++ (gate_step g k ∷ [])) s) N
  unfolding run_steps
  gate_last g d k s u N is c = (c.0, is (gate_step g k ∷ []) ∙ accepted_step (gate_step g k) u c.0 c.1 [], c.2)

  -- swaps, then the gate, on u and v which stand at x and y, x below y
  routed_gate_lem : (g : List (List Complex)) (G : Moves g) (x y u v : ℕ) (s : State) (M : Machine) → x < y → y < S.qubits → u < S.qubits → v < S.qubits → (t : Following S s M)
      → label t.sites u ≡ x → label t.sites v ≡ y
      → Done (run_steps (map swap_step (down_to x (y - x - 1)) ++ (gate_step g x ∷ [])) s) (moved_by g G u v M)
  routed_gate_lem g G x y u v s M l top bu bv t eu ev =
      let d = y - x - 1 in
      let o = swaps_routed d x t.sites t.qubits s t.bits t.phases (omega arith) t.tracked t.maps in
      gate_last g d x s o.state (moved_by g G u v M) o.is
      (neighbours g G x u v o.state M (omega arith) bu bv (routed_following s M t d x o) (o.near u bu eu) (o.far v bv (ev ∙ omega arith)))

  steps_up : (g : List (List Complex)) (x y : ℕ) → x < y → steps_of g (route_of x y) ≡ map swap_step (down_to x (y - x - 1)) ++ (gate_step g x ∷ [])
  steps_up g x y l =
      let mn : min x y ≡ x = omega arith in
      let mx : max x y ≡ y = omega arith in
      λ i. map swap_step (down_to (mn i) (mx i - mn i - 1)) ++ (gate_step (cond (lt-ltb x y l i) g (swap_gate_qubits g)) (mn i) ∷ [])

  steps_down : (g : List (List Complex)) (x y : ℕ) → y < x → steps_of g (route_of x y) ≡ map swap_step (down_to y (x - y - 1)) ++ (gate_step (swap_gate_qubits g) y ∷ [])
  steps_down g x y l =
      let mn : min x y ≡ y = omega arith in
      let mx : max x y ≡ x = omega arith in
      let no : ltb x y ≡ false = le-ltb x y (omega arith) in
      λ i. map swap_step (down_to (mn i) (mx i - mn i - 1)) ++ (gate_step (cond (no i) g (swap_gate_qubits g)) (mn i) ∷ [])

  -- a gate on any two qubits
  pub gate_done : (g : List (List Complex)) (G : Moves g) (u v : ℕ) (s : State) (M : Machine) → u < S.qubits → v < S.qubits → u ≢ v → Following S s M
      → Done (gate_run g u v s) (moved_by g G u v M)
  unfolding gate_run
  gate_done g G u v s M bu bv n t =
      let c = go (dec_lt x y) in
      (c.0, (λ i. run_steps (steps_of g (route_of (label (t.tracked.sites_are i) u) (label (t.tracked.sites_are i) v))) s) ∙ c.1, c.2)
    where
      x : ℕ
      x = label t.sites u

      y : ℕ
      y = label t.sites v

      differ : x ≢ y
      differ e = n (sym (t.maps.sites.undone u bu) ∙ ap (label t.qubits) e ∙ t.maps.sites.undone v bv)

      go : Dec (x < y) → Done (run_steps (steps_of g (route_of x y)) s) (moved_by g G u v M)
      go (yes l) = let c = routed_gate_lem g G x y u v s M l (t.maps.sites.below v bv) bu bv t refl refl in (c.0, ap (λ (z : List Step). run_steps z s) (steps_up g x y l) ∙ c.1, c.2)
      go (no l) =
          let m : y < x = omega (arith, differ) in
          let c = routed_gate_lem (swap_gate_qubits g) (exchanged_moves g G) y x v u s M m (t.maps.sites.below u bu) bv bu t refl refl in
          (c.0, ap (λ (z : List Step). run_steps z s) (steps_down g x y m) ∙ c.1, following_as c.0 _ _ (either_order u _ v _ M.bits n) refl c.2)
