-- DEMAND 3, proved: the chain refuses as the machine does, an accepted call answers as the machine does and leaves the chain following it, and so does a list of calls from a fresh chain.
use Rattle.std.specs.Prelude.{◌≡◌, Bool, ◌&&◌, ◌||◌, ◌≢◌, T, eqb, length, get_or, Float, Err}
use Rattle.std.proofs.Math.Path.{refl, ap, sym, subst}
use Rattle.std.proofs.Common.{◌∙◌, lit≤}
use Rattle.std.proofs.Math.Bool.{true, false, not, not-not, cond}
use Rattle.std.specs.Bool.{beq}
use mathlib.Core.List.{List, [], ◌∷◌}
use Prim.Native.Nat.{ℕ, zero, suc, ◌+◌, ◌-◌, ◌*◌, ◌%◌, ◌≤◌, ◌<◌}
use Rattle.std.proofs.Math.Decide.{ℕ_discrete}
use native.Mathlib.Omega.{arith}
use Rattle.std.proofs.Math.Dec.{ltb, leb, eqb-suc-zero}
use Rattle.std.specs.Float.Ieee.{lt, le, neg, of_bits}
use Rattle.std.specs.Float.Ieee.Bits.{is_true}
use Rattle.std.specs.Float.Ieee.Fits.{and_l, and_r}
use Rattle.std.specs.Float.Ieee.Scale.{finite}
use borrow.Author.Tests.{leb-false, le-ltb, lt-leb, not-false, eqb-true}
use Rattle.complex.specs.Complex.{mul_c, zero_f, one_f}
use Rattle.complex.specs.Loops.{each, each_none, each_more, every, every_at}
use Rattle.complex.specs.Numbers.{at}
use Rattle.complex.specs.declared.Complex.{Complex}
use Rattle.gates.specs.Gate.{entry, gate_of, entry_gate_of}
use Rattle.gates.specs.Finite.{finite_c, all_finite}
use Rattle.gates.specs.Named.{matrix_of, named_entry}
use Rattle.gates.specs.declared.NamedGate.{NamedGate}
use Rattle.gates.specs.declared.NamedGate.TheVariants.{Swap, Cx, Cz}
use Rattle.model.specs.declared.Chain.{Chain}
use Rattle.model.specs.declared.Layered.TheVariants as layered
use Rattle.model.specs.declared.Projected.TheVariants as projected
use Rattle.model.specs.Chain.{site_of, qubit_at}
use Rattle.model.specs.Slots.{State, held, slot_room, store_room, work_room, site_at}
use Rattle.model.specs.Cut.{Ran, ran}
use Rattle.model.specs.Layers.{pair_count, first, second, gate_at, placed_at, placed_from, layer_of}
use Rattle.model.specs.Routing.{gate_run, gate_reason, LayerRan, layer_run}
use Rattle.model.specs.Born.{weight_at, drawn_at, projected_at, reset_at, readied}
use Rattle.model.specs.Sound.{share01, sound}
use Rattle.model.specs.Start.{fresh_chain, fresh_store}
use Rattle.model.specs.Answers.{View, accepted, refused, none, weight, nothing, bit, view_answer, view_applied, view_layered, view_projected, view_measured}
use Rattle.model.specs.Calls.{After, after, first_among, first_of, short, cleared, no_pair, pairs_fit, pairs_apart, gates_finite, layer_refusal, layer_after, layer_call, gate_refusal, project_refusal, measure_refusal, reset_refusal, gate_after, gate_call, named_gate_call, project_answer, project_run, project_call, flagged, measure_run, measure_call, reset_run, reset_call, Started}
use Rattle.model.specs.Lists.{Call, gate, named, layer, project, measure, reset, left, answer_of, state_of, answers_of, final_state}
use Rattle.model.specs.Phases.{Phase, ◌⊗◌, one}
use Rattle.model.specs.Machine as machine
use Rattle.model.specs.Machine.{Machine, too_short, no_number, no_gate, no_draw, unpaired, pair_outside, gate_improper, named_twice, in_turn, moved_at, refusal, reply, next, machine_answer, machine_next, machine_answers, machine_after, fresh, monomial, allowed, all_allowed}
use Rattle.model.specs.Statements.Demand3.{F64, F64s, AllF64, entry_at, product, Follows, Demand3}
use Rattle.model.proofs.Laws.CallsSound.{call_sound}
use Rattle.model.specs.Statements.Soundness.{Settings, Sound}
use Rattle.model.proofs.Laws.SoundFacts.{facts_sound}
use Rattle.model.proofs.Laws.Labels.{sound_maps}
use Rattle.model.proofs.Laws.Refusals.{two_qubits}
use Rattle.model.proofs.Laws.LayerRuns.{fits_at_lem, layer_none, layer_on}
use Rattle.model.proofs.Laws.LayerMachine.{unpaired_alike, twice_alike}
use Rattle.model.proofs.Laws.Units.{nought, unit, Is, Holds, Moves, Fraction, one_left, is_mul, is_equal, is_solid, zero_nought, one_unit}
use Rattle.model.proofs.Laws.Tracked.{Setup, setup_of, Fit, Tracked, update, update_at, update_else, readied_tracked, weight_tracked, drawn_tracked, answer_tracked, projected_tracked, reset_tracked}
use Rattle.model.proofs.Laws.Following.{Following, multiplied, label, moved_is, gate_done}
use Rattle.model.proofs.Laws.UnitGates.{named_moves, monomial_moves}
use Rattle.model.proofs.Laws.UnitSites.{holds_filled}
use Rattle.model.proofs.Laws.StartLaws.{fresh_slot, fresh_length, fresh_slot_lem, fresh_sound, start_accepted}
use Rattle.model.proofs.Laws.Tests.{not_and, neither}

-- ---- the refusal numbers of the chain, its record sound, are the machine's

finite_number : (z : Complex) → finite_c z ≡ not (no_number z)
unfolding finite_c
finite_number z = sym (not-not (finite z.re && finite z.im)) ∙ ap not (not_and (finite z.re) (finite z.im))

finite_gate : (g : List (List Complex)) → not (all_finite g) ≡ no_gate g
unfolding all_finite
finite_gate g = λ i. not (every 4 (λ r. every 4 (λ c. finite_number (entry g r c) i)))

named_finite : (name : NamedGate) → not (all_finite (matrix_of name)) ≡ false
unfolding all_finite every finite_c matrix_of gate_of named_entry of_bits neg
named_finite Swap = refl
named_finite Cx = refl
named_finite Cz = refl

proper_draw : (x : Float) → not (share01 x) ≡ no_draw x
proper_draw x = not_and (le zero_f x) (lt x one_f)

module _ (S : Setup) (s : State) (same : setup_of s ≡ S) (h : T (sound s.chain)) where
  fine : not (sound s.chain) ≡ false
  fine = ap not (is_true (sound s.chain) h)

  short_alike : (work : List Float) → short s.chain s.store work ≡ too_short S.qubits S.cap S.long (length work)
  short_alike work =
      let store_room_lem : store_room S.qubits S.cap ≡ 4 * S.qubits * (S.cap * S.cap) = omega arith in
      let work_room_lem : work_room S.cap ≡ 80 * (S.cap * S.cap) + 16 * S.cap = omega arith in
      (λ i. ltb (same i).long (store_room (same i).qubits (same i).cap) || ltb (length work) (work_room (same i).cap)) ∙ (λ i. ltb S.long (store_room_lem i) || ltb (length work) (work_room_lem i))

  pub gate_refusal_lem : (q0 q1 : ℕ) (g : List (List Complex)) (work : List Float) → gate_refusal s work q0 q1 g ≡ refusal S.qubits S.cap S.long (gate q0 q1 g work)
  unfolding refusal
  gate_refusal_lem q0 q1 g work = λ i. first_of (fine i) (short_alike work i) (no_pair (same i).qubits q0 q1) (finite_gate g i)

  pub named_refusal : (q0 q1 : ℕ) (name : NamedGate) (work : List Float) → gate_refusal s work q0 q1 (matrix_of name) ≡ refusal S.qubits S.cap S.long (named q0 q1 name work)
  unfolding refusal
  named_refusal q0 q1 name work = λ i. first_of (fine i) (short_alike work i) (no_pair (same i).qubits q0 q1) (named_finite name i)

  pub layer_refusal_lem : (pairs : List ℕ) (gates : List Float) (work : List Float) → layer_refusal s work pairs gates ≡ refusal S.qubits S.cap S.long (layer pairs gates work)
  unfolding refusal pairs_fit gates_finite
  layer_refusal_lem pairs gates work =
      (λ i. first_among (fine i) (short_alike work i || unpaired_alike pairs gates i) (not (pairs_fit (same i).qubits pairs)) (not (pairs_apart pairs)) (not (every (pair_count pairs) (λ p. finite_alike (gate_at gates p) i))))
      ∙ nine_alike (too_short S.qubits S.cap S.long (length work) || unpaired pairs gates) (pair_outside S.qubits pairs) (not (pairs_apart pairs)) (named_twice S.qubits pairs) (gate_improper pairs gates) (λ e. twice_alike S.qubits pairs (λ p l. let two = fits_at_lem S.qubits pairs p (not-false (pairs_fit S.qubits pairs) e) l in (two.0, two.1)))
    where
      finite_alike : (g : List (List Complex)) → all_finite g ≡ not (no_gate g)
      finite_alike g = sym (not-not (all_finite g)) ∙ ap not (finite_gate g)

      -- 9 is asked after 4
      nine_alike : (two four nine nine' five : Bool) → (four ≡ false → nine ≡ nine') → in_turn two four nine five ≡ in_turn two four nine' five
      nine_alike two true nine nine' five e = refl
      nine_alike two false nine nine' five e = ap (λ (b : Bool). in_turn two false b five) (e refl)

  pub project_refusal_lem : (q : ℕ) (o : Bool) (work : List Float) → project_refusal s work q ≡ refusal S.qubits S.cap S.long (project q o work)
  unfolding refusal
  project_refusal_lem q o work = λ i. first_of (fine i) (short_alike work i) (leb (same i).qubits q) false

  pub measure_refusal_lem : (q flag : ℕ) (draw : Float) (work : List Float) → measure_refusal s work q flag draw ≡ refusal S.qubits S.cap S.long (measure q flag draw work)
  unfolding refusal
  measure_refusal_lem q flag draw work = λ i. first_of (fine i) (short_alike work i) (leb (same i).qubits q || leb 64 flag) (proper_draw draw i)

  pub reset_refusal_lem : (q : ℕ) (draw : Float) (work : List Float) → reset_refusal s work q draw ≡ refusal S.qubits S.cap S.long (reset q draw work)
  unfolding refusal
  reset_refusal_lem q draw work = λ i. first_of (fine i) (short_alike work i) (leb (same i).qubits q) (proper_draw draw i)

-- ---- what an accepted call says of its arguments

-- of 2, of 4 and of 5; 9 says nothing that a gate needs
pub none_refuses : (a b c d : Bool) → in_turn a b c d ≡ 0 → (a ≡ false) × (b ≡ false) × (d ≡ false)
none_refuses true b c d e = absurd (omega arith)
none_refuses false true c d e = absurd (omega arith)
none_refuses false false true d e = absurd (omega arith)
none_refuses false false false true e = absurd (omega arith)
none_refuses false false false false e = (refl, refl, refl)

-- an allowed gate by matrix, if the machine does not refuse it, moves bits and phases
pub allowed_moves : (n d long q0 q1 : ℕ) (g : List (List Complex)) (work : List Float) → F64s (gate q0 q1 g work) → T (allowed n d long (gate q0 q1 g work)) → refusal n d long (gate q0 q1 g work) ≡ 0 → Moves g
allowed_moves n d long q0 q1 g work f a z = monomial_moves g (subst (λ (k : ℕ). T (not (eqb k 0) || monomial g)) z a) f

-- and so does each gate of an allowed layer, on two of n qubits
pub layer_moves : (n d long : ℕ) (pairs : List ℕ) (gates work : List Float) → F64s (layer pairs gates work) → T (allowed n d long (layer pairs gates work)) → refusal n d long (layer pairs gates work) ≡ 0
    → (p : ℕ) → p < pair_count pairs → Moves (gate_at gates p) × ((first pairs p < n) × (second pairs p < n) × (first pairs p ≢ second pairs p))
unfolding refusal pairs_fit gate_at at
layer_moves n d long pairs gates work f a z p l =
    let x = none_refuses (too_short n d long (length work) || unpaired pairs gates) (pair_outside n pairs) (named_twice n pairs) (gate_improper pairs gates) z in
    let agree = neither (eqb (length pairs % 2) 1) (not (eqb (length gates) (16 * length pairs))) (neither (too_short n d long (length work)) (unpaired pairs gates) x.0).1 in
    let many : length gates ≡ 16 * length pairs = eqb-true (length gates) (16 * length pairs) (not-false (eqb (length gates) (16 * length pairs)) agree.1) in
    let monomials = subst (λ (k : ℕ). T (not (eqb k 0) || every (pair_count pairs) (λ p. monomial (gate_at gates p)))) z a in (
      monomial_moves (gate_at gates p) (every_at (pair_count pairs) (λ p. monomial (gate_at gates p)) p l monomials) (λ r c hr hc.
          rw (entry_gate_of (λ r c. at gates (16 * p + 4 * r + c)) r c hr hc) (f (2 * (16 * p + 4 * r + c)) (omega arith), f (2 * (16 * p + 4 * r + c) + 1) (omega arith))),
      fits_at_lem n pairs p (not-false (pairs_fit n pairs) x.1) l,
    )

fraction : (x : Float) → F64 x → no_draw x ≡ false → Fraction x
fraction x f e = let y = neither (not (le zero_f x)) (not (lt x one_f)) e in record { fit = f; least = holds (le zero_f x) y.0; below = holds (lt x one_f) y.1 }
  where
    holds : (b : Bool) → not b ≡ false → T b
    holds true e = tt
    holds false e = absurd (let z : ◌≡◌ {A = ℕ} 0 1 = cc in omega arith)

module _ (S : Setup) (D : Fit S) where
  -- ---- a call on one qubit q, at its site k
  module _ (s : State) (M : Machine) (t : Following S s M) (q : ℕ) (Q : q < S.qubits) where
    abbrev k : ℕ
    k = site_of s.chain q

    k_is : k ≡ label t.sites q
    k_is = ap (λ (x : List ℕ). get_or x q 0) t.tracked.sites_are

    K : k < S.qubits
    K = subst (λ (x : ℕ). x < S.qubits) (sym k_is) (t.maps.sites.below q Q)

    bit_is : t.bits k ≡ M.bits q
    bit_is = ap t.bits k_is ∙ sym (t.at_bits q Q)

    ready : Tracked S t.sites t.qubits (readied k s) t.bits t.phases
    ready = readied_tracked S D t.sites t.qubits t.bits t.phases k s K t.tracked

    pub weight_following : (o : Bool) → weight_at k o (readied k s) ≡ cond (beq (M.bits q) o) one_f zero_f
    weight_following o = weight_tracked S D t.sites t.qubits t.bits t.phases (readied k s) ready k K o ∙ ap (λ (b : Bool). cond (beq b o) one_f zero_f) bit_is

    pub answer_following : (o : Bool) → project_answer k o (readied k s) ≡ cond (beq (M.bits q) o) (projected.Kept one_f) projected.Nothing
    answer_following o =
        answer_tracked S D t.sites t.qubits t.bits t.phases (readied k s) ready k K o ∙ ap (λ (b : Bool). cond (beq b o) (projected.Kept one_f) projected.Nothing) bit_is

    drawn_at_lem : (draw : Float) → Fraction draw → drawn_at k draw (readied k s) ≡ t.bits k
    drawn_at_lem draw f = drawn_tracked S D t.sites t.qubits t.bits t.phases (readied k s) ready k K draw f

    -- a state that is tracked as before follows as before
    unchanged : (x : State) → Tracked S t.sites t.qubits x t.bits t.phases → Following S x M
    unchanged x u = record {
      sites = t.sites;
      qubits = t.qubits;
      bits = t.bits;
      phases = t.phases;
      tracked = u;
      maps = t.maps;
      at_bits = t.at_bits;
      at_phase = t.at_phase;
    }

    project_following : (o : Bool) → Following S (projected_at k o (readied k s)) M
    project_following o = unchanged (projected_at k o (readied k s)) (projected_tracked S D t.sites t.qubits t.bits t.phases (readied k s) ready k K o)

    flag_following : (flag : ℕ) (b o : Bool) → Following S (flagged flag b (projected_at k o (readied k s))) M
    flag_following flag b o =
        let u = projected_tracked S D t.sites t.qubits t.bits t.phases (readied k s) ready k K o in
        unchanged (flagged flag b (projected_at k o (readied k s))) (record {
          same = u.same;
          lefts_one = u.lefts_one;
          rights_one = u.rights_one;
          holds = u.holds;
          centre = u.centre;
          high_one = u.high_one;
          none = u.none;
          sites_are = u.sites_are;
          qubits_are = u.qubits_are;
        })

    lowered_at : (p : ℕ) → p < S.qubits → Dec (p ≡ q) → update q false M.bits p ≡ update k false t.bits (label t.sites p)
    lowered_at p P (yes e) =
        ap (update q false M.bits) e ∙ update_at q false M.bits
        ∙ sym (ap (update k false t.bits) (ap (label t.sites) e ∙ sym k_is) ∙ update_at k false t.bits)
    lowered_at p P (no n) =
        update_else q false M.bits p n ∙ t.at_bits p P
        ∙ sym (update_else k false t.bits (label t.sites p) (λ e. n (sym (t.maps.sites.undone p P) ∙ ap (label t.qubits) (e ∙ k_is) ∙ t.maps.sites.undone q Q)))

    reset_following : (draw : Float) → Fraction draw → Following S (reset_at k (drawn_at k draw (readied k s)) (readied k s)) (record { bits = update q false M.bits; phase = M.phase })
    reset_following draw f = record {
      sites = t.sites;
      qubits = t.qubits;
      bits = update k false t.bits;
      phases = t.phases;
      tracked = subst (λ (b : Bool). Tracked S t.sites t.qubits (reset_at k b (readied k s)) (update k false t.bits) t.phases) (sym (drawn_at_lem draw f))
          (reset_tracked S D t.sites t.qubits t.bits t.phases (readied k s) ready k K);
      maps = t.maps;
      at_bits = λ p P. lowered_at p P (ℕ_discrete p q);
      at_phase = t.at_phase;
    }

  -- ---- a call: refused alike, or performed

  abbrev number_of : Call → ℕ
  number_of c = refusal S.qubits S.cap S.long c

  abbrev CallFollows : Call → State → Machine → Type 0
  CallFollows c s M = (answer_of c s ≡ machine_answer S.qubits S.cap S.long c M) × Following S (state_of c s) (machine_next S.qubits S.cap S.long c M)

  module _ {A : Type 0} (view : A → View) (no : ℕ → A) (shown : (k : ℕ) → view (no k) ≡ refused k) (c : Call) (s : State) (M : Machine) (t : Following S s M) (work : List Float) (run : After A)
      (done : number_of c ≡ 0 → (view run.answer ≡ reply c M) × Following S (left run) (next c M)) where
    -- the chain's outcome under the number i, and the machine's under the number j, whether they are 0 being a and b
    abbrev Alike : Bool → ℕ → Bool → ℕ → Type 0
    Alike a i b j =
        (view (cond a run (after (no i) s work)).answer ≡ cond b (reply c M) (refused j)) × Following S (left (cond a run (after (no i) s work))) (cond b (next c M) M)

    refused_or_run : (i : ℕ) → i ≡ number_of c → Alike (eqb i 0) i (eqb (number_of c) 0) (number_of c)
    refused_or_run i e = subst (λ (x : ℕ). Alike (eqb x 0) x (eqb (number_of c) 0) (number_of c)) (sym e) (go (number_of c) refl)
      where
        go : (j : ℕ) → number_of c ≡ j → Alike (eqb j 0) j (eqb j 0) j
        go zero z = done z
        go (suc j) z = subst (λ (b : Bool). Alike b (suc j) b (suc j)) (sym (eqb-suc-zero j)) (shown (suc j), t)

  -- a gate that moves bits and phases, on two qubits, is done and followed
  pair_runs : (g : List (List Complex)) (q0 q1 : ℕ) (u : State) (N : Machine) → Moves g × ((q0 < S.qubits) × (q1 < S.qubits) × (q0 ≢ q1)) → Following S u N
      → (v : State) × (gate_run g q0 q1 u ≡ ran 0 v) × Following S v (machine.moved g q0 q1 N)
  pair_runs g q0 q1 u N x f =
      let c = gate_done S D g x.0 q0 q1 u N x.1.0 x.1.1 x.1.2 f in
      (c.0, c.1, subst (Following S c.0) (sym (moved_is g x.0 q0 q1 N)) c.2)

  -- a layer's run that is done, and followed by the machine N
  record LayerFollows (r : LayerRan) (N : Machine) : Type 0 where
    done : r.answer ≡ layered.Done
    following : Following S r.state N

  -- the last m of k pairs, from pair p on
  module _ (pairs : List ℕ) (gates : List Float) (k : ℕ) (G : (p : ℕ) → p < k → Moves (gate_at gates p) × ((first pairs p < S.qubits) × (second pairs p < S.qubits) × (first pairs p ≢ second pairs p))) (M : Machine) where
    layer_runs : (m p : ℕ) → p + m ≡ k → (u : State) → Following S u (each p (moved_at pairs gates) M) → LayerFollows (layer_run p (placed_from pairs gates m p) u) (each k (moved_at pairs gates) M)
    unfolding placed_from
    layer_runs zero p e u f =
        let last : p ≡ k = omega arith in
        subst (λ (r : LayerRan). LayerFollows r (each k (moved_at pairs gates) M)) (sym (layer_none p u)) (record { done = refl; following = subst (λ (j : ℕ). Following S u (each j (moved_at pairs gates) M)) last f })
    layer_runs (suc m) p e u f =
        let c = pair_runs (gate_at gates p) (first pairs p) (second pairs p) u (each p (moved_at pairs gates) M) (G p (omega arith)) f in
        let rest = layer_runs m (p + 1) (omega arith) c.0 (subst (Following S c.0) (sym (each_more p (moved_at pairs gates) M)) c.2) in
        subst (λ (r : LayerRan). LayerFollows r (each k (moved_at pairs gates) M)) (sym (layer_on p (placed_at pairs gates p) (placed_from pairs gates m (p + 1)) u c.0 c.1)) rest

  module _ (s : State) (M : Machine) (t : Following S s M) (h : T (sound s.chain)) where
    -- an accepted gate
    gate_runs : (q0 q1 : ℕ) (g : List (List Complex)) → Moves g → (q0 < S.qubits) × (q1 < S.qubits) × (q0 ≢ q1) → (work : List Float)
        → (view_applied (gate_after (gate_reason g q0 q1 s) (gate_run g q0 q1 s) work).answer ≡ accepted none) × Following S (left (gate_after (gate_reason g q0 q1 s) (gate_run g q0 q1 s) work)) (machine.moved g q0 q1 M)
    gate_runs q0 q1 g G x work =
        let c = pair_runs g q0 q1 s M (G, x) t in (
          ap (λ (r : Ran). view_applied (gate_after (gate_reason g q0 q1 s) r work).answer) c.1,
          subst (λ (r : Ran). Following S (left (gate_after (gate_reason g q0 q1 s) r work)) (machine.moved g q0 q1 M)) (sym c.1) c.2,
        )

    -- a gate by matrix that, unless it is refused, moves bits and phases
    gate_follows : (q0 q1 : ℕ) (g : List (List Complex)) (work : List Float) → (number_of (gate q0 q1 g work) ≡ 0 → Moves g) → CallFollows (gate q0 q1 g work) s M
    unfolding gate_call reply next refusal
    gate_follows q0 q1 g work G =
        refused_or_run view_applied Err (λ k. refl) (gate q0 q1 g work) s M t work (gate_after (gate_reason g q0 q1 s) (gate_run g q0 q1 s) (cleared s.chain work))
        (λ z. gate_runs q0 q1 g (G z) (two_qubits S.qubits q0 q1 (none_refuses (too_short S.qubits S.cap S.long (length work)) _ false (no_gate g) z).1) (cleared s.chain work))
        (gate_refusal s work q0 q1 g) (gate_refusal_lem S s t.tracked.same h q0 q1 g work)

    call_follows : (c : Call) → F64s c → T (allowed S.qubits S.cap S.long c) → CallFollows c s M
    unfolding named_gate_call gate_call layer_call project_call measure_call reset_call reply next refusal
    call_follows (gate q0 q1 g work) f a = gate_follows q0 q1 g work (allowed_moves S.qubits S.cap S.long q0 q1 g work f a)
    call_follows (named q0 q1 name work) f a =
        refused_or_run view_applied Err (λ k. refl) (named q0 q1 name work) s M t work (gate_after (gate_reason (matrix_of name) q0 q1 s) (gate_run (matrix_of name) q0 q1 s) (cleared s.chain work))
        (λ z. gate_runs q0 q1 (matrix_of name) (named_moves name)
        (two_qubits S.qubits q0 q1 (none_refuses (too_short S.qubits S.cap S.long (length work)) _ false false z).1) (cleared s.chain work))
        (gate_refusal s work q0 q1 (matrix_of name)) (named_refusal S s t.tracked.same h q0 q1 name work)
    call_follows (layer pairs gates work) f a =
        refused_or_run view_layered layered.Refused (λ k. refl) (layer pairs gates work) s M t work (layer_after (layer_run 0 (layer_of pairs gates) s) (cleared s.chain work))
        (λ z.
        let x = layer_runs pairs gates (pair_count pairs) (layer_moves S.qubits S.cap S.long pairs gates work f a z) M (pair_count pairs) 0 (omega arith) s (subst (Following S s) (sym (each_none (moved_at pairs gates) M)) t) in
        (ap view_layered x.done, x.following))
        (layer_refusal s work pairs gates) (layer_refusal_lem S s t.tracked.same h pairs gates work)
    call_follows (project q o work) f a =
        refused_or_run view_projected projected.Refused (λ k. refl) (project q o work) s M t work (project_run (site_of s.chain q) o s (cleared s.chain work))
        (λ z. let Q = leb-false S.qubits q (none_refuses (too_short S.qubits S.cap S.long (length work)) _ false false z).1 in
        (ap view_projected (answer_following s M t q Q o) ∙ kept_view (beq (M.bits q) o), project_following s M t q Q o))
        (project_refusal s work q) (project_refusal_lem S s t.tracked.same h q o work)
      where
        kept_view : (b : Bool) → view_projected (cond b (projected.Kept one_f) projected.Nothing) ≡ accepted (cond b (weight one_f) nothing)
        kept_view true = refl
        kept_view false = refl
    call_follows (measure q flag draw work) f a =
        refused_or_run view_measured Err (λ k. refl) (measure q flag draw work) s M t work (measure_run (site_of s.chain q) flag draw s (cleared s.chain work))
        (λ z. let x = none_refuses (too_short S.qubits S.cap S.long (length work)) (leb S.qubits q || ltb 63 flag) false (no_draw draw) z in
        let Q = leb-false S.qubits q (neither (leb S.qubits q) (ltb 63 flag) x.1).0 in
        (ap (λ (b : Bool). accepted (bit b)) (drawn_at_lem s M t q Q draw (fraction draw f x.2) ∙ bit_is s M t q Q), flag_following s M t q Q flag _ _))
        (measure_refusal s work q flag draw) (measure_refusal_lem S s t.tracked.same h q flag draw work)
    call_follows (reset q draw work) f a =
        refused_or_run view_answer Err (λ k. refl) (reset q draw work) s M t work (reset_run (site_of s.chain q) draw s (cleared s.chain work))
        (λ z. let x = none_refuses (too_short S.qubits S.cap S.long (length work)) (leb S.qubits q) false (no_draw draw) z in
        let Q = leb-false S.qubits q x.1 in
        (refl, reset_following s M t q Q draw (fraction draw f x.2)))
        (reset_refusal s work q draw) (reset_refusal_lem S s t.tracked.same h q draw work)

  -- ---- a list

  -- what holds between two calls
  pub record Between (s : State) (M : Machine) : Type 0 where
    pub following : Following S s M
    pub soundness : T (sound s.chain)

  pub call_between : (c : Call) (s : State) (M : Machine) → Between s M → F64s c → T (allowed S.qubits S.cap S.long c)
      → (answer_of c s ≡ machine_answer S.qubits S.cap S.long c M) × Between (state_of c s) (machine_next S.qubits S.cap S.long c M)
  call_between c s M b f a =
      let x = call_follows s M b.following b.soundness c f a in
      (x.0, record { following = x.1; soundness = call_sound c s b.soundness })

  pub list_between : (cs : List Call) (s : State) (M : Machine) → Between s M → AllF64 cs → T (all_allowed S.qubits S.cap S.long cs)
      → (answers_of cs s ≡ machine_answers S.qubits S.cap S.long cs M) × Between (final_state cs s) (machine_after S.qubits S.cap S.long cs M)
  list_between [] s M b f a = (refl, b)
  list_between (c ∷ cs) s M b f a =
      let here = allowed S.qubits S.cap S.long c in
      let later = all_allowed S.qubits S.cap S.long cs in
      let x = call_between c s M b f.0 (and_l here later a) in
      let r = list_between cs (state_of c s) (machine_next S.qubits S.cap S.long c M) x.1 f.1 (and_r here later a) in
      (λ i. x.0 i ∷ r.0 i, r.1)

  -- ---- what a chain that follows the machine holds

  module _ (s : State) (M : Machine) (b : Between s M) where
    abbrev t : Following S s M
    t = b.following

    qubit_bit : (k : ℕ) → k < S.qubits → M.bits (qubit_at s.chain k) ≡ t.bits k
    qubit_bit k l =
        ap (λ (B : List ℕ). M.bits (get_or B k 0)) t.tracked.qubits_are
        ∙ t.at_bits (get_or t.qubits k 0) (t.maps.qubits.below k l)
        ∙ ap t.bits (t.maps.qubits.undone k l)

    own_is : (k : ℕ) → k < S.qubits → Is (entry_at s k (M.bits (qubit_at s.chain k))) (unit (t.phases k))
    own_is k l = subst (λ (x : Bool). Is (entry_at s k x) (unit (t.phases k))) (sym (qubit_bit k l)) (go (t.bits k) (t.tracked.holds k l))
      where
        go : (x : Bool) → Holds (site_at s k) x (t.phases k) → Is (entry_at s k x) (unit (t.phases k))
        go false h = h false
        go true h = h true

    other_is : (k : ℕ) → k < S.qubits → Is (entry_at s k (not (M.bits (qubit_at s.chain k)))) nought
    other_is k l = subst (λ (x : Bool). Is (entry_at s k (not x)) nought) (sym (qubit_bit k l)) (go (t.bits k) (t.tracked.holds k l))
      where
        go : (x : Bool) → Holds (site_at s k) x (t.phases k) → Is (entry_at s k (not x)) nought
        go false h = h true
        go true h = h false

    abbrev entries : ℕ → Complex
    entries k = entry_at s k (M.bits (qubit_at s.chain k))

    -- the entries of the sites 0 to m, multiplied
    product_is : (m : ℕ) → m < S.qubits → Is (each m (λ k z. mul_c z (entries (k + 1))) (entries 0)) (unit (multiplied (suc m) t.phases))
    unfolding each
    product_is zero l = subst (λ (p : Phase). Is (entries 0) (unit p)) (sym (one_left (t.phases 0))) (own_is 0 l)
    product_is (suc m) l =
        let e : suc m ≡ m + 1 = omega arith in
        subst (λ (p : Phase). Is (mul_c (each m (λ k z. mul_c z (entries (k + 1))) (entries 0)) (entries (m + 1))) (unit (multiplied (suc m) t.phases ⊗ p))) (ap t.phases (sym e))
        (is_mul (product_is m (omega arith)) (own_is (m + 1) (omega arith)))

    phase_is : Is (product S.qubits s M.bits) (unit M.phase)
    phase_is =
        let two : 2 ≤ S.qubits = D.two in
        let last : suc (S.qubits - 1) ≡ S.qubits = omega arith in
        subst (λ (p : Phase). Is (product S.qubits s M.bits) (unit p)) (ap (λ (m : ℕ). multiplied m t.phases) last ∙ t.at_phase) (product_is (S.qubits - 1) (omega arith))

    beq_sym : (x y : Bool) → beq x y ≡ beq y x
    beq_sym false false = refl
    beq_sym false true = refl
    beq_sym true false = refl
    beq_sym true true = refl

    accepted_project : (q : ℕ) → q < S.qubits → (work : List Float) → work_room S.cap ≤ length work → project_refusal s work q ≡ 0
    accepted_project q Q work l =
        let fine : not (sound s.chain) ≡ false = ap not (is_true (sound s.chain) b.soundness) in
        (λ i. first_of (fine i) (ltb (t.tracked.same i).long (store_room (t.tracked.same i).qubits (t.tracked.same i).cap) || ltb (length work) (work_room (t.tracked.same i).cap)) (leb (t.tracked.same i).qubits q) false)
        ∙ (λ i. first_of false (le-ltb S.long (store_room S.qubits S.cap) D.store i || le-ltb (length work) (work_room S.cap) l i) (lt-leb S.qubits q Q i) false)

    nothing_on_other : (q : ℕ) → q < S.qubits → (work : List Float) → work_room S.cap ≤ length work → (project_call s work q (not (M.bits q))).answer ≡ projected.Nothing
    unfolding project_call
    nothing_on_other q Q work l =
        ap (λ (k : ℕ). (cond (eqb k 0) (project_run (site_of s.chain q) (not (M.bits q)) s (cleared s.chain work)) (after (projected.Refused k) s work)).answer) (accepted_project q Q work l)
        ∙ answer_following s M t q Q (not (M.bits q)) ∙ go (M.bits q)
      where
        go : (x : Bool) → cond (beq x (not x)) (projected.Kept one_f) projected.Nothing ≡ projected.Nothing
        go false = refl
        go true = refl

    pub follows : Follows S.qubits S.cap s M
    follows = record {
      bonds = λ k l. (t.tracked.lefts_one k l, t.tracked.rights_one k l);
      discarded = t.tracked.none;
      phase = is_equal phase_is;
      others = λ k l. subst (λ (x : Bool). T x) (sym (is_solid (other_is k l))) tt;
      weights = λ q l x. weight_following s M t q l x ∙ ap (λ (c : Bool). cond c one_f zero_f) (beq_sym (M.bits q) x);
      nothing = nothing_on_other;
    }

-- ---- the start

fresh_holds : Holds (one_f ∷ zero_f ∷ zero_f ∷ zero_f ∷ []) false one
unfolding at
fresh_holds false = one_unit
fresh_holds true = zero_nought

module _ (n d exponent : ℕ) (epsilon clamp : Float) (store : List Float) (E : F64 epsilon) (C : F64 clamp) (two : 2 ≤ n) (five : 5 ≤ exponent)
    (Z : Settings n d epsilon clamp exponent) (room : store_room n d ≤ length store) where
  abbrev pub setup : Setup
  setup = record { qubits = n; cap = d; exponent = exponent; epsilon = epsilon; clamp = clamp; long = length store }

  pub fit : Fit setup
  fit = record {
    two = two;
    some = Z.cap.0;
    room = five;
    epsilon = record { fit = E; least = Z.epsilon_range.0; below = Z.epsilon_range.1 };
    clamp = record { fit = C; least = Z.clamp_range.0; below = Z.clamp_range.1 };
    store = room;
  }

  abbrev pub chain : Chain
  chain = fresh_chain n d epsilon clamp exponent

  chain_sound : Sound chain
  chain_sound = fresh_sound n d epsilon clamp exponent Z

  slot_holds : Holds (fresh_slot d) false one
  slot_holds = holds_filled (slot_room d) (one_f ∷ zero_f ∷ zero_f ∷ zero_f ∷ []) false one (lit≤ tt) fresh_holds

  all_one : (m : ℕ) → multiplied m (λ k. one) ≡ one
  all_one zero = refl
  all_one (suc m) = ap (λ (x : Phase). x ⊗ one) (all_one m)

  start_following : Following setup (held chain (fresh_store n d store)) fresh
  unfolding fresh_chain fresh_store
  start_following = record {
    sites = chain.logical_to_site;
    qubits = chain.site_to_logical;
    bits = λ k. false;
    phases = λ k. one;
    tracked = record {
      same = λ i. record { qubits = n; cap = d; exponent = exponent; epsilon = epsilon; clamp = clamp; long = fresh_length n d store Z.cap.0 room i };
      lefts_one = λ k l. let r = chain_sound.bonds.left_range k l in omega arith;
      rights_one = λ k l. let r = chain_sound.bonds.right_range k l in omega arith;
      holds = λ k l. subst (λ (x : List Float). Holds x false one) (sym (fresh_slot_lem n d store Z.cap.0 k l)) slot_holds;
      centre = chain_sound.centre;
      high_one = refl;
      none = refl;
      sites_are = refl;
      qubits_are = refl;
    };
    maps = sound_maps chain chain_sound;
    at_bits = λ q l. refl;
    at_phase = all_one n;
  }

  pub start_between : Between setup fit (held chain (fresh_store n d store)) fresh
  start_between = record { following = start_following; soundness = facts_sound chain chain_sound }

-- ---- the theorem

pub demand3 : Demand3
unfolding Demand3
demand3 n d exponent epsilon clamp store E C two five done calls f a =
    let x = start_accepted n d epsilon clamp exponent store done in
    let S = setup n d exponent epsilon clamp store E C two five x.settings x.room in
    let D = fit n d exponent epsilon clamp store E C two five x.settings x.room in
    let b = start_between n d exponent epsilon clamp store E C two five x.settings x.room in
    subst
    (λ (st : Started). (answers_of calls (held st.chain st.store) ≡ machine_answers n d (length store) calls fresh)
    × Follows n d (final_state calls (held st.chain st.store)) (machine_after n d (length store) calls fresh))
    (sym x.is)
    (let r = list_between S D calls (held (fresh_chain n d epsilon clamp exponent) (fresh_store n d store)) fresh b f a in
    (r.0, follows S D (final_state calls (held (fresh_chain n d epsilon clamp exponent) (fresh_store n d store))) (machine_after n d (length store) calls fresh) r.1))
