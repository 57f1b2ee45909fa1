-- The product clause of demand 3, proved. By `demand3` the chain answers as the machine and ends following it, so that the clause is a law of the machine:
-- a run of gates moves it as one gate with the entries of their product does.
use Rattle.std.specs.Prelude.{◌≡◌, refl, Bool, true, not, ◌||◌, ◌≢◌, ℕ, zero, suc, T, eqb, length, replicate}
use Rattle.std.proofs.Math.Path.{ap, fun_ext}
use Rattle.std.proofs.Common.{sym, ◌∙◌, subst}
use Rattle.std.proofs.Math.Bool.{false, cond}
use mathlib.Core.List.{List, [], ◌∷◌, ◌++◌, append_cancel_left, head-eq_of_cons-eq, tail-eq_of_cons-eq}
use Rattle.std.proofs.Math.Decide.{ℕ_discrete}
use Rattle.std.proofs.Math.Dec.{eqb-suc-zero}
use Rattle.std.specs.Float.Ieee.Fits.{and_l, and_r, and_i}
use Rattle.complex.specs.declared.Complex.{Complex}
use Rattle.gates.specs.Named.{matrix_of}
use Rattle.model.specs.Slots.{State}
use Rattle.model.specs.Answers.{View, accepted, refused, none}
use Rattle.model.specs.Lists.{Call, gate, named, answer_of, state_of, answers_of, final_state}
use Rattle.model.specs.Phases.{Phase, ◌⊗◌}
use Rattle.model.specs.Machine.{Machine, fresh, refusal, reply, next, too_short, no_gate, monomial, machine_answer, machine_next, machine_after, machine_answers, allowed, all_allowed}
use Rattle.model.specs.Statements.Demand3.{F64s, AllF64, Follows, Demand3}
use Rattle.model.specs.Statements.Product.{matrix_product, SameGate, GateF64, GateOn, by_matrix, by_name, Run, single, in_turn_lem, Replaces, ProductClause, RunClause}
use Rattle.model.proofs.Laws.Tests.{or_second}
use Rattle.model.proofs.Laws.Units.{Moves, assoc, comm}
use Rattle.model.proofs.Laws.GateProducts.{fit_entries, named_fit, Permutes, permutes, product_moves, product_permutes, same_permutes, permutes_monomial}
use Rattle.model.proofs.Laws.Tracked.{update, update_at, update_else}
use Rattle.model.proofs.Laws.Following.{moved_by, moved_is}
use Rattle.model.proofs.Laws.Refusals.{two_qubits}
use Rattle.model.proofs.Laws.Demand3Proof.{none_refuses, demand3}

-- ---- the machine after two gates, the later one h

module _ (h g : List (List Complex)) (H : Moves h) (G : Moves g) (u v : ℕ) (n : u ≢ v) where
  abbrev bits : Bool → Bool → (ℕ → Bool) → ℕ → Bool
  bits x y f = update v y (update u x f)

  twice : (x y x' y' : Bool) (f : ℕ → Bool) (q : ℕ) → bits x y (bits x' y' f) q ≡ bits x y f q
  twice x y x' y' f q = go (ℕ_discrete q v) (ℕ_discrete q u)
    where
      go : Dec (q ≡ v) → Dec (q ≡ u) → bits x y (bits x' y' f) q ≡ bits x y f q
      go (yes e) d = ap (bits x y (bits x' y' f)) e ∙ update_at v y (update u x (bits x' y' f)) ∙ sym (update_at v y (update u x f)) ∙ ap (bits x y f) (sym e)
      go (no m) (yes e) =
          update_else v y (update u x (bits x' y' f)) q m ∙ ap (update u x (bits x' y' f)) e ∙ update_at u x (bits x' y' f)
          ∙ sym (update_else v y (update u x f) q m ∙ ap (update u x f) e ∙ update_at u x f)
      go (no m) (no l) =
          update_else v y (update u x (bits x' y' f)) q m ∙ update_else u x (bits x' y' f) q l ∙ update_else v y' (update u x' f) q m ∙ update_else u x' f q l
          ∙ sym (update_else v y (update u x f) q m ∙ update_else u x f q l)

  fused : (M : Machine) → moved_by h H u v (moved_by g G u v M) ≡ moved_by (matrix_product h g) (product_moves h g H G) u v M
  fused M =
      let a = M.bits u in
      let b = M.bits v in
      let x = G.first a b in
      let y = G.second a b in
      let N : Machine = moved_by g G u v M in
      let at_u : N.bits u ≡ x = update_else v y (update u x M.bits) u n ∙ update_at u x M.bits in
      let at_v : N.bits v ≡ y = update_at v y (update u x M.bits) in
      (λ i. record { bits = bits (H.first (at_u i) (at_v i)) (H.second (at_u i) (at_v i)) N.bits; phase = N.phase ⊗ H.by (at_u i) (at_v i) })
      ∙ (λ i. record {
        bits = fun_ext (twice (H.first x y) (H.second x y) x y M.bits) i;
        phase = (assoc M.phase (G.by a b) (H.by x y) ∙ ap (λ (z : Phase). M.phase ⊗ z) (comm (G.by a b) (H.by x y))) i;
      })

-- ---- an accepted gate

-- an accepted answer says that the machine does not refuse
unrefused : (n d long : ℕ) (c : Call) (M : Machine) → machine_answer n d long c M ≡ accepted none → refusal n d long c ≡ 0
unrefused n d long c M = go (refusal n d long c)
  where
    go : (k : ℕ) → cond (eqb k 0) (reply c M) (refused k) ≡ accepted none → k ≡ 0
    go zero e = refl
    go (suc k) e = ap (λ (v : View). v.number) (sym (ap (λ (b : Bool). cond b (reply c M) (refused (suc k))) (eqb-suc-zero k)) ∙ e)

-- its matrix is of binary64 numbers
gate_f64 : {q0 q1 : ℕ} {c : Call} {m : List (List Complex)} → GateOn q0 q1 c m → F64s c → GateF64 m
gate_f64 (by_matrix g work) f = f
gate_f64 (by_name name work) f = fit_entries (matrix_of name) (named_fit name)

module _ (n d long : ℕ) {q0 q1 : ℕ} where
  -- its matrix meets the condition; and a gate that meets it is allowed
  gate_monomial : {c : Call} {m : List (List Complex)} → GateOn q0 q1 c m → T (allowed n d long c) → refusal n d long c ≡ 0 → T (monomial m)
  gate_monomial (by_matrix g work) a z = subst (λ (k : ℕ). T (not (eqb k 0) || monomial g)) z a
  gate_monomial (by_name name work) a z = subst (λ (k : ℕ). T (not (eqb k 0) || monomial (matrix_of name))) z a

  monomial_allowed : {c : Call} {m : List (List Complex)} → GateOn q0 q1 c m → T (monomial m) → T (allowed n d long c)
  monomial_allowed (by_matrix g work) h = or_second (not (eqb (refusal n d long (gate q0 q1 g work)) 0)) (monomial g) h
  monomial_allowed (by_name name work) h = or_second (not (eqb (refusal n d long (named q0 q1 name work)) 0)) (monomial (matrix_of name)) h

  -- its two qubits differ
  distinct : {c : Call} {m : List (List Complex)} → GateOn q0 q1 c m → refusal n d long c ≡ 0 → q0 ≢ q1
  unfolding refusal
  distinct (by_matrix g work) z = (two_qubits n q0 q1 (none_refuses (too_short n d long (length work)) _ false (no_gate g) z).1).2
  distinct (by_name name work) z = (two_qubits n q0 q1 (none_refuses (too_short n d long (length work)) _ false false z).1).2

  -- the machine moves as its matrix does
  machine_moved : {c : Call} {m : List (List Complex)} → GateOn q0 q1 c m → refusal n d long c ≡ 0 → (G : Moves m) (M : Machine) → machine_next n d long c M ≡ moved_by m G q0 q1 M
  unfolding next
  machine_moved (by_matrix g work) z G M = ap (λ (k : ℕ). cond (eqb k 0) (next (gate q0 q1 g work) M) M) z ∙ moved_is g G q0 q1 M
  machine_moved (by_name name work) z G M = ap (λ (k : ℕ). cond (eqb k 0) (next (named q0 q1 name work) M) M) z ∙ moved_is (matrix_of name) G q0 q1 M

-- ---- lists one after the other

answers_append : (xs ys : List Call) (s : State) → answers_of (xs ++ ys) s ≡ answers_of xs s ++ answers_of ys (final_state xs s)
answers_append [] ys s = refl
answers_append (c ∷ xs) ys s = ap (λ (v : List View). answer_of c s ∷ v) (answers_append xs ys (state_of c s))

module _ (n d long : ℕ) where
  machine_append : (xs ys : List Call) (M : Machine) → machine_after n d long (xs ++ ys) M ≡ machine_after n d long ys (machine_after n d long xs M)
  machine_append [] ys M = refl
  machine_append (c ∷ xs) ys M = machine_append xs ys (machine_next n d long c M)

  machine_answers_lem : (xs ys : List Call) (M : Machine) → machine_answers n d long (xs ++ ys) M ≡ machine_answers n d long xs M ++ machine_answers n d long ys (machine_after n d long xs M)
  machine_answers_lem [] ys M = refl
  machine_answers_lem (c ∷ xs) ys M = ap (λ (v : List View). machine_answer n d long c M ∷ v) (machine_answers_lem xs ys (machine_next n d long c M))

  -- what demand 3 asks of a list
  abbrev pub Proper : List Call → Type 0
  Proper cs = AllF64 cs × T (all_allowed n d long cs)

  parted : (xs ys : List Call) → Proper (xs ++ ys) → Proper xs × Proper ys
  parted [] ys p = ((tt, tt), p)
  parted (c ∷ xs) ys p =
      let here = allowed n d long c in
      let later = all_allowed n d long (xs ++ ys) in
      let r = parted xs ys (p.0.1, and_r here later p.1) in
      (((p.0.0, r.0.0), and_i here (all_allowed n d long xs) (and_l here later p.1) r.0.1), r.1)

  pub joined : (xs ys : List Call) → Proper xs → Proper ys → Proper (xs ++ ys)
  joined [] ys p q = q
  joined (c ∷ xs) ys p q =
      let here = allowed n d long c in
      let later = all_allowed n d long xs in
      let r = joined xs ys (p.0.1, and_r here later p.1) q in
      ((p.0.0, r.0), and_i here (all_allowed n d long (xs ++ ys)) (and_l here later p.1) r.1)

-- ---- an accepted run of gates moves the machine as their product

module _ (n d long : ℕ) where
  -- each call is proper and not refused
  abbrev Fine : List Call → Type 0
  Fine [] = Unit
  Fine (c ∷ cs) = (F64s c × T (allowed n d long c) × (refusal n d long c ≡ 0)) × Fine cs

  fine : (cs : List Call) → Proper n d long cs → (M : Machine) → machine_answers n d long cs M ≡ replicate (length cs) (accepted none) → Fine cs
  fine [] p M e = tt
  fine (c ∷ cs) p M e =
      let here = allowed n d long c in
      let later = all_allowed n d long cs in
      ((p.0.0, and_l here later p.1, unrefused n d long c M (head-eq_of_cons-eq e)), fine cs (p.0.1, and_r here later p.1) (machine_next n d long c M) (tail-eq_of_cons-eq e))

  fine_parted : (xs ys : List Call) → Fine (xs ++ ys) → Fine xs × Fine ys
  fine_parted [] ys f = (tt, f)
  fine_parted (c ∷ xs) ys f = let r = fine_parted xs ys f.1 in ((f.0, r.0), r.1)

  module _ (q0 q1 : ℕ) where
    record Moved (cs : List Call) (m : List (List Complex)) : Type 0 where
      apart : q0 ≢ q1
      matrix : Permutes m
      is : (M : Machine) → machine_after n d long cs M ≡ moved_by m matrix.moves q0 q1 M

    moved_in_turn : {cs ds : List Call} {g h : List (List Complex)} → Moved cs g → Moved ds h → Moved (cs ++ ds) (matrix_product h g)
    moved_in_turn {cs} {ds} {g} {h} G H = record {
      apart = G.apart;
      matrix = product_permutes h g H.matrix G.matrix;
      is = λ M. machine_append n d long cs ds M ∙ H.is (machine_after n d long cs M) ∙ ap (moved_by h H.matrix.moves q0 q1) (G.is M)
          ∙ fused h g H.matrix.moves G.matrix.moves q0 q1 G.apart M;
    }

    run_moved : {cs : List Call} {m : List (List Complex)} → Run q0 q1 cs m → Fine cs → Moved cs m
    run_moved (single {c} {m} k) f =
        let z = f.0.2 in
        let G = permutes m (gate_monomial n d long k f.0.1 z) (gate_f64 k f.0.0) in
        record { apart = distinct n d long k z; matrix = G; is = machine_moved n d long k z G.moves }
    run_moved (in_turn_lem {cs} {ds} r q) f = let x = fine_parted cs ds f in moved_in_turn (run_moved r x.0) (run_moved q x.1)

-- ---- the theorem, of a chain s of which demand 3 holds

module _ (n d long : ℕ) (s : State)
    (D : (calls : List Call) → AllF64 calls → T (all_allowed n d long calls)
    → (answers_of calls s ≡ machine_answers n d long calls fresh) × Follows n d (final_state calls s) (machine_after n d long calls fresh)) where
  -- calls ys after calls xs answer as the machine does
  pub answers_after : (xs ys : List Call) → Proper n d long xs → Proper n d long ys → answers_of ys (final_state xs s) ≡ machine_answers n d long ys (machine_after n d long xs fresh)
  answers_after xs ys p q =
      let r = joined n d long xs ys p q in
      append_cancel_left (answers_of xs s) _ _
      (sym (answers_append xs ys s) ∙ (D (xs ++ ys) r.0 r.1).0 ∙ machine_answers_lem n d long xs ys fresh
      ∙ ap (λ (v : List View). v ++ machine_answers n d long ys (machine_after n d long xs fresh)) (sym (D xs p.0 p.1).0))

  replaces : (q0 q1 : ℕ) (run : List Call) (one : Call) (m product : List (List Complex)) → Run q0 q1 run m → GateOn q0 q1 one product → SameGate product m
      → Replaces n d long s run one product
  replaces q0 q1 run one m product r k same before after f fo a er eo =
      let x = parted n d long before (run ++ after) (f, a) in
      let y = parted n d long run after x.1 in
      let M = machine_after n d long before fresh in
      let N = machine_after n d long run M in
      let run_accepted = sym (answers_after before run x.0 y.0) ∙ er in
      let R = run_moved n d long q0 q1 r (fine n d long run y.0 M run_accepted) in
      let P = same_permutes product m (gate_f64 k fo) same R.matrix in
      let again = permutes_monomial product P in
      let ao = monomial_allowed n d long k again in
      let p : Proper n d long (one ∷ []) = ((fo, tt), and_i (allowed n d long one) true ao tt) in
      let one_accepted : machine_answer n d long one M ≡ accepted none = sym (head-eq_of_cons-eq (answers_after before (one ∷ []) x.0 p)) ∙ eo in
      let same_machine : machine_next n d long one M ≡ N = machine_moved n d long k (unrefused n d long one M one_accepted) P.moves M ∙ sym (R.is M) in
      let q = joined n d long before (one ∷ after) x.0 ((fo, y.1.0), and_i (allowed n d long one) (all_allowed n d long after) ao y.1.1) in
      let with_run = D (before ++ (run ++ after)) f a in
      let with_one = D (before ++ (one ∷ after)) q.0 q.1 in
      let first = sym (D before x.0.0 x.0.1).0 in (
        again,
        record {
          others = machine_answers n d long after N;
          run_answers = with_run.0 ∙ machine_answers_lem n d long before (run ++ after) fresh ∙ (λ i. first i ++ machine_answers_lem n d long run after M i)
              ∙ (λ i. answers_of before s ++ (run_accepted i ++ machine_answers n d long after N));
          one_answers = with_one.0 ∙ machine_answers_lem n d long before (one ∷ after) fresh ∙ (λ i. first i ++ (one_accepted i ∷ machine_answers n d long after (same_machine i)));
          run_ends = with_run.1;
          one_ends = subst (Follows n d (final_state (before ++ (one ∷ after)) s))
              (machine_append n d long before (one ∷ after) fresh ∙ ap (machine_after n d long after) same_machine
              ∙ sym (machine_append n d long before (run ++ after) fresh ∙ machine_append n d long run after M)) with_one.1;
        },
      )

pub run_clause : RunClause
unfolding RunClause Demand3
run_clause n d exponent epsilon clamp store E C two five done =
    replaces n d (length store) _ (demand3 n d exponent epsilon clamp store E C two five done)

pub product_clause : ProductClause
unfolding ProductClause RunClause
product_clause n d exponent epsilon clamp store E C two five done q0 q1 c1 c2 one m1 m2 product k1 k2 k =
    run_clause n d exponent epsilon clamp store E C two five done q0 q1 (c1 ∷ c2 ∷ []) one (matrix_product m2 m1) product (in_turn_lem (single k1) (single k2)) k
