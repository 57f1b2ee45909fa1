-- The test `sound` of a chain record and the propositions of `Statements/Soundness` are equivalent.
use Prim.Native.Nat.{ℕ, ◌+◌, ◌-◌, ◌≤◌, ◌<◌}
use Rattle.std.specs.Prelude.{◌≡◌, refl, ◌&&◌, ◌||◌, List, leb, length, get_or, Float, Option, None, Some}
use Rattle.std.proofs.Math.Bool.{Bool}
use Rattle.std.proofs.Math.Logic.{⊎_elim}
use Rattle.std.proofs.Common.{arith, le→leb, lt→ltb}
use Rattle.std.proofs.Math.Dec.{T, ltb, eqb, leb→le, ltb→lt, eqb→eq}
use Rattle.std.proofs.Math.ListN.{get_or-eq_default}
use Rattle.std.specs.Float.{nan, binary64}
use Rattle.std.specs.Float.Ieee.{le, lt, to_bits}
use Rattle.std.specs.Float.Ieee.Fits.{and_l, and_r, and_i, eq→eqb}
use Rattle.complex.specs.Complex.{zero_f, one_f}
use Rattle.complex.specs.Loops.{every, every_at, every_of}
use Rattle.model.specs.declared.Chain.{Chain}
use Rattle.model.specs.Chain.{bond_left, bond_right}
use Rattle.model.specs.Sound.{within, share01, settings_fit, entry_fits, bonds_fit, undoes, center_fits, discarded_fits, sized, sound}
use Rattle.model.specs.Statements.Soundness.{Settings, Bonds, Undone, Sized, Sound}
use Rattle.model.proofs.Laws.Tests.{below_or_past, or_first, or_second, or_test}

-- ---- tests and facts

-- a conjunction of five tests, of six, and of eight
module _ (a b c d e : Bool) where
  five : T (a && b && c && d && e) → T a × T b × T c × T d × T e
  five h =
      let h4 = and_l (a && b && c && d) e h in
      let h3 = and_l (a && b && c) d h4 in
      let h2 = and_l (a && b) c h3 in
      (and_l a b h2, and_r a b h2, and_r (a && b) c h3, and_r (a && b && c) d h4, and_r (a && b && c && d) e h)

  of_five : T a → T b → T c → T d → T e → T (a && b && c && d && e)
  of_five ha hb hc hd he = and_i (a && b && c && d) e (and_i (a && b && c) d (and_i (a && b) c (and_i a b ha hb) hc) hd) he

  module _ (f : Bool) where
    six : T (a && b && c && d && e && f) → T a × T b × T c × T d × T e × T f
    six h =
        let t = five (and_l (a && b && c && d && e) f h) in
        (t.0, t.1, t.2, t.3, t.4, and_r (a && b && c && d && e) f h)

    of_six : T a → T b → T c → T d → T e → T f → T (a && b && c && d && e && f)
    of_six ha hb hc hd he hf = and_i (a && b && c && d && e) f (of_five ha hb hc hd he) hf

    module _ (g k : Bool) where
      eight : T (a && b && c && d && e && f && g && k) → T a × T b × T c × T d × T e × T f × T g × T k
      eight h =
          let h7 = and_l (a && b && c && d && e && f && g) k h in
          let t = six (and_l (a && b && c && d && e && f) g h7) in
          (t.0, t.1, t.2, t.3, t.4, t.5, and_r (a && b && c && d && e && f) g h7, and_r (a && b && c && d && e && f && g) k h)

      of_eight : T a → T b → T c → T d → T e → T f → T g → T k → T (a && b && c && d && e && f && g && k)
      of_eight ha hb hc hd he hf hg hk = and_i (a && b && c && d && e && f && g) k (and_i (a && b && c && d && e && f) g (of_six ha hb hc hd he hf) hg) hk

within_range : (low high x : ℕ) → T (within low high x) → (low ≤ x) × (x ≤ high)
within_range low high x h = (leb→le low x (and_l (leb low x) (leb x high) h), leb→le x high (and_r (leb low x) (leb x high) h))

range_within : (low high x : ℕ) → (low ≤ x) × (x ≤ high) → T (within low high x)
range_within low high x h = and_i (leb low x) (leb x high) (le→leb low x h.0) (le→leb x high h.1)

share_range : (x : Float) → T (share01 x) → T (le zero_f x) × T (lt x one_f)
share_range x h = (and_l (le zero_f x) (lt x one_f) h, and_r (le zero_f x) (lt x one_f) h)

range_share : (x : Float) → T (le zero_f x) × T (lt x one_f) → T (share01 x)
range_share x h = and_i (le zero_f x) (lt x one_f) h.0 h.1

-- ---- the settings

module _ (n d : ℕ) (epsilon clamp : Float) (exponent : ℕ) where
  pub settings_facts : T (settings_fit n d epsilon clamp exponent) → Settings n d epsilon clamp exponent
  unfolding settings_fit
  settings_facts h =
      let t = five (within 1 64 n) (within 1 128 d) (share01 epsilon) (share01 clamp) (leb exponent 255) h in
      record {
        qubits = within_range 1 64 n t.0;
        cap = within_range 1 128 d t.1;
        epsilon_range = share_range epsilon t.2;
        clamp_range = share_range clamp t.3;
        exponent_range = leb→le exponent 255 t.4;
      }

  pub facts_settings : Settings n d epsilon clamp exponent → T (settings_fit n d epsilon clamp exponent)
  unfolding settings_fit
  facts_settings h =
      of_five (within 1 64 n) (within 1 128 d) (share01 epsilon) (share01 clamp) (leb exponent 255)
      (range_within 1 64 n h.qubits) (range_within 1 128 d h.cap) (range_share epsilon h.epsilon_range) (range_share clamp h.clamp_range) (le→leb exponent 255 h.exponent_range)

-- ---- bonds and maps

-- an entry within the chain passes its test, and one past the chain is 0
module _ (n : ℕ) (xs : List ℕ) (p : ℕ → Bool) (i : ℕ) where
  entry_within : T (entry_fits n xs p i) → i < n → T (p (get_or xs i 0))
  entry_within h l = or_test (leb n i) (p (get_or xs i 0)) (and_l (leb n i || p (get_or xs i 0)) _ h) (λ t. let m = leb→le n i t in omega arith)

  entry_past : T (entry_fits n xs p i) → n ≤ i → get_or xs i 0 ≡ 0
  entry_past h l = eqb→eq (get_or xs i 0) 0 (or_test (ltb i n) _ (and_r (leb n i || p (get_or xs i 0)) _ h) (λ t. let m = ltb→lt i n t in omega arith))

  entry_fits_lem : (i < n → T (p (get_or xs i 0))) → (n ≤ i → get_or xs i 0 ≡ 0) → T (entry_fits n xs p i)
  entry_fits_lem inside outside = ⊎_elim
      (λ (l : i < n). and_i (leb n i || p (get_or xs i 0)) _ (or_second (leb n i) _ (inside l)) (or_first (ltb i n) _ (lt→ltb i n l)))
      (λ (l : n ≤ i). and_i (leb n i || p (get_or xs i 0)) _ (or_first (leb n i) _ (le→leb n i l)) (or_second (ltb i n) _ (eq→eqb (outside l))))
      (below_or_past i n)

-- a list of 64 entries that are 0 from n on up to 64 is 0 from n on
past_all : (n : ℕ) (xs : List ℕ) → length xs ≡ 64 → ((i : ℕ) → i < 64 → n ≤ i → get_or xs i 0 ≡ 0) → (i : ℕ) → n ≤ i → get_or xs i 0 ≡ 0
past_all n xs e h i l = ⊎_elim (λ (m : i < 64). h i m l) (λ (m : 64 ≤ i). get_or-eq_default xs 0 (omega arith)) (below_or_past i 64)

module _ (c : Chain) where
  abbrev range : ℕ → Bool
  range = within 1 c.bond_high_water

  abbrev agree : ℕ → Bool
  agree i = leb c.num_qubits (i + 1) || eqb (bond_right c i) (bond_left c (i + 1))

  abbrev left_fits : ℕ → Bool
  left_fits = entry_fits c.num_qubits c.bond_left range

  abbrev right_fits : ℕ → Bool
  right_fits = entry_fits c.num_qubits c.bond_right range

  bonds_facts : c.num_qubits ≤ 64 → Sized c → T (bonds_fit c) → Bonds c.num_qubits c.bond_high_water c.bond_left c.bond_right
  unfolding bonds_fit
  bonds_facts most z h =
      let n = c.num_qubits in
      let t = five (eqb (bond_left c 0) 1) (eqb (bond_right c (n - 1)) 1) (every 63 agree) (every 64 left_fits) (every 64 right_fits) h in
      record {
        first = eqb→eq (bond_left c 0) 1 t.0;
        last = eqb→eq (bond_right c (n - 1)) 1 t.1;
        neighbours = λ i l. eqb→eq (bond_right c i) (bond_left c (i + 1)) (or_test (leb n (i + 1)) _ (every_at 63 agree i (omega arith) t.2) (λ m. let m' = leb→le n (i + 1) m in omega arith));
        left_range = λ k l. within_range 1 c.bond_high_water _ (entry_within n c.bond_left range k (every_at 64 left_fits k (omega arith) t.3) l);
        right_range = λ k l. within_range 1 c.bond_high_water _ (entry_within n c.bond_right range k (every_at 64 right_fits k (omega arith) t.4) l);
        left_past = past_all n c.bond_left z.lefts (λ i m. entry_past n c.bond_left range i (every_at 64 left_fits i m t.3));
        right_past = past_all n c.bond_right z.rights (λ i m. entry_past n c.bond_right range i (every_at 64 right_fits i m t.4));
      }

  facts_bonds : Bonds c.num_qubits c.bond_high_water c.bond_left c.bond_right → T (bonds_fit c)
  unfolding bonds_fit
  facts_bonds h =
      let n = c.num_qubits in
      of_five (eqb (bond_left c 0) 1) (eqb (bond_right c (n - 1)) 1) (every 63 agree) (every 64 left_fits) (every 64 right_fits)
      (eq→eqb h.first)
      (eq→eqb h.last)
      (every_of 63 agree (λ i l. ⊎_elim
      (λ (m : i + 1 < n). or_second (leb n (i + 1)) _ (eq→eqb (h.neighbours i m)))
      (λ (m : n ≤ i + 1). or_first (leb n (i + 1)) _ (le→leb n (i + 1) m))
      (below_or_past (i + 1) n)))
      (every_of 64 left_fits (λ k l. entry_fits_lem n c.bond_left range k (λ m. range_within 1 c.bond_high_water _ (h.left_range k m)) (h.left_past k)))
      (every_of 64 right_fits (λ k l. entry_fits_lem n c.bond_right range k (λ m. range_within 1 c.bond_high_water _ (h.right_range k m)) (h.right_past k)))

module _ (n : ℕ) (there back : List ℕ) where
  undone_facts : n ≤ 64 → length there ≡ 64 → T (undoes n there back) → Undone n there back
  unfolding undoes
  undone_facts most e h =
      let goes : ℕ → ℕ → Bool = λ i s. ltb s n && eqb (get_or back s 0) i in
      let fits : ℕ → Bool = λ i. entry_fits n there (goes i) i in
      let inside : (i : ℕ) → i < n → T (goes i (get_or there i 0)) = λ i l. entry_within n there (goes i) i (every_at 64 fits i (omega arith) h) l in
      record {
        below = λ i l. ltb→lt _ n (and_l (ltb (get_or there i 0) n) _ (inside i l));
        undone = λ i l. eqb→eq _ i (and_r (ltb (get_or there i 0) n) _ (inside i l));
        past = past_all n there e (λ i m. entry_past n there (goes i) i (every_at 64 fits i m h));
      }

  facts_undone : Undone n there back → T (undoes n there back)
  unfolding undoes
  facts_undone h =
      let goes : ℕ → ℕ → Bool = λ i s. ltb s n && eqb (get_or back s 0) i in
      every_of 64 (λ i. entry_fits n there (goes i) i)
      (λ i m. entry_fits_lem n there (goes i) i (λ l. and_i (ltb (get_or there i 0) n) _ (lt→ltb _ n (h.below i l)) (eq→eqb (h.undone i l))) (h.past i))

centre_facts : (at : Option ℕ) (n : ℕ) → T (center_fits at n) → (k : ℕ) → at ≡ Some k → k < n
centre_facts at n h k e = ltb→lt k n (rw e at h)

facts_centre : (at : Option ℕ) (n : ℕ) → ((k : ℕ) → at ≡ Some k → k < n) → T (center_fits at n)
facts_centre None n h = tt
facts_centre (Some k) n h = lt→ltb k n (h k refl)

-- the discarded weights past the last bond
module _ (n : ℕ) (xs : List Float) where
  abbrev entry_free : ℕ → Bool
  entry_free k = ltb (k + 1) n || eqb (to_bits binary64 (get_or xs k nan)) 0

  discarded_facts : T (discarded_fits n xs) → (k : ℕ) → n ≤ k + 1 → k < 63 → to_bits binary64 (get_or xs k nan) ≡ 0
  unfolding discarded_fits
  discarded_facts h k l m = eqb→eq _ 0 (or_test (ltb (k + 1) n) _ (every_at 63 entry_free k m h) (λ t. let b = ltb→lt (k + 1) n t in omega arith))

  facts_discarded : ((k : ℕ) → n ≤ k + 1 → k < 63 → to_bits binary64 (get_or xs k nan) ≡ 0) → T (discarded_fits n xs)
  unfolding discarded_fits
  facts_discarded h = every_of 63 entry_free (λ k m. ⊎_elim
      (λ (l : k + 1 < n). or_first (ltb (k + 1) n) _ (lt→ltb (k + 1) n l))
      (λ (l : n ≤ k + 1). or_second (ltb (k + 1) n) _ (eq→eqb (h k l m)))
      (below_or_past (k + 1) n))

module _ (c : Chain) where
  abbrev long : {A : Type 0} → List A → Bool
  long xs = eqb (length xs) 64

  sized_facts : T (sized c) → Sized c
  unfolding sized
  sized_facts h =
      let t = six (long c.bond_left) (long c.bond_right) (long c.logical_to_site) (long c.site_to_logical) (long c.classical_bits) (eqb (length c.bond_discarded) 63) h in
      record {
        lefts = eqb→eq _ 64 t.0;
        rights = eqb→eq _ 64 t.1;
        sites = eqb→eq _ 64 t.2;
        qubits = eqb→eq _ 64 t.3;
        bits = eqb→eq _ 64 t.4;
        by_bond = eqb→eq _ 63 t.5;
      }

  facts_sized : Sized c → T (sized c)
  unfolding sized
  facts_sized h =
      of_six (long c.bond_left) (long c.bond_right) (long c.logical_to_site) (long c.site_to_logical) (long c.classical_bits) (eqb (length c.bond_discarded) 63)
      (eq→eqb h.lefts) (eq→eqb h.rights) (eq→eqb h.sites) (eq→eqb h.qubits) (eq→eqb h.bits) (eq→eqb h.by_bond)

  -- ---- the test passes exactly where the propositions hold

  abbrev settings_test : Bool
  settings_test = settings_fit c.num_qubits c.max_bond_dim c.svd_epsilon c.norm_clamp_min c.workspace_exponent

  abbrev water_test : Bool
  water_test = within 1 c.max_bond_dim c.bond_high_water

  abbrev sites_test : Bool
  sites_test = undoes c.num_qubits c.logical_to_site c.site_to_logical

  abbrev qubits_test : Bool
  qubits_test = undoes c.num_qubits c.site_to_logical c.logical_to_site

  abbrev discarded_test : Bool
  discarded_test = discarded_fits c.num_qubits c.bond_discarded

  pub sound_facts : T (sound c) → Sound c
  unfolding sound
  sound_facts h =
      let t = eight settings_test water_test (bonds_fit c) sites_test qubits_test (center_fits c.center c.num_qubits) discarded_test (sized c) h in
      let settings = settings_facts c.num_qubits c.max_bond_dim c.svd_epsilon c.norm_clamp_min c.workspace_exponent t.0 in
      let most : c.num_qubits ≤ 64 = settings.qubits.1 in
      let z = sized_facts t.7 in
      record {
        settings = settings;
        high_water = within_range 1 c.max_bond_dim c.bond_high_water t.1;
        bonds = bonds_facts c most z t.2;
        sites = undone_facts c.num_qubits c.logical_to_site c.site_to_logical most z.sites t.3;
        qubits = undone_facts c.num_qubits c.site_to_logical c.logical_to_site most z.qubits t.4;
        centre = centre_facts c.center c.num_qubits t.5;
        past_last_bond = discarded_facts c.num_qubits c.bond_discarded t.6;
        sizes = z;
      }

  pub facts_sound : Sound c → T (sound c)
  unfolding sound
  facts_sound h =
      of_eight settings_test water_test (bonds_fit c) sites_test qubits_test (center_fits c.center c.num_qubits) discarded_test (sized c)
      (facts_settings c.num_qubits c.max_bond_dim c.svd_epsilon c.norm_clamp_min c.workspace_exponent h.settings)
      (range_within 1 c.max_bond_dim c.bond_high_water h.high_water)
      (facts_bonds c h.bonds)
      (facts_undone c.num_qubits c.logical_to_site c.site_to_logical h.sites)
      (facts_undone c.num_qubits c.site_to_logical c.logical_to_site h.qubits)
      (facts_centre c.center c.num_qubits h.centre)
      (facts_discarded c.num_qubits c.bond_discarded h.past_last_bond)
      (facts_sized h.sizes)

-- ---- no bond is above the cap

module _ (c : Chain) (h : Sound c) (k : ℕ) (l : k < c.num_qubits) where
  pub left_most : bond_left c k ≤ c.max_bond_dim
  left_most = omega (arith, (h.bonds.left_range k l).1, h.high_water.1)

  pub right_most : bond_right c k ≤ c.max_bond_dim
  right_most = omega (arith, (h.bonds.right_range k l).1, h.high_water.1)
