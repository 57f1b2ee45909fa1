-- A step's sums are those of the model, and the numbers that are copied to the front are the new environment's.
use Rattle.std.specs.Prelude.{◌≡◌, Float}
use Rattle.std.proofs.Common.{sym, ◌∙◌, mul-le-mul_right, arith, le-leb}
use Rattle.std.proofs.Math.Path.{ap}
use mathlib.Core.List.{List}
use Prim.Native.Nat.{ℕ, ◌+◌, ◌*◌, ◌/◌, ◌%◌, ◌≤◌, ◌<◌}
use Rattle.std.proofs.lemmas.Bool.{lt-leb}
use Rattle.std.proofs.Math.ListN.{length, take}
use Rattle.complex.specs.Complex.{add_c, mul_c, conj_c, zero_c}
use Rattle.complex.specs.Loops.{each_agree, each_each, each_more}
use Rattle.complex.specs.Numbers.{count, at, store, stores, numbers, numbers_same, take_store, length_stores, at_take, at_area}
use Rattle.complex.specs.Matrix.{rows, rows_same, cell_below, quotient, remainder, numbers_flat}
use Rattle.complex.specs.declared.Complex.{Complex}
use Rattle.model.specs.Environment.{Env, left_few, left_inner, left_many, left_across, right_few, right_inner, right_many, right_across}
use Rattle.walks.specs.Products.{env_of, plus_unless_zero, term_left, cell_left, few_left, inner_left, many_left, entry_left, term_right, cell_right, few_right, inner_right, many_right, entry_right}

-- ---- one number more of an area from `to` on, which is computed from what lies before it

pub area_more : (to k : ℕ) (f : List Float → ℕ → Complex) (w₀ w w' : List Float) (z : Complex) → take (2 * to) w ≡ take (2 * to) w₀ → w ≡ stores k (λ i. to + i) (f (take (2 * to) w₀)) w₀
    → z ≡ f (take (2 * to) w) k → w' ≡ store w (to + k) z → (take (2 * to) w' ≡ take (2 * to) w₀) × (w' ≡ stores (k + 1) (λ i. to + i) (f (take (2 * to) w₀)) w₀)
area_more to k f w₀ w w' z t s v e = (rw e (take_store (2 * to) (to + k) z w (omega arith) ∙ t), rw (each_more, e, v, t, ← s))

-- ---- the left environment's sums

few_left_lem : (bl br : ℕ) (site env front : List Float) (g g' : ℕ) → ((k : ℕ) → k < bl * bl → at front k ≡ at env k) → few_left bl br site front g g' ≡ left_few bl br site (env_of bl env) g g'
unfolding few_left cell_left term_left
few_left_lem bl br site env front g g' same =
    sym (each_each bl bl (λ k. cell_left br site (k / bl) (k % bl) g g' (at front k)) zero_c)
    ∙ each_agree bl _ _ zero_c (λ a z m. each_agree bl _ _ z (λ a' y l. rw (quotient bl a a' l, remainder bl a a' l, same (a * bl + a') (cell_below bl bl a a' l m))))

inner_left_lem : (bl br : ℕ) (site env : List Float) (a' i g : ℕ) → inner_left bl br site env a' (i * br + g) ≡ left_inner bl br site (env_of bl env) a' i g
unfolding inner_left plus_unless_zero
inner_left_lem bl br site env a' i g = each_agree bl _ _ zero_c (λ a z _. let e : a * (2 * br) + (i * br + g) ≡ a * (2 * br) + i * br + g = omega arith in rw e)

many_left_lem : (bl br mid : ℕ) (site env front : List Float) (g g' : ℕ) → g < br
    → ((k : ℕ) → k < bl * (2 * br) → at front (mid + k) ≡ inner_left bl br site env (k / (2 * br)) (k % (2 * br)))
    → many_left bl br mid site front g g' ≡ left_many bl br site (env_of bl env) g g'
unfolding many_left plus_unless_zero
many_left_lem bl br mid site env front g g' h inner =
    sym (each_each bl 2 (λ r. plus_unless_zero (at front (mid + (r * br + g))) (conj_c (at site (r * br + g')))) zero_c)
    ∙ each_agree bl _ _ zero_c (λ a' z l. each_agree 2 _ _ z (λ i y m.
    let k : (a' * 2 + i) * br + g ≡ a' * (2 * br) + (i * br + g) = omega arith in
    let s : (a' * 2 + i) * br + g' ≡ a' * (2 * br) + i * br + g' = omega arith in
    let c : i * br + g < 2 * br = omega (arith, mul-le-mul_right br m) in
    let v : at front (mid + (a' * (2 * br) + (i * br + g))) ≡ left_inner bl br site (env_of bl env) a' i g
    = inner (a' * (2 * br) + (i * br + g)) (omega (arith, mul-le-mul_right (2 * br) l)) ∙ rw (quotient (2 * br) a' (i * br + g) c, remainder (2 * br) a' (i * br + g) c) (inner_left_lem bl br site env a' i g) in
    rw (k, s, v)))

-- ---- the right environment's sums

few_right_lem : (bl br : ℕ) (site env front : List Float) (a a' : ℕ) → ((k : ℕ) → k < br * br → at front k ≡ at env k) → few_right br site front a a' ≡ right_few bl br site (env_of br env) a a'
unfolding few_right cell_right term_right
few_right_lem bl br site env front a a' same =
    sym (each_each br br (λ k. cell_right br site a a' (k / br) (k % br) (at front k)) zero_c)
    ∙ each_agree br _ _ zero_c (λ b z m. each_agree br _ _ z (λ b' y l. rw (quotient br b b' l, remainder br b b' l, same (b * br + b') (cell_below br br b b' l m))))

inner_right_lem : (br : ℕ) (site env : List Float) (a i b' : ℕ) → inner_right br site env (a * 2 + i) b' ≡ right_inner br site (env_of br env) a i b'
unfolding inner_right
inner_right_lem br site env a i b' = each_agree br _ _ zero_c (λ b z _. let e : (a * 2 + i) * br + b ≡ a * (2 * br) + i * br + b = omega arith in rw e)

many_right_lem : (bl br mid : ℕ) (site env front : List Float) (a a' : ℕ) → a < bl
    → ((k : ℕ) → k < 2 * bl * br → at front (mid + k) ≡ inner_right br site env (k / br) (k % br))
    → many_right br mid site front a a' ≡ right_many bl br site (env_of br env) a a'
unfolding many_right
many_right_lem bl br mid site env front a a' h inner =
    sym (each_each 2 br (λ c z. add_c z (mul_c (at front (mid + (a * (2 * br) + c))) (conj_c (at site (a' * (2 * br) + c))))) zero_c)
    ∙ each_agree 2 _ _ zero_c (λ i z l. each_agree br _ _ z (λ b' y m.
    let k : a * (2 * br) + (i * br + b') ≡ (a * 2 + i) * br + b' = omega arith in
    let s : a' * (2 * br) + (i * br + b') ≡ a' * (2 * br) + i * br + b' = omega arith in
    let j : a * 2 + i < 2 * bl = omega arith in
    let v : at front (mid + ((a * 2 + i) * br + b')) ≡ right_inner br site (env_of br env) a i b'
    = inner ((a * 2 + i) * br + b') (omega (arith, mul-le-mul_right br j)) ∙ rw (quotient br (a * 2 + i) b' m, remainder br (a * 2 + i) b' m) (inner_right_lem br site env a i b') in
    rw (k, s, v)))

-- ---- the new environment: what is copied to the front, from behind the inner sums

area_rows : (n to : ℕ) (f : ℕ → ℕ → Complex) (w : List Float) → to + n * n ≤ count w
    → numbers (n * n) (λ k. at (stores (n * n) (λ k. to + k) (λ k. f (k / n) (k % n)) w) (to + k)) ≡ rows n (λ r. numbers n (λ c. f r c))
area_rows n to f w room = numbers_same (n * n) _ _ (λ k l. at_area (n * n) to (λ k. f (k / n) (k % n)) w k room l) ∙ numbers_flat n n f

-- the first n numbers of a longer front
front_same : (n to : ℕ) (w : List Float) → n ≤ to → (k : ℕ) → k < n → at (take (2 * to) w) k ≡ at (take (2 * n) w) k
front_same n to w h k l = at_take (2 * to) k w (omega arith) ∙ sym (at_take (2 * n) k w (omega arith))

module _ (bl br : ℕ) (site w : List Float) where
  pub left_few_copied : (w₁ w₂ : List Float) → bl * br ≤ 4 → bl * bl + bl * (2 * br) + br * br ≤ count w → w₁ ≡ w
      → w₂ ≡ stores (br * br) (λ k. bl * bl + bl * (2 * br) + k) (λ k. entry_left bl br (bl * bl) site (take (2 * (bl * bl + bl * (2 * br))) w₁) (k / br) (k % br)) w₁
      → numbers (br * br) (λ k. at w₂ (bl * bl + bl * (2 * br) + k)) ≡ (left_across bl br site (env_of bl (take (2 * (bl * bl)) w))).entries
  unfolding left_across entry_left
  left_few_copied w₁ w₂ h room e₁ e₂ =
      let to = bl * bl + bl * (2 * br) in
      rw (e₂, e₁)
      (area_rows br to (entry_left bl br (bl * bl) site (take (2 * to) w)) w room
      ∙ rows_same br _ _ (λ g _. numbers_same br _ _ (λ g' _. rw (le-leb (bl * br) 4 h) (few_left_lem bl br site _ (take (2 * to) w) g g' (front_same (bl * bl) to w (omega arith))))))

  pub left_many_copied : (w₁ w₂ : List Float) → 4 < bl * br → bl * bl + bl * (2 * br) + br * br ≤ count w
      → w₁ ≡ stores (bl * (2 * br)) (λ k. bl * bl + k) (λ k. inner_left bl br site (take (2 * (bl * bl)) w) (k / (2 * br)) (k % (2 * br))) w
      → w₂ ≡ stores (br * br) (λ k. bl * bl + bl * (2 * br) + k) (λ k. entry_left bl br (bl * bl) site (take (2 * (bl * bl + bl * (2 * br))) w₁) (k / br) (k % br)) w₁
      → numbers (br * br) (λ k. at w₂ (bl * bl + bl * (2 * br) + k)) ≡ (left_across bl br site (env_of bl (take (2 * (bl * bl)) w))).entries
  unfolding left_across entry_left
  left_many_copied w₁ w₂ h room e₁ e₂ =
      let mid = bl * bl in
      let to = mid + bl * (2 * br) in
      let env = take (2 * mid) w in
      let inner : ℕ → Complex = λ k. inner_left bl br site env (k / (2 * br)) (k % (2 * br)) in
      let l : length w₁ ≡ length w = ap length e₁ ∙ length_stores (bl * (2 * br)) (λ k. mid + k) inner w in
      let held : (k : ℕ) → k < bl * (2 * br) → at (take (2 * to) w₁) (mid + k) ≡ inner k
      = λ k m. at_take (2 * to) (mid + k) w₁ (omega arith) ∙ ap (λ (ws : List Float). at ws (mid + k)) e₁ ∙ at_area (bl * (2 * br)) mid inner w k (omega arith) m in
      rw e₂
      (area_rows br to (entry_left bl br mid site (take (2 * to) w₁)) w₁ (omega arith)
      ∙ rows_same br _ _ (λ g m. numbers_same br _ _ (λ g' _. rw (lt-leb (bl * br) 4 h) (many_left_lem bl br mid site env (take (2 * to) w₁) g g' m held))))

  pub right_few_copied : (w₁ w₂ : List Float) → bl * br ≤ 4 → br * br + 2 * bl * br + bl * bl ≤ count w → w₁ ≡ w
      → w₂ ≡ stores (bl * bl) (λ k. br * br + 2 * bl * br + k) (λ k. entry_right bl br (br * br) site (take (2 * (br * br + 2 * bl * br)) w₁) (k / bl) (k % bl)) w₁
      → numbers (bl * bl) (λ k. at w₂ (br * br + 2 * bl * br + k)) ≡ (right_across bl br site (env_of br (take (2 * (br * br)) w))).entries
  unfolding right_across entry_right
  right_few_copied w₁ w₂ h room e₁ e₂ =
      let to = br * br + 2 * bl * br in
      rw (e₂, e₁)
      (area_rows bl to (entry_right bl br (br * br) site (take (2 * to) w)) w room
      ∙ rows_same bl _ _ (λ a _. numbers_same bl _ _ (λ a' _. rw (le-leb (bl * br) 4 h) (few_right_lem bl br site _ (take (2 * to) w) a a' (front_same (br * br) to w (omega arith))))))

  pub right_many_copied : (w₁ w₂ : List Float) → 4 < bl * br → br * br + 2 * bl * br + bl * bl ≤ count w
      → w₁ ≡ stores (2 * bl * br) (λ k. br * br + k) (λ k. inner_right br site (take (2 * (br * br)) w) (k / br) (k % br)) w
      → w₂ ≡ stores (bl * bl) (λ k. br * br + 2 * bl * br + k) (λ k. entry_right bl br (br * br) site (take (2 * (br * br + 2 * bl * br)) w₁) (k / bl) (k % bl)) w₁
      → numbers (bl * bl) (λ k. at w₂ (br * br + 2 * bl * br + k)) ≡ (right_across bl br site (env_of br (take (2 * (br * br)) w))).entries
  unfolding right_across entry_right
  right_many_copied w₁ w₂ h room e₁ e₂ =
      let mid = br * br in
      let to = mid + 2 * bl * br in
      let env = take (2 * mid) w in
      let inner : ℕ → Complex = λ k. inner_right br site env (k / br) (k % br) in
      let l : length w₁ ≡ length w = ap length e₁ ∙ length_stores (2 * bl * br) (λ k. mid + k) inner w in
      let held : (k : ℕ) → k < 2 * bl * br → at (take (2 * to) w₁) (mid + k) ≡ inner k
      = λ k m. at_take (2 * to) (mid + k) w₁ (omega arith) ∙ ap (λ (ws : List Float). at ws (mid + k)) e₁ ∙ at_area (2 * bl * br) mid inner w k (omega arith) m in
      rw e₂
      (area_rows bl to (entry_right bl br mid site (take (2 * to) w₁)) w₁ (omega arith)
      ∙ rows_same bl _ _ (λ a m. numbers_same bl _ _ (λ a' _. rw (lt-leb (bl * br) 4 h) (many_right_lem bl br mid site env (take (2 * to) w₁) a a' m held))))

-- ---- a list of the new entries is the new environment, where the next step begins

module _ (bl br : ℕ) (site xs : List Float) (e : Env) where
  pub left_env_lem : xs ≡ (left_across bl br site e).entries → env_of br xs ≡ left_across bl br site e
  unfolding left_across
  left_env_lem p i = record { dim = br; entries = p i }

  pub right_env_lem : xs ≡ (right_across bl br site e).entries → env_of bl xs ≡ right_across bl br site e
  unfolding right_across
  right_env_lem p i = record { dim = bl; entries = p i }
