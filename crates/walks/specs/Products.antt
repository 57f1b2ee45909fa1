-- The sums of a step over flat indices, in the order of the model's sums. The list `front` holds the environment and, from number `mid` on, the inner sums.
use Rattle.std.specs.Prelude.{ℕ, ◌+◌, ◌*◌, ◌/◌, ◌%◌, cond, List, Float}
use Rattle.complex.specs.Complex.{add_c, mul_c, conj_c, is_zero, zero_c}
use Rattle.complex.specs.Loops.{each, sum_c}
use Rattle.complex.specs.Numbers.{at}
use Rattle.complex.specs.declared.Complex.{Complex}
use Rattle.model.specs.Slots.{amplitude}
use Rattle.model.specs.Environment.{Env, few}

abbrev pub env_of : ℕ → List Float → Env
env_of dim entries = record { dim = dim; entries = entries }

-- z plus e x, unless e is zero
unfoldable pub plus_unless_zero : Complex → Complex → Complex → Complex
plus_unless_zero e x z = cond (is_zero e) z (add_c z (mul_c e x))

-- ---- a left environment across a site

-- z plus the term of the bit i of one environment entry e; both terms, unless the entry is zero
unfoldable pub term_left : ℕ → List Float → ℕ → ℕ → ℕ → ℕ → Complex → ℕ → Complex → Complex
term_left br site a a' g g' e i z = add_c z (mul_c (mul_c e (amplitude site br a i g)) (conj_c (amplitude site br a' i g')))

unfoldable pub cell_left : ℕ → List Float → ℕ → ℕ → ℕ → ℕ → Complex → Complex → Complex
cell_left br site a a' g g' e z = cond (is_zero e) z (each 2 (term_left br site a a' g g' e) z)

unfoldable pub few_left : ℕ → ℕ → List Float → List Float → ℕ → ℕ → Complex
few_left bl br site env g g' = each (bl * bl) (λ k. cell_left br site (k / bl) (k % bl) g g' (at env k)) zero_c

unfoldable pub inner_left : ℕ → ℕ → List Float → List Float → ℕ → ℕ → Complex
inner_left bl br site env a' c = each bl (λ a. plus_unless_zero (at env (a * bl + a')) (at site (a * (2 * br) + c))) zero_c

unfoldable pub many_left : ℕ → ℕ → ℕ → List Float → List Float → ℕ → ℕ → Complex
many_left bl br mid site front g g' = each (bl * 2) (λ r. plus_unless_zero (at front (mid + (r * br + g))) (conj_c (at site (r * br + g')))) zero_c

-- an entry of the new environment
unfoldable pub entry_left : ℕ → ℕ → ℕ → List Float → List Float → ℕ → ℕ → Complex
entry_left bl br mid site front g g' = cond (few bl br) (few_left bl br site front g g') (many_left bl br mid site front g g')

-- ---- a right environment across a site

-- z plus the term of the bit i of one environment entry e; both terms, unless the entry is zero
unfoldable pub term_right : ℕ → List Float → ℕ → ℕ → ℕ → ℕ → Complex → ℕ → Complex → Complex
term_right br site a a' b b' e i z = add_c z (mul_c (mul_c (amplitude site br a i b) (conj_c (amplitude site br a' i b'))) e)

unfoldable pub cell_right : ℕ → List Float → ℕ → ℕ → ℕ → ℕ → Complex → Complex → Complex
cell_right br site a a' b b' e z = cond (is_zero e) z (each 2 (term_right br site a a' b b' e) z)

unfoldable pub few_right : ℕ → List Float → List Float → ℕ → ℕ → Complex
few_right br site env a a' = each (br * br) (λ k. cell_right br site a a' (k / br) (k % br) (at env k)) zero_c

unfoldable pub inner_right : ℕ → List Float → List Float → ℕ → ℕ → Complex
inner_right br site env r b' = sum_c br (λ b. mul_c (at site (r * br + b)) (at env (b * br + b'))) zero_c

unfoldable pub many_right : ℕ → ℕ → List Float → List Float → ℕ → ℕ → Complex
many_right br mid site front a a' = sum_c (2 * br) (λ c. mul_c (at front (mid + (a * (2 * br) + c))) (conj_c (at site (a' * (2 * br) + c)))) zero_c

-- an entry of the new environment
unfoldable pub entry_right : ℕ → ℕ → ℕ → List Float → List Float → ℕ → ℕ → Complex
entry_right bl br mid site front a a' = cond (few bl br) (few_right br site front a a') (many_right br mid site front a a')
