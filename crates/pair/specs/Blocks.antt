-- Blocks: the four elements (i, j) of one left index a and one right index b, how they are summed and mixed, and where they are stored.
use Rattle.std.specs.Prelude.{ℕ, ◌+◌, ◌*◌, ◌/◌, ◌%◌, Bool, cond, List, [], get_or, Float}
use Rattle.complex.specs.Complex.{add_c, mul_c, conj_c, zero_c}
use Rattle.complex.specs.Loops.{each, sum_c}
use Rattle.complex.specs.Numbers.{at, store, stores}
use Rattle.complex.specs.declared.Complex.{Complex}
use Rattle.gates.specs.Gate.{number}
use Rattle.model.specs.Pair.{gated_theta}
use Rattle.pair.specs.declared.Block.{Block}

abbrev pub block_of : (ℕ → ℕ → Complex) → Block
block_of f = record { e00 = f 0 0; e01 = f 0 1; e10 = f 1 0; e11 = f 1 1 }

-- Σ over g < n of left's number lo + g times right's number g * step + ro
unfoldable pub dot_of : List Float → ℕ → List Float → ℕ → ℕ → ℕ → Complex
dot_of left lo right step ro n = sum_c n (λ g. mul_c (at left (lo + g)) (at right (g * step + ro))) zero_c

unfoldable pub dots_of : List Float → ℕ → ℕ → List Float → ℕ → ℕ → ℕ → ℕ → Block
dots_of left l0 l1 right step r0 r1 n = record {
  e00 = dot_of left l0 right step r0 n;
  e01 = dot_of left l0 right step r1 n;
  e10 = dot_of left l1 right step r0 n;
  e11 = dot_of left l1 right step r1 n;
}

-- one more term of the four sums
unfoldable pub grown : Block → Complex → Complex → Complex → Complex → Block
grown t x0 x1 y0 y1 = record {
  e00 = add_c t.e00 (mul_c x0 y0);
  e01 = add_c t.e01 (mul_c x0 y1);
  e10 = add_c t.e10 (mul_c x1 y0);
  e11 = add_c t.e11 (mul_c x1 y1);
}

-- a row of the gate times the four elements, and the gate on them
unfoldable pub mix_of : List Complex → Block → Complex
mix_of row t =
    add_c (add_c (add_c (add_c zero_c (mul_c (number row 0) t.e00)) (mul_c (number row 1) t.e01)) (mul_c (number row 2) t.e10)) (mul_c (number row 3) t.e11)

unfoldable pub mixed_of : List (List Complex) → Block → Block
mixed_of gate t = record {
  e00 = mix_of (get_or gate 0 []) t;
  e01 = mix_of (get_or gate 1 []) t;
  e10 = mix_of (get_or gate 2 []) t;
  e11 = mix_of (get_or gate 3 []) t;
}

unfoldable pub conjugated : Block → Block
conjugated t = record { e00 = conj_c t.e00; e01 = conj_c t.e01; e10 = conj_c t.e10; e11 = conj_c t.e11 }

unfoldable pub gated_block : List (List Complex) → ℕ → ℕ → List Float → List Float → ℕ → ℕ → Block
gated_block gate mid br left right a b = block_of (λ i j. gated_theta gate mid br left right a i j b)

-- the block's elements in ys: i steps by si from base on, and j by sj
unfoldable pub stored : ℕ → ℕ → ℕ → Block → List Float → List Float
stored base si sj t ys = store (store (store (store ys base t.e00) (base + sj) t.e01) (base + si) t.e10) (base + si + sj) t.e11

-- places of the element (a, i, j, b): row a * 2 + i and column j * br + b of a matrix of 2 * bl rows, and of its transpose
abbrev pub straight_place : ℕ → ℕ → ℕ → ℕ → ℕ → ℕ → ℕ
straight_place bl br a i j b = (j * br + b) * (2 * bl) + (a * 2 + i)

abbrev pub adjoint_place : ℕ → ℕ → ℕ → ℕ → ℕ → ℕ
adjoint_place br a i j b = (a * 2 + i) * (2 * br) + (j * br + b)

abbrev pub adjoint : (ℕ → ℕ → ℕ → ℕ → Complex) → ℕ → ℕ → ℕ → ℕ → Complex
adjoint f a i j b = conj_c (f a i j b)

-- the places and the elements of the conjugate transpose, or of the matrix
abbrev pub place_of : Bool → ℕ → ℕ → ℕ → ℕ → ℕ → ℕ → ℕ
place_of adj bl br = cond adj (adjoint_place br) (straight_place bl br)

abbrev pub element_of : Bool → (ℕ → ℕ → ℕ → ℕ → Complex) → ℕ → ℕ → ℕ → ℕ → Complex
element_of adj f = cond adj (adjoint f) f

-- f's elements at their places: those of one a and one b, of one b, and all
unfoldable pub block : (ℕ → ℕ → ℕ → ℕ → ℕ) → (ℕ → ℕ → ℕ → ℕ → Complex) → ℕ → ℕ → List Float → List Float
block place f b a ys = stores 4 (λ k. place a (k / 2) (k % 2) b) (λ k. f a (k / 2) (k % 2) b) ys

unfoldable pub line : ℕ → (ℕ → ℕ → ℕ → ℕ → ℕ) → (ℕ → ℕ → ℕ → ℕ → Complex) → ℕ → List Float → List Float
line bl place f b ys = each bl (block place f b) ys

unfoldable pub lines : ℕ → ℕ → (ℕ → ℕ → ℕ → ℕ → ℕ) → (ℕ → ℕ → ℕ → ℕ → Complex) → List Float → List Float
lines bl br place f ys = each br (line bl place f) ys
