-- The library says what each float is; two of them are a number.
use mathlib.Core.Path.{◌≡◌, sym, ap, ◌∙◌}
use Prim.Native.Nat.{ℕ, ◌+◌, ◌-◌, ◌*◌}
use native.Mathlib.Omega.{arith}
use lib.Ieee.{nan}
use lib.ListN.{get_or, take}
use lib.Seq.{length-take-le}
use Rattle.complex.specs.Numbers.{at, numbers, at_take, ext_at, length_numbers, at_numbers}
use Rattle.walks.proofs.copy_down.Goals as goal

pub returns : goal.returns
unfolding at
returns c = let a = c.args in
    let new = c.copy_within.new.self in
    let old = a.work.now in
    let copied = c.copy_within.ensures.by_index.0 in
    let f = λ (k : ℕ). at old (a.from + k) in
    ext_at a.n (take (2 * a.n) new) (numbers a.n f) (length-take-le (2 * a.n) new (omega (arith, c.copy_within.ensures.len))) (length_numbers a.n f)
    (λ k l. let e : 2 * a.from + (2 * k - 0) ≡ 2 * (a.from + k) = omega arith in
    let o : 2 * a.from + (2 * k + 1 - 0) ≡ 2 * (a.from + k) + 1 = omega arith in
    at_take (2 * a.n) k new (omega arith)
    ∙ (λ i. record {
      re = (copied (2 * k) nan (omega arith) (omega arith) ∙ ap (λ (j : ℕ). get_or old j nan) e) i;
      im = (copied (2 * k + 1) nan (omega arith) (omega arith) ∙ ap (λ (j : ℕ). get_or old j nan) o) i;
    })
    ∙ sym (at_numbers a.n f k l))
