-- That the workspace is enough from an exponent of 63 on: a cut of a sound record works in fewer numbers.
use Rattle.std.specs.Prelude.{ℕ, ◌+◌, ◌^◌, ◌≤◌, ◌<◌}
use Rattle.std.proofs.Common.{mul-le-mul, arith}
use Rattle.std.proofs.Math.Nat.{pow-le-pow_right}
use Rattle.model.specs.Slots.{State, lefts, rights}
use Rattle.model.specs.Truncation.{workspace}
use Rattle.model.specs.Statements.Soundness.{Sound}
use Rattle.model.proofs.Laws.SoundFacts.{left_most, right_most}

abbrev pub Uncapped : State → Type 0
Uncapped s = 64 ≤ s.chain.workspace_exponent

-- ---- cuts

-- 2 to an exponent of 63 or more is enough for a cut of a sound record
pub workspace_enough : (k : ℕ) (s : State) → Sound s.chain → k + 1 < s.chain.num_qubits → (e : ℕ) → 63 ≤ e → workspace (lefts s k) (rights s k) (rights s (k + 1)) ≤ 2 ^ e
workspace_enough k s h inside e l =
    let right = right_most s.chain h (k + 1) inside in
    let cap = h.settings.cap.1 in
    let room : 2 ^ 63 ≤ 2 ^ e = pow-le-pow_right {n = 2} (omega arith) l in
    omega (arith, mul-le-mul (left_most s.chain h k (omega arith)) right, mul-le-mul (right_most s.chain h k (omega arith)) right, mul-le-mul cap cap)
