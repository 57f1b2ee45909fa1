-- Each bond is at most the cap, so the three products are at most its square.
use Rattle.std.proofs.Common.{◌≤◌, mul-le-mul, arith}
use Rattle.environments.proofs.site_at.Goals as goal

pub returns-clause-room : goal.returns-clause-room
returns-clause-room c =
    let s = c.requires.sound in
    let l : c.from-left.result ≤ c.args.chain.now.max_bond_dim = omega (arith, (s.bonds.left_range c.args.k c.requires.k_bound).1, s.high_water.1) in
    let r : c.from-right.result ≤ c.args.chain.now.max_bond_dim = omega (arith, (s.bonds.right_range c.args.k c.requires.k_bound).1, s.high_water.1) in
    omega (arith, mul-le-mul l l, mul-le-mul l r, mul-le-mul r r)
