use Rattle.std.proofs.Common.{◌≤◌, ◌^◌, arith, lit<}
use Rattle.std.proofs.Math.Nat.{pow-le-pow_right}
use Rattle.stl_syntax.proofs.scaling.ticks_in_tick.Goals as goal

pub returns-clause-most : goal.returns-clause-most
returns-clause-most c =
    let few : c.from.result ≤ 6 = omega arith in
    let most : 10 ^ c.from.result ≤ 10 ^ 6 = pow-le-pow_right (lit< tt) few in
    omega (arith, c.pow.ensures, most)
