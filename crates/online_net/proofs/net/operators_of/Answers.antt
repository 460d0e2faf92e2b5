use Rattle.std.proofs.Common.{◌≡◌, length, subst, arith}
use Rattle.online_net.specs.Steps.{AreFirstOperators}
use Rattle.online_net.proofs.net.operators_of.Goals as goal

pub returns : goal.returns
returns c =
    let count : c.loop-i.i ≡ length c.args.formula.now.nodes =
    (let a = c.len-i-end.ensures.count in let b = c.loop-i-test.false in let d = c.loop-i.auto.i-end in omega (arith, a, b, d)) in
    subst (λ n. AreFirstOperators c.args.formula.now.nodes c.loop-i.operators.items n) count c.loop-i.invariant
