use Rattle.std.proofs.Common.{◌≡◌, ◌-◌, subst, arith}
use Rattle.online_net.proofs.Fresh.{AreJoining, all_but_root, new_edges, none_joining, one_joining}
use Rattle.online_net.proofs.net.joining_edges.Goals as goal

pub loop-i-init : goal.loop-i-init
loop-i-init c = none_joining c.args.count c.in_ok-edges.edges c.in_ok-edges.ensures.edges c.in_ok-edges.ensures.start

pub join-requires : goal.join-requires
join-requires c = (let n = c.loop-i.invariant.count in omega (arith, n, c.loop-i-test.true))

pub loop-i-preserved : goal.loop-i-preserved
loop-i-preserved c = one_joining c.args.count c.loop-i.i c.loop-i.edges c.join.new.self c.loop-i.invariant (omega (arith, c.loop-i-test.true)) c.join.ensures

pub returns-clause-new : goal.returns-clause-new
returns-clause-new c =
    let end : c.loop-i.i ≡ c.args.count - 1 = omega (arith, c.loop-i.auto.i-end, c.loop-i-test.false) in
    new_edges c.args.count c.loop-i.i c.loop-i.edges (omega (arith, end)) c.loop-i.invariant

pub returns-clause-joins : goal.returns-clause-joins
returns-clause-joins c =
    let end : c.loop-i.i ≡ c.args.count - 1 = omega (arith, c.loop-i.auto.i-end, c.loop-i-test.false) in
    all_but_root c.args.count c.loop-i.edges (subst (λ n. AreJoining c.args.count n c.loop-i.edges) end c.loop-i.invariant)
