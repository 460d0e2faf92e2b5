use Rattle.std.proofs.Common.{◌<◌, ◌∙◌, sym, subst, arith}
use Rattle.online_net.proofs.AtomRuns.{more_count}
use Rattle.online_net.proofs.stretch.put_legs.Goals as goal

pub loop-along-init : goal.loop-along-init
loop-along-init c = c.in_ok-along.ensures

pub go_on-requires-clause-edge : goal.go_on-requires-clause-edge
go_on-requires-clause-edge c =
    let h = c.loop-along.invariant c.requires.come.0 c.requires.come.1 c.requires.come.2 in
    subst (λ n. c.args.node < n) (more_count c.requires.come.2.got ∙ sym (more_count h.got)) c.requires.edge

pub go_on-requires-clause-come : goal.go_on-requires-clause-come
go_on-requires-clause-come c = (c.requires.come.0, c.requires.come.1, c.loop-along.invariant c.requires.come.0 c.requires.come.1 c.requires.come.2)

pub loop-along-preserved : goal.loop-along-preserved
loop-along-preserved c = λ from e come. c.in_ok-go_on.ensures.come from e (c.loop-along.invariant from e come)

pub loop-along-smaller : goal.loop-along-smaller
loop-along-smaller c = let on = c.in_ok-go_on.ensures.on in omega (arith, on, c.loop-along-test.true)

pub put_last-requires-clause-edge : goal.put_last-requires-clause-edge
put_last-requires-clause-edge c =
    let h = c.loop-along.invariant c.requires.come.0 c.requires.come.1 c.requires.come.2 in
    subst (λ n. c.args.node < n) (more_count c.requires.come.2.got ∙ sym (more_count h.got)) c.requires.edge

pub put_last-requires-clause-here : goal.put_last-requires-clause-here
put_last-requires-clause-here c =
    let h = (c.loop-along.invariant c.requires.come.0 c.requires.come.1 c.requires.come.2).within in
    omega (arith, h, c.loop-along-test.false)

pub put_last-requires-clause-come : goal.put_last-requires-clause-come
put_last-requires-clause-come c = (c.args.bound.now, c.requires.come.0, c.requires.come.1, c.loop-along.invariant c.requires.come.0 c.requires.come.1 c.requires.come.2)

pub returns : goal.returns
returns c = λ from e come. c.put_last.ensures c.args.bound.now from e (c.loop-along.invariant from e come)
