use Rattle.std.proofs.Common.{◌<◌, ◌∙◌, sym, subst}
use Rattle.online_net.proofs.AtomRuns.{more_count}
use Rattle.online_net.proofs.stretch.go_to_put.Goals as goal

pub loop-along-init : goal.loop-along-init
loop-along-init c = λ from e come. come

pub go_first-requires-clause-edge : goal.go_first-requires-clause-edge
go_first-requires-clause-edge c =
    let h = c.loop-along.invariant c.requires.come.0 c.requires.come.1 c.requires.come.2 in
    subst (λ n. c.args.node < n) (more_count c.requires.come.2.got ∙ sym (more_count h.got)) c.requires.edge

pub go_first-requires-clause-come : goal.go_first-requires-clause-come
go_first-requires-clause-come c = (c.requires.come.0, c.requires.come.1, c.loop-along.invariant c.requires.come.0 c.requires.come.1 c.requires.come.2)

pub loop-along-preserved : goal.loop-along-preserved
loop-along-preserved c = λ from e come. c.in_ok-go_first.ensures.come from e (c.loop-along.invariant from e come)

pub returns-else-along-to : goal.returns-else-along-to
returns-else-along-to c = c.loop-along.invariant

pub returns-after-loop-along : goal.returns-after-loop-along
returns-after-loop-along c = c.loop-along.invariant
