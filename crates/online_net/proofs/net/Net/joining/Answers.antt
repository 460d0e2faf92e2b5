use Rattle.std.proofs.Common.{subst, sym}
use Rattle.online_net.specs.Steps.{AreNewEdges, JoinsAllButRoot}
use Rattle.online_net.proofs.net.Net.joining.Goals as goal

pub over-requires-clause-edges : goal.over-requires-clause-edges
over-requires-clause-edges c = subst (λ n. AreNewEdges n c.in_ok-edges.edges) c.len.ensures.count c.in_ok-edges.ensures.new

pub returns-clause-joins : goal.returns-clause-joins
returns-clause-joins c = subst (JoinsAllButRoot _) (sym c.in_ok-net.ensures.edges)
    (subst (λ n. JoinsAllButRoot n c.in_ok-edges.edges) c.len.ensures.count c.in_ok-edges.ensures.joins)
