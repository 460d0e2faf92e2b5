use Rattle.std.proofs.Common.{ap, subst, ◌∙◌}
use Rattle.online_nodes.specs.Held.{Edge, edge_at}
use Rattle.online_net.specs.Steps.{AreNewEdges}
use Rattle.online_net.proofs.Fresh.{empty_edge, plain_edges}
use Rattle.online_net.proofs.net.Net.new.Goals as goal

pub over-requires-clause-edges : goal.over-requires-clause-edges
over-requires-clause-edges c = subst (λ n. AreNewEdges n c.in_ok-edges.edges) c.len.ensures.count
    (plain_edges c.len.result c.in_ok-edges.edges c.in_ok-edges.ensures.edges c.in_ok-edges.ensures.start)

pub returns-clause-joins : goal.returns-clause-joins
returns-clause-joins c = λ i.
    ap (λ e. (edge_at e i).joins) c.in_ok-net.ensures.edges
    ∙ ap (λ (x : Edge). x.joins) (empty_edge c.len.result c.in_ok-edges.edges c.in_ok-edges.ensures.edges i)
