use Rattle.std.proofs.Common.{[]}
use Rattle.stl_syntax.specs.Trace.{Header}
use Rattle.atom_lines.specs.Binding.{IsBound}
use Rattle.std.proofs.Common.{None, false, ap, ◌∙◌}
use Rattle.std.specs.Prelude.{replicate}
use Rattle.online_robust.specs.Held.{no_edge}
use Rattle.online_robust.specs.Nets.{no_past, StandsFor}
use Rattle.online_robust.proofs.Standings.{new_stands}
use Rattle.online_robust.proofs.net.RobustNet.new.Goals as goal
use Rattle.online_robust.proofs.net.RobustNet.new.Goals.{In_ok-edges}

-- the new network stands for no rows
fresh : (c : In_ok-edges) (header : Header) → IsBound c.args.bound c.args.formula.now header
    → StandsFor c.args.formula.now.nodes header (record {
      edges = c.in_ok-edges.edges;
      stations = c.in_ok-stations.stations.items;
      bound = c.args.bound;
      last = None;
      closed = false;
      stopped = false;
    }) no_past []
fresh c header bound =
    new_stands c.args.formula.now header c.args.bound bound c.len.ensures.well_formed c.requires.streamed c.in_ok-edges.edges c.in_ok-stations.stations.items
    (c.in_ok-edges.ensures.edges ∙ ap (λ n. replicate n no_edge) c.len.ensures.count) c.in_ok-edges.ensures.start c.in_ok-stations.ensures

pub invariant_of-result : goal.invariant_of-result
invariant_of-result c running = (c.args.formula.now.nodes, c.requires.bound.0, no_past, [], fresh c c.requires.bound.0 c.requires.bound.1)

pub returns-clause-stands : goal.returns-clause-stands
returns-clause-stands c header bound = fresh c header bound
