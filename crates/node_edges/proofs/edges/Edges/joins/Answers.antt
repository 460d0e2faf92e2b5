use Rattle.std.proofs.Common.{ap, sym, ◌∙◌}
use Rattle.node_edges.specs.Held.{Edge}
use Rattle.node_edges.proofs.TrackLemmas.{edge_at_track}
use Rattle.node_edges.proofs.TrackLemmas.{index_below}
use Rattle.node_edges.proofs.edges.Edges.joins.Goals as goal

pub index-requires : goal.index-requires
index-requires g c = index_below c.self.inside.pool.all c.self.inside.tracks c.args.edge (rw (← c.self.view_is) at c.requires)

pub returns : goal.returns
returns g c =
    let within = rw (← c.self.view_is) at c.requires in
    rw (← c.self.view_is) (c.joins.ensures
    ∙ ap (λ (x : Edge _). x.joins) (sym (edge_at_track c.self.inside.pool.all c.self.inside.tracks.items c.args.edge c.index.result.now within
    c.index.ensures)))
