use Rattle.std.proofs.Common.{◌≡◌, ◌+◌, ap, sym, ◌∙◌, length, arith}
use Rattle.node_edges.specs.Held.{Edge, held_of}
use Rattle.node_edges.specs.Queues.{edge_of}
use Rattle.node_edges.proofs.TrackLemmas.{edge_at_track, length_held, track_is}
use Rattle.node_edges.proofs.TrackLemmas.{index_below}
use Rattle.node_edges.proofs.edges.Edges.held.Goals as goal

pub index-track-requires : goal.index-track-requires
index-track-requires g c = index_below c.self.inside.pool.all c.self.inside.tracks c.args.edge (rw (← c.self.view_is) at c.requires)

pub len-requires : goal.len-requires
len-requires g c =
    let within = rw (← c.self.view_is) at c.requires in
    let is = track_is c.self.inside.pool.all c.self.inside.tracks.items c.args.edge c.index-track.result.now within c.index-track.ensures c.self.invariant in
    omega (arith, is.far.is.few)

pub overflow_add-result : goal.overflow_add-result
overflow_add-result g c =
    let within = rw (← c.self.view_is) at c.requires in
    let is = track_is c.self.inside.pool.all c.self.inside.tracks.items c.args.edge c.index-track.result.now within c.index-track.ensures c.self.invariant in
    omega (arith, is.far.is.few, c.len.ensures, c.len-2.ensures.small)

pub returns : goal.returns
returns g c =
    let within = rw (← c.self.view_is) at c.requires in
    let all = c.self.inside.pool.all in
    let ts = c.self.inside.tracks.items in
    let i = c.args.edge in
    let t = c.index-track.result.now in
    let is = track_is all ts i t within c.index-track.ensures c.self.invariant in
    let long = length_held is in
    let sum : c.len.result + c.len-2.result ≡ t.far.seen + t.far.waits + length (held_of (edge_of t.near)) = omega (
      arith,
      c.len.ensures,
      c.len-2.ensures.count,
    ) in
    rw (← c.self.view_is) (sum ∙ sym long ∙ ap (λ (x : Edge _). length (held_of x)) (sym (edge_at_track all ts i t within c.index-track.ensures)))
