use Rattle.std.proofs.Common.{ap, sym, subst, ◌<◌, length, arith}
use Rattle.node_edges.specs.Held.{joining}
use Rattle.node_edges.specs.Queues.{behind, far_at}
use Rattle.node_edges.proofs.TrackLemmas.{moved_none, near_track, track_changed, track_is, track_room, tracks_kept}
use Rattle.node_edges.proofs.TrackLemmas.{index_below}
use Rattle.node_edges.proofs.edges.Edges.join.Goals as goal

pub index_mut-requires : goal.index_mut-requires
index_mut-requires g c = index_below c.self.inside.pool.all c.self.inside.tracks c.args.edge (rw (← c.self.view_is) at c.requires)

pub invariant_of-self : goal.invariant_of-self
invariant_of-self g c =
    let within = rw (← c.self.view_is) at c.requires in
    let all = c.self.inside.pool.all in
    let ts = c.self.inside.tracks.items in
    let i = c.args.edge in
    let t = c.index_mut.result.now in
    let here = c.index_mut.ensures.value in
    let is = track_is all ts i t within here c.self.invariant in
    tracks_kept all ts i t within here all (record { near = c.join.new.self; far = t.far }) (moved_none i all) c.self.invariant (omega arith)
    (near_track is c.join.new.self (c.join.ensures.kept 0 is.near) c.join.ensures.read
    (λ some. subst (λ l. 0 < length l) (sym (ap (λ q. q.items) c.join.ensures.items)) some))
    (c.join.ensures.kept c.self.inside.spare (track_room all ts i t within here c.self.invariant))

pub returns : goal.returns
returns g c =
    let within = rw (← c.self.view_is) at c.requires in
    let all = c.self.inside.pool.all in
    let ts = c.self.inside.tracks.items in
    let i = c.args.edge in
    let t = c.index_mut.result.now in
    rw (← c.self.view_is) (ap (λ es. record { edges = es; start = c.self.inside.start; spare = c.self.inside.spare })
    (track_changed all ts i t within c.index_mut.ensures.value all (record { near = c.join.new.self; far = t.far }) (moved_none i all) joining
    (ap (behind (far_at all i t.far)) c.join.ensures.joining)))
