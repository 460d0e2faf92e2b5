use Rattle.std.proofs.Common.{◌≡◌, ◌∙◌, ◌<◌, ap, sym, subst, length, arith, rules, to_z-of_z, to_z, of_z, w64}
use Rattle.node_edges.specs.Queues.{behind, edge_of, far_at}
use Rattle.node_edges.specs.Held.{with_number}
use Rattle.node_edges.proofs.TrackLemmas.{moved_none, near_track, track_changed, track_is, track_room, tracks_kept}
use Rattle.node_edges.proofs.TrackLemmas.{index_below}
use Rattle.node_edges.proofs.edges.Edges.reach.Goals as goal

pub index_mut-requires : goal.index_mut-requires
index_mut-requires g c = index_below c.self.inside.pool.all c.self.inside.tracks c.args.edge (rw (← c.self.view_is) at c.requires)

pub invariant_of-self : goal.invariant_of-self
invariant_of-self g c =
    let within = rw (← c.self.view_is) at c.requires in
    let all = c.self.inside.pool.all in
    let ts = c.self.inside.tracks.items in
    let i = c.args.edge in
    let t = c.index_mut.result.now in
    let here = c.index_mut.ensures.value in
    let is = track_is all ts i t within here c.self.invariant in
    tracks_kept all ts i t within here all (record { near = c.reach.new.self; far = t.far }) (moved_none i all) c.self.invariant (omega arith)
    (near_track is c.reach.new.self (c.reach.ensures.kept 0 is.near) c.reach.ensures.read
    (λ some. subst (λ l. 0 < length l) (sym (ap (λ q. q.items) c.reach.ensures.items)) some))
    (c.reach.ensures.kept c.self.inside.spare (track_room all ts i t within here c.self.invariant))

pub returns : goal.returns
returns g c =
    let within = rw (← c.self.view_is) at c.requires in
    let all = c.self.inside.pool.all in
    let ts = c.self.inside.tracks.items in
    let i = c.args.edge in
    let t = c.index_mut.result.now in
    let noted : to_z w64 (of_z w64 c.args.number) ≡ c.args.number = search (rules, to_z-of_z) in
    rw (← c.self.view_is) (ap (λ es. record { edges = es; start = c.self.inside.start; spare = c.self.inside.spare })
    (track_changed all ts i t within c.index_mut.ensures.value all (record { near = c.reach.new.self; far = t.far }) (moved_none i all)
    (λ x. with_number x c.args.number)
    (ap (behind (far_at all i t.far)) (c.reach.ensures.noted ∙ ap (with_number (edge_of t.near)) noted))))
