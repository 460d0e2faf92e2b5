use Rattle.std.proofs.Common.{◌≡◌, get_or, set, sym, subst, ◌∙◌, arith, rules, to_z-of_z, to_z, of_z, w64}
use Rattle.node_edges.specs.Held.{Edge, IsDroppedBy, no_edge}
use Rattle.node_edges.specs.Queues.{edge_of, edges_from, track_at}
use Rattle.node_edges.proofs.TrackLemmas.{edge_after, edge_at_track, moved_none, near_alone, no_far, none_of_two, others_stay}
use Rattle.node_edges.proofs.TrackLemmas.{track_is, track_room, tracks_kept}
use Rattle.node_edges.proofs.TrackLemmas.{index_below}
use Rattle.node_edges.proofs.edges.Edges.drop_by.Goals as goal

pub index_mut-track-requires : goal.index_mut-track-requires
index_mut-track-requires g c = index_below c.self.inside.pool.all c.self.inside.tracks c.args.edge (rw (← c.self.view_is) at c.requires)

pub drop_far-requires : goal.drop_far-requires
drop_far-requires g c =
    let within = rw (← c.self.view_is) at c.requires in
    track_is c.self.inside.pool.all c.self.inside.tracks.items c.args.edge c.index_mut-track.result.now within c.index_mut-track.ensures.value c.self.invariant

pub invariant_of-self : goal.invariant_of-self
invariant_of-self g c =
    let within = rw (← c.self.view_is) at c.requires in
    let all = c.self.inside.pool.all in
    let ts = c.self.inside.tracks.items in
    let i = c.args.edge in
    let t = c.index_mut-track.result.now in
    let here = c.index_mut-track.ensures.value in
    tracks_kept all ts i t within here c.drop_far.new.pool.all c.drop_far.new.track c.drop_far.ensures.moved c.self.invariant (omega arith)
    c.drop_far.ensures.track (c.drop_far.ensures.room c.self.inside.spare (track_room all ts i t within here c.self.invariant))

pub returns-then-is_some-clause-dropped : goal.returns-then-is_some-clause-dropped
returns-then-is_some-clause-dropped g c =
    let within = rw (← c.self.view_is) at c.requires in
    let all = c.self.inside.pool.all in
    let ts = c.self.inside.tracks.items in
    let i = c.args.edge in
    let t = c.index_mut-track.result.now in
    let here = c.index_mut-track.ensures.value in
    let next = c.drop_far.new.track in
    let now = c.drop_far.new.pool.all in
    let noted : to_z w64 (of_z w64 c.args.limit) ≡ c.args.limit = search (rules, to_z-of_z) in
    let dropped = subst (λ z. IsDroppedBy g.T.Part z (track_at all i t) (track_at now i next)) noted c.drop_far.ensures.dropped in
    rw (← c.self.view_is) (subst (λ (x : Edge _). IsDroppedBy g.T.Part c.args.limit x (get_or (edges_from now 0 (set ts i next)) i no_edge)) (sym (edge_at_track
    all ts i t within here))
    (subst (IsDroppedBy g.T.Part c.args.limit (track_at all i t)) (sym (edge_after all ts i t within here now next c.drop_far.ensures.moved)) dropped))

pub returns-then-is_some-clause-others : goal.returns-then-is_some-clause-others
returns-then-is_some-clause-others g c =
    let within = rw (← c.self.view_is) at c.requires in
    rw (← c.self.view_is) (others_stay c.self.inside.pool.all c.self.inside.tracks.items c.args.edge c.index_mut-track.result.now within
    c.index_mut-track.ensures.value c.drop_far.new.pool.all c.drop_far.new.track c.drop_far.ensures.moved)

pub drop_by-requires : goal.drop_by-requires
drop_by-requires g c =
    let within = rw (← c.self.view_is) at c.requires in
    (track_is c.self.inside.pool.all c.self.inside.tracks.items c.args.edge c.index_mut-track.result.now within c.index_mut-track.ensures.value
    c.self.invariant).near

pub invariant_of-self-2 : goal.invariant_of-self-2
invariant_of-self-2 g c =
    let within = rw (← c.self.view_is) at c.requires in
    let all = c.self.inside.pool.all in
    let ts = c.self.inside.tracks.items in
    let i = c.args.edge in
    let t = c.index_mut-track.result.now in
    let here = c.index_mut-track.ensures.value in
    let is = track_is all ts i t within here c.self.invariant in
    let none = none_of_two c.is_some.ensures.1 c.if-is_some.false in
    tracks_kept all ts i t within here all (record { near = c.drop_by.new.self; far = t.far }) (moved_none i all) c.self.invariant (omega arith)
    (near_alone is none.1 c.drop_by.new.self (c.drop_by.ensures.kept 0 is.near))
    (c.drop_by.ensures.kept c.self.inside.spare (track_room all ts i t within here c.self.invariant))

pub returns-clause-dropped : goal.returns-clause-dropped
returns-clause-dropped g c =
    let within = rw (← c.self.view_is) at c.requires in
    let all = c.self.inside.pool.all in
    let ts = c.self.inside.tracks.items in
    let i = c.args.edge in
    let t = c.index_mut-track.result.now in
    let here = c.index_mut-track.ensures.value in
    let is = track_is all ts i t within here c.self.invariant in
    let none = none_of_two c.is_some.ensures.1 c.if-is_some.false in
    let next = near_alone is none.1 c.drop_by.new.self (c.drop_by.ensures.kept 0 is.near) in
    let noted : to_z w64 (of_z w64 c.args.limit) ≡ c.args.limit = search (rules, to_z-of_z) in
    let dropped = subst (λ z. IsDroppedBy g.T.Part z (edge_of t.near) (edge_of c.drop_by.new.self)) noted c.drop_by.ensures.dropped in
    rw (← c.self.view_is) (subst (λ (x : Edge _). IsDroppedBy g.T.Part c.args.limit x (get_or (edges_from all 0 (set ts i (record {
      near = c.drop_by.new.self;
      far = t.far;
    }))) i no_edge))
    (sym (edge_at_track all ts i t within here ∙ no_far is none.0 none.1))
    (subst (IsDroppedBy g.T.Part c.args.limit (edge_of t.near))
    (sym (edge_after all ts i t within here all (record { near = c.drop_by.new.self; far = t.far }) (moved_none i all) ∙ no_far next none.0 none.1)) dropped))

pub returns-clause-others : goal.returns-clause-others
returns-clause-others g c =
    let within = rw (← c.self.view_is) at c.requires in
    rw (← c.self.view_is) (others_stay c.self.inside.pool.all c.self.inside.tracks.items c.args.edge c.index_mut-track.result.now within
    c.index_mut-track.ensures.value c.self.inside.pool.all (record { near = c.drop_by.new.self; far = c.index_mut-track.result.now.far })
    (moved_none c.args.edge c.self.inside.pool.all))
