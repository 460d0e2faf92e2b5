use Rattle.std.proofs.Common.{ap, sym, ◌∙◌, slice_get}
use Rattle.node_edges.specs.Held.{Edge, held_of}
use Rattle.node_edges.proofs.TrackLemmas.{edge_at_track, held_first, held_some, index_below, no_far, none_of_two, track_is}
use Rattle.node_edges.proofs.edges.Edges.ahead.Goals as goal

pub index-track-requires : goal.index-track-requires
index-track-requires g c = index_below c.self.inside.pool.all c.self.inside.tracks c.args.edge (rw (← c.self.view_is) at c.requires)

pub first_far-requires : goal.first_far-requires
first_far-requires g c =
    let within = rw (← c.self.view_is) at c.requires in
    (track_is c.self.inside.pool.all c.self.inside.tracks.items c.args.edge c.index-track.result.now within c.index-track.ensures c.self.invariant).far

pub returns-then-is_some : goal.returns-then-is_some
returns-then-is_some g c =
    let within = rw (← c.self.view_is) at c.requires in
    let all = c.self.inside.pool.all in
    let ts = c.self.inside.tracks.items in
    let i = c.args.edge in
    let t = c.index-track.result.now in
    let is = track_is all ts i t within c.index-track.ensures c.self.invariant in
    rw (← c.self.view_is) (c.first_far.ensures ∙ held_first is (held_some is (c.is_some.ensures.0 c.if-is_some.true))
    ∙ ap (λ (x : Edge _). slice_get (held_of x) 0) (sym (edge_at_track all ts i t within c.index-track.ensures)))

pub returns : goal.returns
returns g c =
    let within = rw (← c.self.view_is) at c.requires in
    let all = c.self.inside.pool.all in
    let ts = c.self.inside.tracks.items in
    let i = c.args.edge in
    let t = c.index-track.result.now in
    let is = track_is all ts i t within c.index-track.ensures c.self.invariant in
    let none = none_of_two c.is_some.ensures.1 c.if-is_some.false in
    rw (← c.self.view_is) (c.ahead.ensures
    ∙ ap (λ (x : Edge _). slice_get (held_of x) 0) (sym (no_far is none.0 none.1) ∙ sym (edge_at_track all ts i t within c.index-track.ensures)))
