use Rattle.std.proofs.Common.{ap, sym, ◌∙◌, slice_get}
use Rattle.node_edges.specs.Held.{Edge}
use Rattle.node_edges.specs.Queues.{edge_of}
use Rattle.node_edges.proofs.TrackLemmas.{edge_at_track, first_near, first_waits, index_below, track_is, waits_none}
use Rattle.node_edges.proofs.edges.Edges.unread.Goals as goal

pub index-track-requires : goal.index-track-requires
index-track-requires g c = index_below c.self.inside.pool.all c.self.inside.tracks c.args.edge (rw (← c.self.view_is) at c.requires)

pub next_far-requires : goal.next_far-requires
next_far-requires g c =
    let within = rw (← c.self.view_is) at c.requires in
    (track_is c.self.inside.pool.all c.self.inside.tracks.items c.args.edge c.index-track.result.now within c.index-track.ensures c.self.invariant).far

pub returns-then-waits : goal.returns-then-waits
returns-then-waits g c =
    let within = rw (← c.self.view_is) at c.requires in
    let all = c.self.inside.pool.all in
    let ts = c.self.inside.tracks.items in
    let i = c.args.edge in
    let t = c.index-track.result.now in
    let is = track_is all ts i t within c.index-track.ensures c.self.invariant in
    rw (← c.self.view_is) (c.next_far.ensures ∙ first_waits is.far (c.waits.ensures.0 c.if-waits.true) (edge_of t.near)
    ∙ ap (λ (x : Edge _). slice_get x.fresh 0) (sym (edge_at_track all ts i t within c.index-track.ensures)))

pub returns : goal.returns
returns g c =
    let within = rw (← c.self.view_is) at c.requires in
    let all = c.self.inside.pool.all in
    let ts = c.self.inside.tracks.items in
    let i = c.args.edge in
    let t = c.index-track.result.now in
    let is = track_is all ts i t within c.index-track.ensures c.self.invariant in
    rw (← c.self.view_is) (c.unread.ensures
    ∙ ap (λ l. slice_get l 0) (first_near is.far (waits_none c.waits.ensures.1 c.if-waits.false) (edge_of t.near))
    ∙ ap (λ (x : Edge _). slice_get x.fresh 0) (sym (edge_at_track all ts i t within c.index-track.ensures)))
