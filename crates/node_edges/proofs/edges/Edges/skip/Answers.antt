use Rattle.std.proofs.Common.{ap, sym, ◌∙◌, arith}
use Rattle.node_edges.specs.Held.{without}
use Rattle.node_edges.specs.Queues.{behind, edge_of, far_at}
use Rattle.node_edges.proofs.TrackLemmas.{behind_gone, far_track, held_some, index_below, moved_none, near_alone, no_far, none_of_two}
use Rattle.node_edges.proofs.TrackLemmas.{track_changed, track_is, track_room, tracks_kept, waits_or_read}
use Rattle.node_edges.proofs.edges.Edges.skip.Goals as goal

pub index_mut-track-requires : goal.index_mut-track-requires
index_mut-track-requires g c = index_below c.self.inside.pool.all c.self.inside.tracks c.args.edge (rw (← c.self.view_is) at c.requires)

pub invariant_of-self : goal.invariant_of-self
invariant_of-self g c =
    let within = rw (← c.self.view_is) at c.requires in
    let all = c.self.inside.pool.all in
    let ts = c.self.inside.tracks.items in
    let i = c.args.edge in
    let t = c.index_mut-track.result.now in
    let here = c.index_mut-track.ensures.value in
    let is = track_is all ts i t within here c.self.invariant in
    tracks_kept all ts i t within here c.skip_one.new.pool.all (record { near = t.near; far = c.skip_one.new.far }) c.skip_one.ensures.moved
    c.self.invariant (omega arith)
    (far_track c.skip_one.new.pool.all c.skip_one.new.far is c.skip_one.ensures.far c.skip_one.ensures.fewer)
    (track_room all ts i t within here c.self.invariant)

pub returns-then-is_some-clause-taken : goal.returns-then-is_some-clause-taken
returns-then-is_some-clause-taken g c =
    let within = rw (← c.self.view_is) at c.requires in
    let all = c.self.inside.pool.all in
    let ts = c.self.inside.tracks.items in
    let i = c.args.edge in
    let t = c.index_mut-track.result.now in
    let here = c.index_mut-track.ensures.value in
    let is = track_is all ts i t within here c.self.invariant in
    rw (← c.self.view_is) (track_changed all ts i t within here c.skip_one.new.pool.all (record { near = t.near; far = c.skip_one.new.far })
    c.skip_one.ensures.moved (without 1)
    (ap (λ f. behind f (edge_of t.near)) c.skip_one.ensures.taken
    ∙ behind_gone (far_at all i t.far) (edge_of t.near) 1 (held_some is (c.is_some.ensures.0 c.if-is_some.true)) (waits_or_read is)))

pub take-requires : goal.take-requires
take-requires g c =
    let within = rw (← c.self.view_is) at c.requires in
    (track_is c.self.inside.pool.all c.self.inside.tracks.items c.args.edge c.index_mut-track.result.now within c.index_mut-track.ensures.value
    c.self.invariant).near

pub invariant_of-self-2 : goal.invariant_of-self-2
invariant_of-self-2 g c =
    let within = rw (← c.self.view_is) at c.requires in
    let all = c.self.inside.pool.all in
    let ts = c.self.inside.tracks.items in
    let i = c.args.edge in
    let t = c.index_mut-track.result.now in
    let here = c.index_mut-track.ensures.value in
    let is = track_is all ts i t within here c.self.invariant in
    let none = none_of_two c.is_some.ensures.1 c.if-is_some.false in
    tracks_kept all ts i t within here all (record { near = c.take.new.self; far = t.far }) (moved_none i all) c.self.invariant (omega arith)
    (near_alone is none.1 c.take.new.self (c.take.ensures.kept 0 is.near))
    (c.take.ensures.kept c.self.inside.spare (track_room all ts i t within here c.self.invariant))

pub returns-clause-taken : goal.returns-clause-taken
returns-clause-taken g c =
    let within = rw (← c.self.view_is) at c.requires in
    let all = c.self.inside.pool.all in
    let ts = c.self.inside.tracks.items in
    let i = c.args.edge in
    let t = c.index_mut-track.result.now in
    let here = c.index_mut-track.ensures.value in
    let is = track_is all ts i t within here c.self.invariant in
    let none = none_of_two c.is_some.ensures.1 c.if-is_some.false in
    let next = near_alone is none.1 c.take.new.self (c.take.ensures.kept 0 is.near) in
    rw (← c.self.view_is) (track_changed all ts i t within here all (record { near = c.take.new.self; far = t.far }) (moved_none i all) (without 1)
    (no_far next none.0 none.1 ∙ c.take.ensures.taken ∙ ap (without 1) (sym (no_far is none.0 none.1))))

pub skip_one-requires-clause-far : goal.skip_one-requires-clause-far
skip_one-requires-clause-far g c =
    let within = rw (← c.self.view_is) at c.requires in
    (track_is c.self.inside.pool.all c.self.inside.tracks.items c.args.edge c.index_mut-track.result.now within c.index_mut-track.ensures.value
    c.self.invariant).far
