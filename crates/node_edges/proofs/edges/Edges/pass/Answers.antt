use Rattle.std.proofs.Common.{◌<◌, ap, sym, subst, ◌∙◌, length, slice_get, arith}
use Rattle.node_edges.specs.Held.{Edge, with_read}
use Rattle.std.specs.Option.{option_copied}
use Rattle.rational.proofs.Lists.{empty_of_none}
use Rattle.node_edges.specs.Queues.{behind, edge_of, far_at}
use Rattle.node_edges.proofs.TrackLemmas.{behind_far_read, behind_read, edge_at_track, far_track, first_near, first_waits, moved_none, near_alone}
use Rattle.node_edges.proofs.TrackLemmas.{none_waits, waits_some}
use Rattle.node_edges.proofs.TrackLemmas.{track_changed, track_is, track_room, tracks_kept, waits_none, unread_near}
use Rattle.node_edges.proofs.TrackLemmas.{index_below}
use Rattle.node_edges.proofs.edges.Edges.pass.Goals as goal

pub index_mut-track-requires : goal.index_mut-track-requires
index_mut-track-requires g c = index_below c.self.inside.pool.all c.self.inside.tracks c.args.edge (rw (← c.self.view_is) at c.requires.edge)

pub next_far-requires : goal.next_far-requires
next_far-requires g c =
    let within = rw (← c.self.view_is) at c.requires.edge in
    (track_is c.self.inside.pool.all c.self.inside.tracks.items c.args.edge c.index_mut-track.result.now within c.index_mut-track.ensures.value
    c.self.invariant).far

pub invariant_of-self : goal.invariant_of-self
invariant_of-self g c =
    let within = rw (← c.self.view_is) at c.requires.edge in
    let all = c.self.inside.pool.all in
    let ts = c.self.inside.tracks.items in
    let i = c.args.edge in
    let t = c.index_mut-track.result.now in
    let here = c.index_mut-track.ensures.value in
    let is = track_is all ts i t within here c.self.invariant in
    tracks_kept all ts i t within here c.pass_far.new.pool.all (record { near = t.near; far = c.pass_far.new.far }) c.pass_far.ensures.moved
    c.self.invariant (omega arith)
    (far_track c.pass_far.new.pool.all c.pass_far.new.far is c.pass_far.ensures.far (omega (arith, c.pass_far.ensures.fewer)))
    (track_room all ts i t within here c.self.invariant)

pub returns-then-waits-clause-first : goal.returns-then-waits-clause-first
returns-then-waits-clause-first g c =
    let within = rw (← c.self.view_is) at c.requires.edge in
    let all = c.self.inside.pool.all in
    let ts = c.self.inside.tracks.items in
    let i = c.args.edge in
    let t = c.index_mut-track.result.now in
    let here = c.index_mut-track.ensures.value in
    let is = track_is all ts i t within here c.self.invariant in
    rw (← c.self.view_is) (ap (λ (x : Edge _). slice_get x.fresh 0) (edge_at_track all ts i t within here)
    ∙ sym (first_waits is.far (c.waits.ensures.0 c.if-waits.true) (edge_of t.near)) ∙ sym c.next_far.ensures ∙ ap option_copied c.in-Some.is)

pub returns-then-waits-clause-read : goal.returns-then-waits-clause-read
returns-then-waits-clause-read g c =
    let within = rw (← c.self.view_is) at c.requires.edge in
    let all = c.self.inside.pool.all in
    let ts = c.self.inside.tracks.items in
    let i = c.args.edge in
    let t = c.index_mut-track.result.now in
    let here = c.index_mut-track.ensures.value in
    let is = track_is all ts i t within here c.self.invariant in
    rw (← c.self.view_is) (track_changed all ts i t within here c.pass_far.new.pool.all (record { near = t.near; far = c.pass_far.new.far })
    c.pass_far.ensures.moved (λ x. with_read x c.in-Some.v.now)
    (ap (λ f. behind f (edge_of t.near)) (c.pass_far.ensures.read c.in-Some.v.now (sym c.next_far.ensures ∙ ap option_copied c.in-Some.is))
    ∙ behind_far_read (far_at all i t.far) (edge_of t.near) c.in-Some.v.now (sym c.next_far.ensures ∙ ap option_copied c.in-Some.is)
    (unread_near is (c.waits.ensures.0 c.if-waits.true))))

pub pass-requires-clause-read : goal.pass-requires-clause-read
pass-requires-clause-read g c =
    let within = rw (← c.self.view_is) at c.requires.edge in
    (track_is c.self.inside.pool.all c.self.inside.tracks.items c.args.edge c.index_mut-track.result.now within c.index_mut-track.ensures.value
    c.self.invariant).near

pub pass-requires-clause-some : goal.pass-requires-clause-some
pass-requires-clause-some g c =
    let within = rw (← c.self.view_is) at c.requires.edge in
    let some = rw (← c.self.view_is) at c.requires.some in
    let all = c.self.inside.pool.all in
    let ts = c.self.inside.tracks.items in
    let i = c.args.edge in
    let t = c.index_mut-track.result.now in
    let here = c.index_mut-track.ensures.value in
    let is = track_is all ts i t within here c.self.invariant in
    subst (λ l. 0 < length l) (ap (λ (x : Edge _). x.fresh) (edge_at_track all ts i t within here)
    ∙ sym (first_near is.far (waits_none (c.waits.ensures.1) c.if-waits.false) (edge_of t.near))) some

pub invariant_of-self-2 : goal.invariant_of-self-2
invariant_of-self-2 g c =
    let within = rw (← c.self.view_is) at c.requires.edge in
    let all = c.self.inside.pool.all in
    let ts = c.self.inside.tracks.items in
    let i = c.args.edge in
    let t = c.index_mut-track.result.now in
    let here = c.index_mut-track.ensures.value in
    let is = track_is all ts i t within here c.self.invariant in
    tracks_kept all ts i t within here all (record { near = c.pass.new.self; far = t.far }) (moved_none i all) c.self.invariant (omega arith)
    (near_alone is (waits_none (c.waits.ensures.1) c.if-waits.false) c.pass.new.self (c.pass.ensures.kept 0 is.near))
    (c.pass.ensures.kept c.self.inside.spare (track_room all ts i t within here c.self.invariant))

pub returns-clause-first : goal.returns-clause-first
returns-clause-first g c =
    let within = rw (← c.self.view_is) at c.requires.edge in
    let all = c.self.inside.pool.all in
    let ts = c.self.inside.tracks.items in
    let i = c.args.edge in
    let t = c.index_mut-track.result.now in
    let here = c.index_mut-track.ensures.value in
    let is = track_is all ts i t within here c.self.invariant in
    rw (← c.self.view_is) (ap (λ (x : Edge _). slice_get x.fresh 0) (edge_at_track all ts i t within here)
    ∙ ap (λ l. slice_get l 0) (sym (first_near is.far (waits_none (c.waits.ensures.1) c.if-waits.false) (edge_of t.near))) ∙ c.pass.ensures.first)

pub returns-clause-read : goal.returns-clause-read
returns-clause-read g c =
    let within = rw (← c.self.view_is) at c.requires.edge in
    let all = c.self.inside.pool.all in
    let ts = c.self.inside.tracks.items in
    let i = c.args.edge in
    let t = c.index_mut-track.result.now in
    let here = c.index_mut-track.ensures.value in
    let is = track_is all ts i t within here c.self.invariant in
    rw (← c.self.view_is) (track_changed all ts i t within here all (record { near = c.pass.new.self; far = t.far }) (moved_none i all)
    (λ x. with_read x c.pass.result)
    (ap (behind (far_at all i t.far)) c.pass.ensures.read
    ∙ behind_read (far_at all i t.far) (edge_of t.near) c.pass.result (none_waits is.far (waits_none (c.waits.ensures.1) c.if-waits.false))))

pub pass_far-requires-clause-far : goal.pass_far-requires-clause-far
pass_far-requires-clause-far g c =
    let within = rw (← c.self.view_is) at c.requires.edge in
    (track_is c.self.inside.pool.all c.self.inside.tracks.items c.args.edge c.index_mut-track.result.now within c.index_mut-track.ensures.value
    c.self.invariant).far

pub unreachable-requires : goal.unreachable-requires
unreachable-requires g c =
    let within = rw (← c.self.view_is) at c.requires.edge in
    let all = c.self.inside.pool.all in
    let t = c.index_mut-track.result.now in
    let is = track_is all c.self.inside.tracks.items c.args.edge t within c.index_mut-track.ensures.value c.self.invariant in
    let some : 0 < length (far_at all c.args.edge t.far).fresh = waits_some is.far (c.waits.ensures.0 c.if-waits.true) in
    absurd (omega (arith, some, ap length (empty_of_none (far_at all c.args.edge t.far).fresh (sym c.next_far.ensures ∙ ap option_copied c.in_default.is))))
