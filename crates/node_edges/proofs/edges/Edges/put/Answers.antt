use Rattle.std.proofs.Common.{[], ◌∷◌, ◌≡◌, set, ap, sym, subst, ◌∙◌, arith}
use Rattle.rational.proofs.Lists.{on_err_anyway}
use Rattle.node_edges.specs.Held.{Held, with_more}
use Rattle.node_edges.specs.Queues.{behind, edge_of, edges_from, far_at, IsQueue}
use Rattle.node_edges.proofs.TrackLemmas.{behind_more, moved_none, near_track, pushed_track, track_changed, track_is, track_room, track_same, tracks_kept}
use Rattle.node_edges.proofs.TrackLemmas.{index_below}
use Rattle.node_edges.proofs.edges.Edges.put.Goals as goal

pub index_mut-track-requires : goal.index_mut-track-requires
index_mut-track-requires g c = index_below c.self.inside.pool.all c.self.inside.tracks c.args.edge (rw (← c.self.view_is) at c.requires)

pub make_way-requires : goal.make_way-requires
make_way-requires g c =
    let within = rw (← c.self.view_is) at c.requires in
    record {
      track = track_is c.self.inside.pool.all c.self.inside.tracks.items c.args.edge c.index_mut-track.result.now within
          c.index_mut-track.ensures.value c.self.invariant;
      full = c.is_full.ensures.full c.if-is_full.true;
    }

pub invariant_of-self : goal.invariant_of-self
invariant_of-self g c =
    let within = rw (← c.self.view_is) at c.requires in
    let all = c.self.inside.pool.all in
    let ts = c.self.inside.tracks.items in
    let i = c.args.edge in
    let t = c.index_mut-track.result.now in
    let here = c.index_mut-track.ensures.value in
    tracks_kept all ts i t within here c.make_way.new.pool.all c.make_way.new.track c.make_way.ensures.moved c.self.invariant (omega arith)
    c.in_err-make_way.ensures.track (c.in_err-make_way.ensures.room c.self.inside.spare (track_room all ts i t within here c.self.invariant))

pub returns-in_err-make_way-clause-had_room : goal.returns-in_err-make_way-clause-had_room
returns-in_err-make_way-clause-had_room g c some =
    let within = rw (← c.self.view_is) at c.requires in
    let some' = rw (← c.self.view_is) at some in
    let room = track_room c.self.inside.pool.all c.self.inside.tracks.items c.args.edge c.index_mut-track.result.now within
    c.index_mut-track.ensures.value c.self.invariant in
    absurd (omega (arith, room.room, c.is_full.ensures.full c.if-is_full.true, some'))

pub returns-in_err-make_way-clause-memory : goal.returns-in_err-make_way-clause-memory
returns-in_err-make_way-clause-memory g c =
    let within = rw (← c.self.view_is) at c.requires in
    let all = c.self.inside.pool.all in
    let ts = c.self.inside.tracks.items in
    let i = c.args.edge in
    let t = c.index_mut-track.result.now in
    let same : ◌≡◌ {A = Held _}
    (record { edges = edges_from c.make_way.new.pool.all 0 (set ts i c.make_way.new.track); start = c.self.inside.start; spare = c.self.inside.spare })
    (record { edges = edges_from all 0 ts; start = c.self.inside.start; spare = c.self.inside.spare }) =
    ap (λ es. record { edges = es; start = c.self.inside.start; spare = c.self.inside.spare })
    (track_same all ts i t within c.index_mut-track.ensures.value c.make_way.new.pool.all c.make_way.new.track c.make_way.ensures.moved
    c.make_way.ensures.same) in
    on_err_anyway c.from_residual.result (rw (← c.self.view_is) same)

pub push-requires : goal.push-requires
push-requires g c = c.in_ok-make_way.ensures.near

pub invariant_of-self-then-is_full : goal.invariant_of-self-then-is_full
invariant_of-self-then-is_full g c =
    let within = rw (← c.self.view_is) at c.requires in
    let all = c.self.inside.pool.all in
    let ts = c.self.inside.tracks.items in
    let i = c.args.edge in
    let t = c.index_mut-track.result.now in
    let here = c.index_mut-track.ensures.value in
    let near = c.in_ok-make_way.ensures.near in
    let room = c.push.ensures.less 1 near in
    tracks_kept all ts i t within here c.make_way.new.pool.all (record { near = c.push.new.self; far = c.make_way.new.track.far })
    c.make_way.ensures.moved c.self.invariant (omega arith)
    (pushed_track c.make_way.new.pool.all i c.make_way.new.track c.in_ok-make_way.ensures.far c.in_ok-make_way.ensures.read c.push.new.self room
    c.push.ensures.read
    c.push.ensures.some) room

pub returns-then-is_full-clause-put : goal.returns-then-is_full-clause-put
returns-then-is_full-clause-put g c =
    let within = rw (← c.self.view_is) at c.requires in
    let all = c.self.inside.pool.all in
    let ts = c.self.inside.tracks.items in
    let i = c.args.edge in
    let t = c.index_mut-track.result.now in
    let now = c.make_way.new.track in
    let more = c.args.piece ∷ [] in
    let F = far_at c.make_way.new.pool.all i now.far in
    rw (← c.self.view_is) (track_changed all ts i t within c.index_mut-track.ensures.value c.make_way.new.pool.all
    (record { near = c.push.new.self; far = now.far }) c.make_way.ensures.moved (λ x. with_more x more)
    (ap (behind F) c.push.ensures.put ∙ behind_more F (edge_of now.near) more ∙ ap (λ x. with_more x more) c.make_way.ensures.same))

pub returns-then-is_full-clause-falls_by_one : goal.returns-then-is_full-clause-falls_by_one
returns-then-is_full-clause-falls_by_one g c =
    let within = rw (← c.self.view_is) at c.requires in
    let room = track_room c.self.inside.pool.all c.self.inside.tracks.items c.args.edge c.index_mut-track.result.now within
    c.index_mut-track.ensures.value c.self.invariant in
    rw (← c.self.view_is) (omega (arith, room.room, c.is_full.ensures.full c.if-is_full.true))

pub push-requires-2 : goal.push-requires-2
push-requires-2 g c =
    let within = rw (← c.self.view_is) at c.requires in
    let is = track_is c.self.inside.pool.all c.self.inside.tracks.items c.args.edge c.index_mut-track.result.now within
    c.index_mut-track.ensures.value c.self.invariant in
    c.is_full.ensures.room is.near c.if-is_full.false

pub invariant_of-self-2 : goal.invariant_of-self-2
invariant_of-self-2 g c =
    let within = rw (← c.self.view_is) at c.requires in
    let all = c.self.inside.pool.all in
    let ts = c.self.inside.tracks.items in
    let i = c.args.edge in
    let t = c.index_mut-track.result.now in
    let here = c.index_mut-track.ensures.value in
    let is = track_is all ts i t within here c.self.invariant in
    tracks_kept all ts i t within here all (record { near = c.push-2.new.self; far = t.far }) (moved_none i all) c.self.invariant (omega arith)
    (near_track is c.push-2.new.self (c.push-2.ensures.less 0 is.near) c.push-2.ensures.read (λ some. c.push-2.ensures.some))
    (subst (λ n. IsQueue n c.push-2.new.self) (sym c.saturating_sub-self-inside.ensures)
    (c.push-2.ensures.less c.self.inside.spare (track_room all ts i t within here c.self.invariant)))

pub returns-clause-put : goal.returns-clause-put
returns-clause-put g c =
    let within = rw (← c.self.view_is) at c.requires in
    let all = c.self.inside.pool.all in
    let ts = c.self.inside.tracks.items in
    let i = c.args.edge in
    let t = c.index_mut-track.result.now in
    rw (← c.self.view_is) (track_changed all ts i t within c.index_mut-track.ensures.value all (record { near = c.push-2.new.self; far = t.far })
    (moved_none i all) (λ x. with_more x (c.args.piece ∷ []))
    (ap (behind (far_at all i t.far)) c.push-2.ensures.put ∙ behind_more (far_at all i t.far) (edge_of t.near) (c.args.piece ∷ [])))
