use Rattle.std.proofs.Common.{◌<◌, List, length, ◌∙◌, ap, sym, subst, arith}
use Rattle.std.proofs.lemmas.List.{length-set}
use Rattle.node_edges.specs.declared.far.Track.{Track}
use Rattle.node_edges.specs.Queues.{Block, behind, edges_from, far_at}
use Rattle.node_edges.proofs.TrackLemmas.{length_edges, moved_none, near_track, room_on, track_is, track_room, track_same, tracks_kept}
use Rattle.node_edges.proofs.edges.make_room.Given.{Over}
use Rattle.node_edges.proofs.edges.make_room.Goals as goal
use Rattle.node_edges.proofs.edges.make_room.Goals.{After-index_mut}

-- track i is there
is_there : (g : Over) (c : After-index_mut g) → c.loop-i.i < length c.loop-i.tracks.items
is_there g c = omega (arith, c.loop-i.invariant.count, c.loop-i-test.true, c.len-i-end.ensures)

within_all : (g : Over) (c : After-index_mut g) (all : List (List (Block _))) → c.loop-i.i < length (edges_from all 0 c.loop-i.tracks.items)
within_all g c all = omega (arith, is_there g c, length_edges all 0 c.loop-i.tracks.items)

pub reserve-requires : goal.reserve-requires
reserve-requires g c =
    let here = (goal.at.reserve-requires g c).After-index_mut in
    let given = c.requires in
    (track_is given.0 c.loop-i.tracks.items c.loop-i.i c.index_mut.result.now (within_all g here given.0) c.index_mut.ensures.value
    (c.loop-i.invariant.kept given.0 given.1 given.2)).near

pub loop-i-preserved : goal.loop-i-preserved
loop-i-preserved g c =
    let here = (goal.at.loop-i-preserved g c).After-index_mut in
    let ts = c.loop-i.tracks.items in
    let i = c.loop-i.i in
    let t = c.index_mut.result.now in
    let next : Track _ = record { near = c.reserve.new.self; far = t.far } in
    record {
      count = length-set ts i next ∙ c.loop-i.invariant.count;
      same = λ all. track_same all ts i t (within_all g here all) c.index_mut.ensures.value all next (moved_none i all)
          (ap (behind (far_at all i t.far)) c.reserve.ensures.same) ∙ c.loop-i.invariant.same all;
      kept = λ all spare are.
          let now = c.loop-i.invariant.kept all spare are in
          let is = track_is all ts i t (within_all g here all) c.index_mut.ensures.value now in
          tracks_kept all ts i t (within_all g here all) c.index_mut.ensures.value all next (moved_none i all) now (omega arith)
          (near_track is c.reserve.new.self (c.reserve.ensures.kept 0 is.near) c.reserve.ensures.read
          (λ some. subst (λ l. 0 < length l) (sym c.reserve.ensures.items) some))
          (c.reserve.ensures.kept spare (track_room all ts i t (within_all g here all) c.index_mut.ensures.value now));
      ready = room_on ts i c.args.room next (is_there g here) c.in_ok-reserve.ensures.room c.loop-i.invariant.ready;
    }

pub returns-in_err-reserve-clause-same : goal.returns-in_err-reserve-clause-same
returns-in_err-reserve-clause-same g c all =
    let here = (goal.at.returns-in_err-reserve-clause-same g c).After-index_mut in
    let t = c.index_mut.result.now in
    track_same all c.loop-i.tracks.items c.loop-i.i t (within_all g here all) c.index_mut.ensures.value all
    (record { near = c.reserve.new.self; far = t.far }) (moved_none c.loop-i.i all) (ap (behind (far_at all c.loop-i.i t.far)) c.reserve.ensures.same)
    ∙ c.loop-i.invariant.same all

pub returns-in_err-reserve-clause-kept : goal.returns-in_err-reserve-clause-kept
returns-in_err-reserve-clause-kept g c all spare are =
    let here = (goal.at.returns-in_err-reserve-clause-kept g c).After-index_mut in
    let ts = c.loop-i.tracks.items in
    let i = c.loop-i.i in
    let t = c.index_mut.result.now in
    let now = c.loop-i.invariant.kept all spare are in
    let is = track_is all ts i t (within_all g here all) c.index_mut.ensures.value now in
    tracks_kept all ts i t (within_all g here all) c.index_mut.ensures.value all (record { near = c.reserve.new.self; far = t.far }) (moved_none i all) now
    (omega arith)
    (near_track is c.reserve.new.self (c.reserve.ensures.kept 0 is.near) c.reserve.ensures.read
    (λ some. subst (λ l. 0 < length l) (sym c.reserve.ensures.items) some))
    (c.reserve.ensures.kept spare (track_room all ts i t (within_all g here all) c.index_mut.ensures.value now))

pub returns-clause-room : goal.returns-clause-room
returns-clause-room g c all spare are =
    let now = c.loop-i.invariant.kept all spare are in
    record {
      lists = now.lists;
      few = now.few;
      each = now.each;
      room = λ k d lt. c.loop-i.invariant.ready k d (omega (arith, lt, c.loop-i.invariant.count, c.loop-i-test.false, c.len-i-end.ensures));
    }
