use Rattle.std.proofs.Common.{◌≡◌, subst, sym, rules, to_z-of_z, to_z, of_z, w64}
use Rattle.rational.specs.Rational.{◌<ʳ◌, ◌≈◌, whole}
use Rattle.frac128.specs.Value.{value}
use Rattle.node_edges.specs.Held.{Edge, IsDroppedBy}
use Rattle.node_edges.specs.Queues.{edge_of, track_at}
use Rattle.node_edges.proofs.DroppingLemmas.{cut_none, cut_then, dropped_by}
use Rattle.node_edges.proofs.TrackLemmas.{far_track, gone_cut, moved_none, moved_twice, near_alone, no_far, none_of_two, rest_of_far}
use Rattle.node_edges.proofs.far.drop_far.Goals as goal

pub loop-end-init : goal.loop-end-init
loop-end-init g c = record {
  track = c.requires;
  room = λ spare h. h;
  moved = moved_none c.args.edge c.args.pool.now.all;
  cut = cut_none (value c.of-end.result) (track_at c.args.pool.now.all c.args.edge c.args.track.now);
}

pub loop-end-preserved : goal.loop-end-preserved
loop-end-preserved g c =
    let is = c.loop-end.invariant.track in
    record {
      track = far_track c.drop_block.new.pool.all c.drop_block.new.far is c.drop_block.ensures.far c.drop_block.ensures.fewer;
      room = c.loop-end.invariant.room;
      moved = moved_twice c.args.edge c.args.pool.now.all c.loop-end.pool.all c.drop_block.new.pool.all c.loop-end.invariant.moved
          c.drop_block.ensures.moved;
      cut = gone_cut c.drop_block.new.pool.all c.drop_block.new.far is c.drop_block.ensures.gone c.loop-end.invariant.cut;
    }

pub returns-then-not-drop_block-clause-dropped : goal.returns-then-not-drop_block-clause-dropped
returns-then-not-drop_block-clause-dropped g c =
    let is = c.loop-end.invariant.track in
    let next = far_track c.drop_block.new.pool.all c.drop_block.new.far is c.drop_block.ensures.far c.drop_block.ensures.fewer in
    let noted : to_z w64 (of_z w64 c.args.limit) ≡ c.args.limit = search (rules, to_z-of_z) in
    let limit : value c.of-end.result ≈ whole c.args.limit = subst (λ z. value c.of-end.result ≈ whole z) noted c.of-end.ensures.value in
    let rest = c.drop_block.ensures.rest c.if-not-drop_block.true in
    dropped_by (gone_cut c.drop_block.new.pool.all c.drop_block.new.far is c.drop_block.ensures.gone c.loop-end.invariant.cut) limit
    (rest_of_far (λ v. value c.of-end.result <ʳ g.T.Part.end v) next rest.0 rest.1)

pub returns-clause-dropped : goal.returns-clause-dropped
returns-clause-dropped g c =
    let all = c.loop-end.pool.all in
    let i = c.args.edge in
    let t = c.loop-end.track in
    let is = c.loop-end.invariant.track in
    let none = none_of_two c.is_some.ensures.1 c.loop-end-test.false in
    let next = near_alone is none.1 c.drop_by.new.self (c.drop_by.ensures.kept 0 is.near) in
    let noted : to_z w64 (of_z w64 c.args.limit) ≡ c.args.limit = search (rules, to_z-of_z) in
    let limit : value c.of-end.result ≈ whole c.args.limit = subst (λ z. value c.of-end.result ≈ whole z) noted c.of-end.ensures.value in
    let dropped = subst (λ z. IsDroppedBy g.T.Part z (edge_of t.near) (edge_of c.drop_by.new.self)) noted c.drop_by.ensures.dropped in
    cut_then c.loop-end.invariant.cut limit
    (subst (λ (x : Edge _). IsDroppedBy g.T.Part c.args.limit x (track_at all i (record { near = c.drop_by.new.self; far = t.far })))
    (sym (no_far is none.0 none.1))
    (subst (IsDroppedBy g.T.Part c.args.limit (edge_of t.near)) (sym (no_far next none.0 none.1)) dropped))

pub returns-clause-track : goal.returns-clause-track
returns-clause-track g c =
    let is = c.loop-end.invariant.track in
    let none = none_of_two c.is_some.ensures.1 c.loop-end-test.false in
    near_alone is none.1 c.drop_by.new.self (c.drop_by.ensures.kept 0 is.near)

pub returns-clause-room : goal.returns-clause-room
returns-clause-room g c = λ spare h. c.drop_by.ensures.kept spare (c.loop-end.invariant.room spare h)

pub returns-then-not-drop_block-clause-track : goal.returns-then-not-drop_block-clause-track
returns-then-not-drop_block-clause-track g c =
    far_track c.drop_block.new.pool.all c.drop_block.new.far c.loop-end.invariant.track c.drop_block.ensures.far c.drop_block.ensures.fewer
