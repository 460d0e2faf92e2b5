use Rattle.std.proofs.Common.{[], ◌∷◌, ◌++◌, ◌≡◌, ap, get_or, length, length-append, set, sym, subst, ◌∙◌, arith}
use Rattle.node_edges.specs.Held.{Edge, HasMore, no_edge, with_more}
use Rattle.node_edges.specs.Lengthening.{CanLengthen}
use Rattle.node_edges.specs.declared.far.Track.{Track}
use Rattle.node_edges.specs.Queues.{behind, edge_of, edges_from, far_at, track_at}
use Rattle.node_edges.proofs.Stretches.{more_given}
use Rattle.node_edges.proofs.QueueLemmas.{on_ok}
use Rattle.node_edges.proofs.TrackLemmas.{behind_has_more, edge_after, edge_at_track, moved_none, near_track, others_stay}
use Rattle.std.proofs.lemmas.List.{get_or-set_same}
use Rattle.node_edges.specs.declared.queue.Queue.{Queue}
use Rattle.node_edges.proofs.TrackLemmas.{near_can, track_is, track_room, track_same, tracks_kept}
use Rattle.node_edges.proofs.TrackLemmas.{index_below}
use Rattle.node_edges.proofs.edges.Edges.extend.Goals as goal

pub index_mut-requires : goal.index_mut-requires
index_mut-requires g c = index_below c.self.inside.pool.all c.self.inside.tracks c.args.edge (rw (← c.self.view_is) at c.requires)

pub lengthen-requires : goal.lengthen-requires
lengthen-requires g c =
    let within = rw (← c.self.view_is) at c.requires in
    (track_is c.self.inside.pool.all c.self.inside.tracks.items c.args.edge c.index_mut.result.now within c.index_mut.ensures.value c.self.invariant).near

pub invariant_of-self : goal.invariant_of-self
invariant_of-self g c =
    let within = rw (← c.self.view_is) at c.requires in
    let all = c.self.inside.pool.all in
    let ts = c.self.inside.tracks.items in
    let i = c.args.edge in
    let t = c.index_mut.result.now in
    let here = c.index_mut.ensures.value in
    let is = track_is all ts i t within here c.self.invariant in
    tracks_kept all ts i t within here all (record { near = c.lengthen.new.self; far = t.far }) (moved_none i all) c.self.invariant (omega arith)
    (near_track is c.lengthen.new.self (c.lengthen.ensures.kept 0 is.near) c.lengthen.ensures.read (λ some. omega (arith, c.lengthen.ensures.count, some)))
    (c.lengthen.ensures.kept c.self.inside.spare (track_room all ts i t within here c.self.invariant))

pub returns-then-lengthen-clause-put : goal.returns-then-lengthen-clause-put
returns-then-lengthen-clause-put g c =
    let within = rw (← c.self.view_is) at c.requires in
    let all = c.self.inside.pool.all in
    let ts = c.self.inside.tracks.items in
    let i = c.args.edge in
    let t = c.index_mut.result.now in
    let here = c.index_mut.ensures.value in
    let next : Track _ = record { near = c.lengthen.new.self; far = t.far } in
    rw (← c.self.view_is) (subst (λ (x : Edge _). HasMore g.T.Part x (get_or (edges_from all 0 (set ts i next)) i no_edge) (c.args.piece ∷ [])) (sym
    (edge_at_track all ts i t within here))
    (subst (λ (x : Edge _). HasMore g.T.Part (track_at all i t) x (c.args.piece ∷ [])) (sym (edge_after all ts i t within here all next (moved_none i all)))
    (behind_has_more (far_at all i t.far) (edge_of t.near) (edge_of c.lengthen.new.self) (c.args.piece ∷ []) (c.lengthen.ensures.more c.if-lengthen.true))))

pub returns-then-lengthen-clause-lengthens : goal.returns-then-lengthen-clause-lengthens
returns-then-lengthen-clause-lengthens g c can =
    let within = rw (← c.self.view_is) at c.requires in
    let all = c.self.inside.pool.all in
    let ts = c.self.inside.tracks.items in
    let i = c.args.edge in
    let t = c.index_mut.result.now in
    let here = c.index_mut.ensures.value in
    let next : Track _ = record { near = c.lengthen.new.self; far = t.far } in
    let F = far_at all i t.far in
    let same : length (F.fresh ++ (edge_of c.lengthen.new.self).fresh) ≡ length (F.fresh ++ (edge_of t.near).fresh) =
    omega (
      arith,
      length-append F.fresh (edge_of c.lengthen.new.self).fresh,
      length-append F.fresh (edge_of t.near).fresh,
      c.lengthen.ensures.no_longer c.if-lengthen.true,
    ) in
    rw (← c.self.view_is) (ap (λ (x : Edge _). length x.fresh) (edge_after all ts i t within here all next (moved_none i all)) ∙ same
    ∙ ap (λ (x : Edge _). length x.fresh) (sym (edge_at_track all ts i t within here)))

pub returns-then-lengthen-clause-others : goal.returns-then-lengthen-clause-others
returns-then-lengthen-clause-others g c =
    let within = rw (← c.self.view_is) at c.requires in
    rw (← c.self.view_is) (others_stay c.self.inside.pool.all c.self.inside.tracks.items c.args.edge c.index_mut.result.now within
    c.index_mut.ensures.value c.self.inside.pool.all (record { near = c.lengthen.new.self; far = c.index_mut.result.now.far })
    (moved_none c.args.edge c.self.inside.pool.all))

pub invariant_of-self-2 : goal.invariant_of-self-2
invariant_of-self-2 g c =
    let within = rw (← c.self.view_is) at c.requires in
    let all = c.self.inside.pool.all in
    let ts = c.self.inside.tracks.items in
    let i = c.args.edge in
    let t = c.index_mut.result.now in
    let here = c.index_mut.ensures.value in
    let is = track_is all ts i t within here c.self.invariant in
    tracks_kept all ts i t within here all (record { near = c.lengthen.new.self; far = t.far }) (moved_none i all) c.self.invariant (omega arith)
    (near_track is c.lengthen.new.self (c.lengthen.ensures.kept 0 is.near) c.lengthen.ensures.read (λ some. omega (arith, c.lengthen.ensures.count, some)))
    (c.lengthen.ensures.kept c.self.inside.spare (track_room all ts i t within here c.self.invariant))

pub returns-clause-put : goal.returns-clause-put
returns-clause-put g c =
    let within = rw (← c.self.view_is) at c.requires in
    let all = c.self.inside.pool.all in
    let ts = c.self.inside.tracks.items in
    let i = c.args.edge in
    let t = c.index_mut.result.now in
    let here = c.index_mut.ensures.value in
    let next : Track _ = record { near = c.lengthen.new.self; far = t.far } in
    let more = c.args.piece ∷ [] in
    let E = edges_from all 0 ts in
    let same : edges_from all 0 (set ts i next) ≡ E =
    track_same all ts i t within here all next (moved_none i all) (ap (λ (q : Queue _). behind (far_at all i t.far) (edge_of q)) (c.lengthen.ensures.same
    c.if-lengthen.false)) in
    rw (← c.self.view_is) (on_ok c.put.result
    (λ (e : c.put.new.self.edges ≡ set (edges_from all 0 (set ts i next)) i (with_more (get_or (edges_from all 0 (set ts i next)) i no_edge) more)).
    let now : get_or c.put.new.self.edges i no_edge ≡ with_more (get_or E i no_edge) more =
    ap (λ es. get_or es i no_edge) e ∙ ap (λ es. get_or (set es i (with_more (get_or es i no_edge) more)) i no_edge) same
    ∙ get_or-set_same E i (with_more (get_or E i no_edge) more) no_edge within in
    subst (λ (x : Edge _). HasMore g.T.Part (get_or E i no_edge) x more) (sym now) (more_given g.T.Part (get_or E i no_edge) more))
    c.put.ensures.put)

pub returns-clause-lengthens : goal.returns-clause-lengthens
returns-clause-lengthens g c can =
    let within = rw (← c.self.view_is) at c.requires in
    let all = c.self.inside.pool.all in
    let ts = c.self.inside.tracks.items in
    let i = c.args.edge in
    let t = c.index_mut.result.now in
    let here = c.index_mut.ensures.value in
    let is = track_is all ts i t within here c.self.invariant in
    absurd (c.lengthen.ensures.cannot c.if-lengthen.false
    (near_can is (subst (λ (x : Edge _). CanLengthen g.T.Part x c.args.piece) (edge_at_track all ts i t within here) (rw (← c.self.view_is) at can))))
