use Rattle.std.proofs.Common.{◌≡◌, ◌+◌, ◌*◌, ◌++◌, [], ◌∷◌, length, replicate, ap, sym, subst, ◌∙◌, refl, arith}
use Rattle.std.specs.List.{All}
use Rattle.std.proofs.lemmas.List.{length_push}
use Rattle.node_edges.specs.declared.far.Track.{Track}
use Rattle.node_edges.specs.Held.{no_edge}
use Rattle.seg_pool.specs.Lists.{Lists}
use Rattle.node_edges.specs.Queues.{Block, list_of}
use Rattle.node_edges.proofs.TrackLemmas.{all_new_more, blank_more, new_edges, new_tracks, IsNew}
use Rattle.node_edges.proofs.edges.Edges.new.Goals as goal

pub loop-made-init : goal.loop-made-init
loop-made-init g c =
    let one = ap (λ p. p.all) c.in_ok-new_list.ensures.more ∙ ap (λ (p : Lists (Block _)). p.all ++ [] ∷ []) c.new-pool.ensures in
    record {
      blank = λ k. ap (λ l. list_of l k) one ∙ blank_more [] (λ j. refl) k;
      lists = ap length one;
      count = ap length c.new-tracks.ensures.items;
      new = subst (All IsNew) (sym c.new-tracks.ensures.items) (λ k d below. absurd (omega (arith, below)));
    }

pub loop-made-preserved : goal.loop-made-preserved
loop-made-preserved g c =
    let p0 = c.loop-made.pool.all in
    let two : c.new_list-in-loop-made-2.new.self.all ≡ (p0 ++ [] ∷ []) ++ [] ∷ [] =
    ap (λ (p : Lists (Block _)). p.all) c.in_ok-new_list-3.ensures.more
    ∙ ap (λ (p : Lists (Block _)). p.all ++ [] ∷ []) c.in_ok-new_list-2.ensures.more in
    let items = c.in-Ok.ensures.items in
    let track : Track _ = record { near = c.new.result; far = c.none.result } in
    record {
      blank = λ k. ap (λ l. list_of l k) two ∙ blank_more (p0 ++ [] ∷ []) (blank_more p0 c.loop-made.invariant.blank) k;
      lists = omega (arith, ap length two, length_push (p0 ++ [] ∷ []) [], length_push p0 [], c.loop-made.invariant.lists);
      count = ap length items ∙ length_push c.loop-made.tracks.items track ∙ ap (λ n. n + 1) c.loop-made.invariant.count;
      new = subst (All IsNew) (sym items) (all_new_more c.loop-made.tracks.items track c.loop-made.invariant.new
          (record { edge = c.new.ensures.edge; room = c.new.ensures.room; far = c.none.ensures }));
    }

pub invariant_of-result : goal.invariant_of-result
invariant_of-result g c =
    new_tracks c.loop-made.pool.all c.loop-made.invariant.blank c.loop-made.tracks.items c.loop-made.invariant.new
    (c.loop-made.invariant.lists ∙ ap (λ n. 2 * n + 1) (sym c.loop-made.invariant.count))
    (omega (arith, c.loop-made.invariant.count, c.loop-made.auto.made-end, c.if-count-gt-MOST.false))

pub returns-clause-edges : goal.returns-clause-edges
returns-clause-edges g c =
    let all : c.loop-made.made ≡ c.args.count = omega (arith, c.loop-made.auto.made-end, c.loop-made-test.false) in
    new_edges c.loop-made.pool.all c.loop-made.invariant.blank 0 c.loop-made.tracks.items c.loop-made.invariant.new
    ∙ ap (λ n. replicate n no_edge) (c.loop-made.invariant.count ∙ all)
