use Rattle.std.proofs.Common.{◌<◌, length, arith}
use Rattle.std.proofs.lemmas.Option.{slice_get_within}
use Rattle.rational.proofs.PlaceLemmas.{after_at_most}
use Rattle.frac128.specs.Cuts.{place}
use Rattle.growing_sets.proofs.MakingLemmas.{after_one, upto_one}
use Rattle.growing_sets.proofs.AddLemmas.{adds_alike, adds_on}
use Rattle.growing_sets.proofs.BetweenLemmas.{Shares, between_first, between_last, common_of, of_common}
use Rattle.growing_sets.proofs.pointwise.add_common.Goals as goal

pub loop-next-init : goal.loop-next-init
loop-next-init c =
    let part = c.args.part.now in
    record {
      within = c.reaching-at.ensures.within;
      adds = between_first (Shares part) (place part.from) (place part.to) c.args.spans.now.items c.reaching-at.result (λ s t h. (t, (h.1, h.0.0, h.0.1)))
          c.args.own.now c.requires.own c.reaching-at.ensures.front;
    }

pub loop-next-preserved : goal.loop-next-preserved
loop-next-preserved c =
    let part = c.args.part.now in
    let next = c.in-Some.next in
    let there = c.in-Some.ensures.some.0 in
    let below : c.loop-next.at < length c.args.spans.now.items = slice_get_within c.args.spans.now.items c.loop-next.at next there in
    record {
      within = omega arith;
      adds = adds_on (Shares part) c.args.spans.now.items c.loop-next.at there c.loop-next.invariant.adds (adds_alike c.in_ok-add.ensures.ok
          (λ t b h. (
            (after_at_most (place part.from) (place c.later.result) t c.later.ensures.first h.0, c.earlier.ensures.first t h.1),
            (after_at_most (place next.from) (place c.later.result) t c.later.ensures.second h.0, c.earlier.ensures.second t h.1),
          ))
          (λ t b h. (
            after_one part.from next.from c.later.result t c.later.ensures.one h.0.0 h.1.0,
            upto_one part.to next.to c.earlier.result t c.earlier.ensures.one h.0.1 h.1.1,
          )));
    }

pub returns-clause-ok : goal.returns-clause-ok
returns-clause-ok c =
    let part = c.args.part.now in
    adds_alike (between_last (Shares part) (place part.from) (place part.to) c.args.spans.now.items c.loop-next.at (λ s t h. (t, (h.1, h.0.0, h.0.1)))
    c.requires.spans c.in_default.ensures.none c.loop-next.invariant.adds)
    (λ t b h. common_of part c.args.spans.now.items t h) (λ t b h. of_common part c.args.spans.now.items t h)
