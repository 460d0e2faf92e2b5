use Rattle.std.proofs.Common.{◌<◌, length, arith}
use Rattle.std.proofs.lemmas.Option.{slice_get_within}
use Rattle.frac128.specs.Cuts.{place}
use Rattle.growing_sets.specs.Sure.{SeesWithin}
use Rattle.growing_sets.proofs.AddLemmas.{adds_on}
use Rattle.growing_sets.proofs.BetweenLemmas.{between_first, between_last}
use Rattle.growing_sets.proofs.sure.add_seeing_between.Goals as goal

pub loop-next-init : goal.loop-next-init
loop-next-init c = record {
  within = c.reaching-at.ensures.within;
  adds = between_first (SeesWithin c.args.w.now (place c.args.from.now) (place c.args.to.now))
      (place c.args.from.now) (place c.args.to.now) c.args.spans.now.items c.reaching-at.result (λ s t h. (h.0, h.1))
      c.args.own.now c.requires.own c.reaching-at.ensures.front;
}

pub loop-next-preserved : goal.loop-next-preserved
loop-next-preserved c =
    let there = c.in-Some.ensures.some.0 in
    let below : c.loop-next.at < length c.args.spans.now.items = slice_get_within c.args.spans.now.items c.loop-next.at c.in-Some.next there in
    record {
      within = omega arith;
      adds = adds_on (SeesWithin c.args.w.now (place c.args.from.now) (place c.args.to.now))
          c.args.spans.now.items c.loop-next.at there c.loop-next.invariant.adds c.in_ok-add_seeing_within.ensures.ok;
    }

pub returns-clause-ok : goal.returns-clause-ok
returns-clause-ok c =
    between_last (SeesWithin c.args.w.now (place c.args.from.now) (place c.args.to.now))
    (place c.args.from.now) (place c.args.to.now) c.args.spans.now.items c.loop-next.at (λ s t h. (h.0, h.1))
    c.requires.spans c.in_default.ensures.none c.loop-next.invariant.adds
