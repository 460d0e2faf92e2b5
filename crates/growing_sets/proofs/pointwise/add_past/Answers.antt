use Rattle.frac128.specs.Cuts.{place}
use Rattle.rational.proofs.PlaceLemmas.{after_at_most, before_through}
use Rattle.growing_sets.specs.Steps.{IsPast}
use Rattle.growing_sets.proofs.AddLemmas.{adds_alike, adds_none}
use Rattle.growing_sets.proofs.MakingLemmas.{after_one}
use Rattle.growing_sets.proofs.WindowLemmas.{on_good}
use Rattle.growing_sets.proofs.pointwise.add_past.Goals as goal

pub returns-then-not-precedes-clause-ok : goal.returns-then-not-precedes-clause-ok
returns-then-not-precedes-clause-ok c =
    adds_none (IsPast (place c.args.cut.now) c.args.part.now) c.requires (λ t b h.
    let e = c.precedes.ensures.1 (before_through (place c.args.cut.now) (place c.args.part.now.to) t h.1 h.0.1) in
    let f = c.if-not-precedes.true in cc)

pub returns-clause-ok : goal.returns-clause-ok
returns-clause-ok c =
    let part = c.args.part.now in
    on_good c.add.result c.add.ensures.ok
    (λ a. adds_alike a
    (λ t b h. (
      (after_at_most (place part.from) (place c.later.result) t c.later.ensures.first h.0, h.1),
      after_at_most (place c.args.cut.now) (place c.later.result) t c.later.ensures.second h.0,
    ))
    (λ t b h. (after_one part.from c.args.cut.now c.later.result t c.later.ensures.one h.0.0 h.1, h.0.1)))
