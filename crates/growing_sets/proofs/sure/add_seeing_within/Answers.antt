use Rattle.frac128.specs.Cuts.{place}
use Rattle.growing_sets.specs.Sure.{SeesWithin}
use Rattle.growing_sets.proofs.AddLemmas.{adds_none, adds_alike}
use Rattle.growing_sets.proofs.WindowLemmas.{on_good}
use Rattle.growing_sets.proofs.sure.add_seeing_within.Goals as goal

pub returns-in-None-clause-ok : goal.returns-in-None-clause-ok
returns-in-None-clause-ok c =
    adds_none (SeesWithin c.args.w.now (place c.args.from.now) (place c.args.to.now) c.args.part.now) c.requires
    (λ t b h. c.in-None.ensures.none h.0 h.1.1 h.1.2 h.1.0)

pub returns-in-Some-clause-ok : goal.returns-in-Some-clause-ok
returns-in-Some-clause-ok c =
    on_good c.add_seeing.result c.add_seeing.ensures.ok
    (λ a. adds_alike a
    (λ t b h. let k = (c.in-Some.ensures.some h.0).0 h.1 in (h.0, (k.2, k.0, k.1), h.2))
    (λ t b h. (h.0, (c.in-Some.ensures.some h.0).1 (h.1.1, h.1.2, h.1.0), h.2)))
