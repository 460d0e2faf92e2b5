use Rattle.rational.proofs.PlaceLemmas.{upto_earlier}
use Rattle.frac128.specs.Cuts.{place}
use Rattle.growing_sets.specs.Reaching.{ReachesIn}
use Rattle.growing_sets.proofs.AddLemmas.{adds_none, adds_alike}
use Rattle.growing_sets.proofs.WindowLemmas.{on_good}
use Rattle.growing_sets.proofs.reach.add_reaching.Goals as goal

pub returns-in_default-clause-ok : goal.returns-in_default-clause-ok
returns-in_default-clause-ok c =
    adds_none (ReachesIn c.args.spans.now.items (place c.args.sure.now) c.args.run.now) c.requires.own
    (λ t b h. let u = h.1 in c.in_default.ensures.none u.0 u.2.0.0 u.2.2 u.2.0)

pub returns-in-None-clause-ok : goal.returns-in-None-clause-ok
returns-in-None-clause-ok c =
    adds_none (ReachesIn c.args.spans.now.items (place c.args.sure.now) c.args.run.now) c.requires.own
    (λ t b h. let u = h.1 in c.in-None.ensures.none u.0 ((c.in-Some.ensures.some u.0).1 (u.2.0.0, u.2.2, u.2.0)) u.2.1)

pub returns-in-Some-last_end-clause-ok : goal.returns-in-Some-last_end-clause-ok
returns-in-Some-last_end-clause-ok c =
    let run = c.args.run.now in
    let end = c.in-Some-last_end.end in
    on_good c.add.result c.add.ensures.ok
    (λ a. adds_alike a
    (λ t b h.
    let u = c.in-Some-last_end.ensures.some.reached t h.1 in
    let x = (c.in-Some.ensures.some u.0).0 u.2.0 in
    ((h.0, upto_earlier (place run.to) t u.0 u.1 x.2.1), (u.0, u.1, (x.2, u.2.1, x.1))))
    (λ t b h.
    let u = h.1 in
    let x = (c.in-Some.ensures.some u.0).1 (u.2.0.0, u.2.2, u.2.0) in
    (h.0.0, upto_earlier (place end) t u.0 u.1 (c.in-Some-last_end.ensures.some.bounds u.0 x u.2.1))))
