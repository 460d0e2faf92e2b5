use Rattle.std.proofs.Common.{subst}
use Rattle.frac128.specs.Cuts.{place}
use Rattle.growing_sets.specs.Reaching.{ReachesIn, ReachesAt}
use Rattle.growing_sets.proofs.AddLemmas.{adds_none, adds_alike}
use Rattle.growing_sets.proofs.HoldingLemmas.{one_holds}
use Rattle.growing_sets.proofs.WindowLemmas.{on_good}
use Rattle.growing_sets.proofs.reach.add_reaching_at.Goals as goal

pub returns-in-None-clause-ok : goal.returns-in-None-clause-ok
returns-in-None-clause-ok c =
    adds_none (ReachesAt c.args.runs.now.items c.args.spans.now.items (place c.args.sure.now) c.args.part.now) c.requires.own
    (λ t b h. c.in-None.ensures.none h.0 h.1 h.2)

pub returns-in-Some-clause-ok : goal.returns-in-Some-clause-ok
returns-in-Some-clause-ok c =
    let runs = c.args.runs.now.items in
    let spans = c.args.spans.now.items in
    let sure = place c.args.sure.now in
    let part = c.args.part.now in
    let run = c.in-Some.run' in
    let found = c.in-Some.ensures.some in
    on_good c.add_reaching.result c.add_reaching.ensures.ok
    (λ a. adds_alike a
    (λ t b h. (run, found.0, found.1, h))
    (λ t b h. subst (λ p. ReachesIn spans sure p t) (one_holds (place part.from) runs run h.0 c.requires.runs found.0 h.1 found.1 h.2) h.3))
