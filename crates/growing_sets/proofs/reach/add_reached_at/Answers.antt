use Rattle.std.proofs.Common.{subst}
use Rattle.rational.proofs.PlaceLemmas.{after_later}
use Rattle.frac128.specs.Cuts.{place}
use Rattle.growing_sets.specs.Reaching.{ReachedIn, ReachedAt}
use Rattle.growing_sets.proofs.AddLemmas.{adds_none, adds_alike}
use Rattle.growing_sets.proofs.HoldingLemmas.{one_holds}
use Rattle.growing_sets.proofs.WindowLemmas.{on_good}
use Rattle.growing_sets.proofs.reach.add_reached_at.Goals as goal

pub returns-in_default-clause-ok : goal.returns-in_default-clause-ok
returns-in_default-clause-ok c =
    adds_none (ReachedAt c.args.runs.now.items c.args.spans.now.items c.args.part.now) c.requires.own
    (λ t b h. c.in_default.ensures.none h.0 h.1 h.2)

pub returns-in-None-clause-ok : goal.returns-in-None-clause-ok
returns-in-None-clause-ok c =
    let spans = c.args.spans.now.items in
    let runs = c.args.runs.now.items in
    let part = c.args.part.now in
    let run = c.in-Some.run' in
    let found = c.in-Some.ensures.some in
    adds_none (ReachedAt runs spans part) c.requires.own (λ t b h.
    let r = subst (λ p. ReachedIn spans p t) (one_holds (place part.from) runs run h.0 c.requires.runs found.0 h.1 found.1 h.2) h.3 in
    c.in-None.ensures.none r.1.0 r.1.2.0 r.1.2.1)

pub returns-in-Some-first_begin-clause-ok : goal.returns-in-Some-first_begin-clause-ok
returns-in-Some-first_begin-clause-ok c =
    let runs = c.args.runs.now.items in
    let spans = c.args.spans.now.items in
    let part = c.args.part.now in
    let run = c.in-Some.run' in
    let begin = c.in-Some-first_begin.begin in
    let found = c.in-Some.ensures.some in
    on_good c.add.result c.add.ensures.ok
    (λ a. adds_alike a
    (λ t b h.
    let u = c.in-Some-first_begin.ensures.some.reached t h.0 in
    (run, found.0, found.1, ((after_later (place run.from) u.0 t u.1 u.2.0.0, h.1), u)))
    (λ t b h.
    let r = subst (λ p. ReachedIn spans p t) (one_holds (place part.from) runs run h.0 c.requires.runs found.0 h.1 found.1 h.2) h.3 in
    let u = r.1 in
    (after_later (place begin) u.0 t u.1 (c.in-Some-first_begin.ensures.some.bounds u.0 u.2.0 u.2.1), r.0.1)))
