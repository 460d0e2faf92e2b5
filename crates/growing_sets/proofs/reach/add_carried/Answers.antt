use Rattle.std.proofs.Common.{sym, subst}
use Rattle.frac128.specs.Cuts.{place}
use Rattle.growing_sets.specs.Reaching.{IsCarried}
use Rattle.growing_sets.proofs.AddLemmas.{adds_none, adds_alike}
use Rattle.growing_sets.proofs.ReachLemmas.{carried_in, carried_to, carried_within}
use Rattle.growing_sets.proofs.WindowLemmas.{on_good}
use Rattle.growing_sets.proofs.reach.add_carried.Goals as goal

pub returns-then-not-carried-clause-ok : goal.returns-then-not-carried-clause-ok
returns-then-not-carried-clause-ok c =
    let own = c.args.own.now in
    adds_none (IsCarried c.args.carried (place own.bounds.from) c.args.runs.now.items) c.requires.own
    (λ t b h. let e = h.on in let f = c.if-not-carried.true in cc)

pub returns-in-None-clause-ok : goal.returns-in-None-clause-ok
returns-in-None-clause-ok c =
    let own = c.args.own.now in
    let runs = c.args.runs.now.items in
    let at = place c.bounds-bounds.result.from in
    adds_none (IsCarried c.args.carried (place own.bounds.from) runs) c.requires.own
    (λ t b h.
    let p = carried_in runs at c.args.carried c.requires.runs t (subst (λ s. IsCarried c.args.carried (place s.from) runs t) (sym c.bounds-bounds.ensures) h) in
    c.in-None.ensures.none p.0 p.1 p.2)

pub returns-in-Some-clause-ok : goal.returns-in-Some-clause-ok
returns-in-Some-clause-ok c =
    let runs = c.args.runs.now.items in
    let at = place c.bounds-bounds.result.from in
    let run = c.in-Some.run' in
    let found = c.in-Some.ensures.some in
    on_good c.add.result c.add.ensures.ok
    (λ a. adds_alike a
    (λ t b h. subst (λ s. IsCarried c.args.carried (place s.from) runs t) c.bounds-bounds.ensures
    (carried_to runs at c.args.carried c.requires.runs run found.0 found.1 c.if-not-carried.false t h.0 h.1))
    (λ t b h.
    let k = subst (λ s. IsCarried c.args.carried (place s.from) runs t) (sym c.bounds-bounds.ensures) h in
    (k.after, carried_within runs at c.args.carried c.requires.runs run found.0 found.1 t k)))
