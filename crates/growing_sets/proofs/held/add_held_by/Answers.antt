use Rattle.std.proofs.Common.{subst}
use Rattle.frac128.specs.Cuts.{place}
use Rattle.growing_sets.specs.Windows.{IsHeld}
use Rattle.growing_sets.specs.Steps.{HeldAt}
use Rattle.growing_sets.proofs.AddLemmas.{adds_none, adds_alike}
use Rattle.growing_sets.proofs.WindowLemmas.{on_good}
use Rattle.growing_sets.proofs.HoldingLemmas.{one_holds}
use Rattle.growing_sets.proofs.held.add_held_by.Goals as goal

pub returns-in-None-clause-ok : goal.returns-in-None-clause-ok
returns-in-None-clause-ok c =
    adds_none (HeldAt c.args.w.now (place c.args.start.now) c.args.spans.now.items c.args.part.now) c.requires.own
    (λ t b h. c.in-None.ensures.none h.0 h.1 h.2)

pub returns-in-Some-clause-ok : goal.returns-in-Some-clause-ok
returns-in-Some-clause-ok c =
    let w = c.args.w.now in
    let start = place c.args.start.now in
    let spans = c.args.spans.now.items in
    let part = c.args.part.now in
    let span = c.in-Some.span in
    let found = c.in-Some.ensures.some in
    on_good c.add_held.result c.add_held.ensures.ok
    (λ a. adds_alike a
    (λ t b h. (span, found.0, found.1, h))
    (λ t b h. subst (λ s. IsHeld w start s t) (one_holds (place part.from) spans span h.0 c.requires.spans found.0 h.1 found.1 h.2) h.3))
