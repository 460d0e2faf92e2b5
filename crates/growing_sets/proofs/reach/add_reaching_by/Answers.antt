use Rattle.frac128.specs.Cuts.{place}
use Rattle.growing_sets.specs.Reaching.{ReachesBy, IsNew}
use Rattle.rational.specs.Time.{Rational}
use Rattle.std.specs.Prelude.{◌↔◌}
use Rattle.growing_sets.specs.Spans.{Lies}
use Rattle.growing_sets.proofs.AddLemmas.{adds_none, adds_alike}
use Rattle.growing_sets.proofs.ReachLemmas.{newly, from_newly}
use Rattle.growing_sets.proofs.WindowLemmas.{on_good}
use Rattle.growing_sets.proofs.reach.add_reaching_by.Goals as goal

pub returns-in-None-clause-ok : goal.returns-in-None-clause-ok
returns-in-None-clause-ok c =
    adds_none (ReachesBy c.args.runs.now.items c.args.spans.now.items (place c.args.before.now) (place c.args.sure.now) c.args.part.now) c.requires.own
    (λ t b h. let w = h.3 in c.in-None.ensures.none w.0 w.1.1 w.1.2 w.1.0)

pub returns-in-Some-clause-ok : goal.returns-in-Some-clause-ok
returns-in-Some-clause-ok c =
    let before = place c.args.before.now in
    let sure = place c.args.sure.now in
    let part = c.in-Some.newly in
    let is : (t : Rational) → Lies part t ↔ IsNew before sure c.args.part.now t = λ t. (
      λ h. let x = (c.in-Some.ensures.some t).0 h in (x.2, x.0, x.1),
      λ h. (c.in-Some.ensures.some t).1 (h.1, h.2, h.0),
    ) in
    on_good c.add_reaching_at.result c.add_reaching_at.ensures.ok
    (λ a. adds_alike a
    (λ t b h. (h.0, h.1, h.3, newly before sure c.args.part.now part h.0 is h.2))
    (λ t b h. let w = h.3 in (h.0, h.1, from_newly before sure c.args.part.now part h.0 is w.0 w.1 w.2 w.3, h.2)))
