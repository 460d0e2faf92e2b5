use Rattle.std.proofs.Common.{OnOk}
use Rattle.frac128.specs.Cuts.{place}
use Rattle.growing_sets.specs.Growing.{Adds}
use Rattle.growing_sets.specs.Steps.{BySome, IsPast}
use Rattle.growing_sets.specs.Reaching.{ReachesAt}
use Rattle.growing_sets.proofs.WindowLemmas.{on_good}
use Rattle.growing_sets.proofs.AddLemmas.{adds_as, adds_then, gains_of, tells_still}
use Rattle.growing_sets.proofs.ReachLemmas.{ReachesAnew, reach_tells}
use Rattle.growing_sets.proofs.grown.Grown.reach_sure.Goals.{After-add_all_past}
use Rattle.growing_sets.proofs.grown.Grown.reach_sure.Goals as goal

-- what the set had added
added : (c : After-add_all_past) → OnOk c.add_all_past.result (Adds (record c.args.self.now { fresh = c.clear.new.self }) c.add_all_past.new.own
    (ReachesAnew c.args.runs.now.spans.items c.args.runs.now.fresh.items c.args.x.now.spans.items c.args.x.now.fresh.items
    (place c.args.before.now) (place c.args.sure.now)))
added c =
    let reaches = BySome (ReachesAt c.args.runs.now.spans.items c.args.x.now.spans.items (place c.args.sure.now)) in
    on_good c.add_all_past.result c.add_all_past.ensures.ok (λ a.
    adds_then (adds_then (adds_then (adds_as reaches c.deref.ensures.value c.in_ok-add_all_reaching.ensures.ok)
    (adds_as reaches c.deref-2.ensures.value c.in_ok-add_all_reaching-2.ensures.ok))
    c.in_ok-add_reaching_between.ensures.ok) (adds_as (BySome (IsPast (place c.args.sure.now))) c.deref-3.ensures.value a))

pub returns-clause-tidy : goal.returns-clause-tidy
returns-clause-tidy c = on_good c.add_all_past.result (added c) (λ a. a.tidy)

pub returns-clause-gains : goal.returns-clause-gains
returns-clause-gains c = on_good c.add_all_past.result (added c) (λ a. gains_of c.clear.ensures.items a)

pub returns-clause-tells : goal.returns-clause-tells
returns-clause-tells c = on_good c.add_all_past.result (added c)
    (λ a y v gz gx inside t.
    tells_still a (reach_tells gz gx c.requires.runs inside (place c.args.before.now) (place c.args.sure.now) c.requires.order t a.grows))
