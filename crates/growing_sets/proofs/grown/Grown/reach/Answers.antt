use Rattle.std.proofs.Common.{OnOk}
use Rattle.frac128.specs.Cuts.{place}
use Rattle.growing_sets.specs.Growing.{Adds}
use Rattle.growing_sets.specs.Steps.{BySome}
use Rattle.growing_sets.specs.Reaching.{ReachesAt}
use Rattle.growing_sets.proofs.WindowLemmas.{on_good}
use Rattle.growing_sets.proofs.AddLemmas.{adds_as, adds_then, gains_of, tells_still}
use Rattle.growing_sets.proofs.ReachLemmas.{ReachesNew, to_tells}
use Rattle.growing_sets.proofs.grown.Grown.reach.Goals.{After-add_all_reaching-2}
use Rattle.growing_sets.proofs.grown.Grown.reach.Goals as goal

-- what the set had added
added : (c : After-add_all_reaching-2) → OnOk c.add_all_reaching-2.result
    (Adds (record c.args.self.now { fresh = c.clear.new.self }) c.add_all_reaching-2.new.own
    (ReachesNew c.args.runs.now.spans.items c.args.runs.now.fresh.items c.args.x.now.spans.items c.args.x.now.fresh.items
    (place c.args.x.now.bounds.to)))
added c =
    let reaches = BySome (ReachesAt c.args.runs.now.spans.items c.args.x.now.spans.items (place c.args.x.now.bounds.to)) in
    on_good c.add_all_reaching-2.result c.add_all_reaching-2.ensures.ok (λ a.
    adds_then (adds_as reaches c.deref.ensures.value c.in_ok-add_all_reaching.ensures.ok) (adds_as reaches c.deref-2.ensures.value a))

pub returns-clause-tidy : goal.returns-clause-tidy
returns-clause-tidy c = on_good c.add_all_reaching-2.result (added c) (λ a. a.tidy)

pub returns-clause-gains : goal.returns-clause-gains
returns-clause-gains c = on_good c.add_all_reaching-2.result (added c) (λ a. gains_of c.clear.ensures.items a)

pub returns-clause-tells : goal.returns-clause-tells
returns-clause-tells c = on_good c.add_all_reaching-2.result (added c)
    (λ a y v gz gx inside within t. tells_still a (to_tells gz gx c.requires.runs inside (place c.args.x.now.bounds.to) (λ u o. (within u o).1) t a.grows))
