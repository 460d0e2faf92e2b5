use Rattle.std.proofs.Common.{OnOk}
use Rattle.frac128.specs.Cuts.{place}
use Rattle.growing_sets.specs.Growing.{Adds}
use Rattle.growing_sets.specs.Steps.{BySome, HeldAt}
use Rattle.growing_sets.proofs.WindowLemmas.{on_good}
use Rattle.growing_sets.proofs.AddLemmas.{adds_as, gains_of, tells_still}
use Rattle.growing_sets.proofs.SetLaws.{each_tells}
use Rattle.growing_sets.proofs.grown.Grown.each.Goals.{After-add_all_held}
use Rattle.growing_sets.proofs.grown.Grown.each.Goals as goal

-- what the set had added
added : (c : After-add_all_held) → OnOk c.add_all_held.result
    (Adds (record c.args.self.now { fresh = c.clear.new.self }) c.add_all_held.new.own
    (BySome (HeldAt c.args.w.now (place c.args.start.now) c.args.x.now.spans.items) c.args.x.now.fresh.items))
added c =
    on_good c.add_all_held.result c.add_all_held.ensures.ok
    (λ a. adds_as (BySome (HeldAt c.args.w.now (place c.args.start.now) c.args.x.now.spans.items)) c.deref.ensures.value a)

pub returns-clause-tidy : goal.returns-clause-tidy
returns-clause-tidy c = on_good c.add_all_held.result (added c) (λ a. a.tidy)

pub returns-clause-gains : goal.returns-clause-gains
returns-clause-gains c = on_good c.add_all_held.result (added c) (λ a. gains_of c.clear.ensures.items a)

pub returns-clause-tells : goal.returns-clause-tells
returns-clause-tells c = on_good c.add_all_held.result (added c)
    (λ a x gx t. tells_still a (each_tells c.args.w.now gx (place c.args.start.now) c.requires.input t a.grows))
