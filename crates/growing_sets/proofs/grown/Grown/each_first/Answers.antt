use Rattle.std.proofs.Common.{OnOk}
use Rattle.frac128.specs.Cuts.{place}
use Rattle.growing_sets.specs.Growing.{Adds}
use Rattle.growing_sets.specs.Steps.{BySome, HeldAt}
use Rattle.growing_sets.proofs.WindowLemmas.{on_good}
use Rattle.growing_sets.proofs.AddLemmas.{adds_as, adds_then, gains_of, tells_still}
use Rattle.growing_sets.proofs.LastingLemmas.{BeginsAll, first_tells}
use Rattle.growing_sets.proofs.grown.Grown.each_first.Goals.{After-add_all_held}
use Rattle.growing_sets.proofs.grown.Grown.each_first.Goals as goal

-- what the set had added
added : (c : After-add_all_held) → OnOk c.add_all_held.result
    (Adds (record c.args.self.now { fresh = c.clear.new.self }) c.add_all_held.new.own
    (BeginsAll c.args.w.now (place c.args.start.now) c.args.x.now.spans.items c.args.x.now.fresh.items))
added c =
    on_good c.add_all_held.result c.add_all_held.ensures.ok (λ a. adds_then c.in_ok-add_unseeing.ensures.ok
    (adds_as (BySome (HeldAt c.args.w.now (place c.args.start.now) c.args.x.now.spans.items)) c.deref.ensures.value a))

pub returns-clause-tidy : goal.returns-clause-tidy
returns-clause-tidy c = on_good c.add_all_held.result (added c) (λ a. a.tidy)

pub returns-clause-gains : goal.returns-clause-gains
returns-clause-gains c = on_good c.add_all_held.result (added c) (λ a. gains_of c.clear.ensures.items a)

pub returns-clause-tells : goal.returns-clause-tells
returns-clause-tells c = on_good c.add_all_held.result (added c)
    (λ a gx. tells_still a (first_tells c.args.w.now (place c.args.start.now) c.requires.input c.requires.none gx a.grows))
