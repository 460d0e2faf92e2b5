use Rattle.std.proofs.Common.{OnOk}
use Rattle.growing_sets.specs.Growing.{Adds}
use Rattle.growing_sets.specs.Windows.{SeesPart}
use Rattle.growing_sets.specs.Steps.{BySome}
use Rattle.growing_sets.proofs.WindowLemmas.{on_good}
use Rattle.growing_sets.proofs.AddLemmas.{adds_as, gains_of, tells_still}
use Rattle.growing_sets.proofs.SetLaws.{some_tells}
use Rattle.growing_sets.proofs.grown.Grown.some.Goals.{After-add_all_seeing}
use Rattle.growing_sets.proofs.grown.Grown.some.Goals as goal

-- what the set had added
added : (c : After-add_all_seeing) → OnOk c.add_all_seeing.result
    (Adds (record c.args.self.now { fresh = c.clear.new.self }) c.add_all_seeing.new.own (BySome (SeesPart c.args.w.now) c.args.x.now.fresh.items))
added c =
    on_good c.add_all_seeing.result c.add_all_seeing.ensures.ok (λ a. adds_as (BySome (SeesPart c.args.w.now)) c.deref.ensures.value a)

pub returns-clause-tidy : goal.returns-clause-tidy
returns-clause-tidy c = on_good c.add_all_seeing.result (added c) (λ a. a.tidy)

pub returns-clause-gains : goal.returns-clause-gains
returns-clause-gains c = on_good c.add_all_seeing.result (added c) (λ a. gains_of c.clear.ensures.items a)

pub returns-clause-tells : goal.returns-clause-tells
returns-clause-tells c = on_good c.add_all_seeing.result (added c)
    (λ a x gx t. tells_still a (some_tells c.args.w.now gx t a.grows))
