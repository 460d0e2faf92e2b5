use Rattle.std.proofs.Common.{OnOk}
use Rattle.frac128.specs.Cuts.{place}
use Rattle.growing_sets.specs.Growing.{Adds}
use Rattle.growing_sets.specs.Steps.{BySome}
use Rattle.growing_sets.specs.Sure.{SeesItself, SeesUpto}
use Rattle.growing_sets.proofs.WindowLemmas.{on_good}
use Rattle.growing_sets.proofs.AddLemmas.{adds_as, adds_then, gains_of, tells_still}
use Rattle.growing_sets.proofs.SureLemmas.{BecomesSure, sure_tells}
use Rattle.growing_sets.proofs.grown.Grown.some_sure.Goals.{After-add_themselves}
use Rattle.growing_sets.proofs.grown.Grown.some_sure.Goals as goal

-- what the set had added
added : (c : After-add_themselves) → OnOk c.add_themselves.result
    (Adds (record c.args.self.now { fresh = c.clear.new.self }) c.add_themselves.new.own
    (BecomesSure c.args.w.now (place c.args.before.now) (place c.args.sure.now) c.args.x.now.spans.items c.args.x.now.fresh.items))
added c =
    let w = c.args.w.now in
    on_good c.add_themselves.result c.add_themselves.ensures.ok (λ a.
    adds_then (adds_then (adds_as (BySome (SeesUpto w (place c.args.before.now))) c.deref.ensures.value c.in_ok-add_all_sure.ensures.ok)
    c.in_ok-add_seeing_between.ensures.ok) (adds_as (SeesItself w (place c.args.sure.now)) c.deref-2.ensures.value a))

pub returns-clause-tidy : goal.returns-clause-tidy
returns-clause-tidy c = on_good c.add_themselves.result (added c) (λ a. a.tidy)

pub returns-clause-gains : goal.returns-clause-gains
returns-clause-gains c = on_good c.add_themselves.result (added c) (λ a. gains_of c.clear.ensures.items a)

pub returns-clause-tells : goal.returns-clause-tells
returns-clause-tells c = on_good c.add_themselves.result (added c)
    (λ a y gx t. tells_still a (sure_tells c.args.w.now (place c.args.before.now) (place c.args.sure.now) c.requires.order gx t a.grows))
