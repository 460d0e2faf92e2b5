use Rattle.frac128.specs.Cuts.{place}
use Rattle.growing_sets.specs.Sure.{SeesItself}
use Rattle.growing_sets.proofs.AddLemmas.{adds_none, adds_alike}
use Rattle.growing_sets.proofs.WindowLemmas.{on_good}
use Rattle.growing_sets.proofs.sure.add_themselves.Goals as goal

pub returns-then-not-sees_itself-clause-ok : goal.returns-then-not-sees_itself-clause-ok
returns-then-not-sees_itself-clause-ok c =
    adds_none (SeesItself c.args.w.now (place c.args.cut.now) c.args.parts.now) c.requires
    (λ t b h. c.sees_itself.ensures.no c.if-not-sees_itself.true t h.1)

pub returns-clause-ok : goal.returns-clause-ok
returns-clause-ok c =
    on_good c.add_all_past.result c.add_all_past.ensures.ok
    (λ a. adds_alike a (λ t b h. (h, c.sees_itself.ensures.yes c.if-not-sees_itself.false t)) (λ t b h. h.0))
