use Rattle.std.proofs.Common.{◌⊎◌, OnOk}
use Rattle.growing_sets.specs.Growing.{Adds}
use Rattle.growing_sets.specs.Steps.{BySome, Common}
use Rattle.growing_sets.proofs.WindowLemmas.{on_good}
use Rattle.growing_sets.proofs.AddLemmas.{adds_as, adds_then, gains_of, tells_still}
use Rattle.growing_sets.proofs.SetLaws.{both_tells}
use Rattle.growing_sets.proofs.grown.Grown.both.Goals.{After-add_all_common-2}
use Rattle.growing_sets.proofs.grown.Grown.both.Goals as goal

-- what the set had added
added : (c : After-add_all_common-2) → OnOk c.add_all_common-2.result
    (Adds (record c.args.self.now { fresh = c.clear.new.self }) c.add_all_common-2.new.own
    (λ t. BySome (Common c.args.y.now.spans.items) c.args.x.now.fresh.items t ⊎ BySome (Common c.args.x.now.spans.items) c.args.y.now.fresh.items t))
added c =
    on_good c.add_all_common-2.result c.add_all_common-2.ensures.ok (λ a.
    adds_then (adds_as (BySome (Common c.args.y.now.spans.items)) c.deref.ensures.value c.in_ok-add_all_common.ensures.ok)
    (adds_as (BySome (Common c.args.x.now.spans.items)) c.deref-2.ensures.value a))

pub returns-clause-tidy : goal.returns-clause-tidy
returns-clause-tidy c = on_good c.add_all_common-2.result (added c) (λ a. a.tidy)

pub returns-clause-gains : goal.returns-clause-gains
returns-clause-gains c = on_good c.add_all_common-2.result (added c) (λ a. gains_of c.clear.ensures.items a)

pub returns-clause-tells : goal.returns-clause-tells
returns-clause-tells c = on_good c.add_all_common-2.result (added c)
    (λ a x y gx gy t. tells_still a (both_tells gx gy t a.grows))
