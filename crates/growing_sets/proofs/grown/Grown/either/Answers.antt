use Rattle.std.proofs.Common.{◌⊎◌, OnOk}
use Rattle.growing_sets.specs.Growing.{Adds}
use Rattle.growing_sets.specs.Spans.{Lies}
use Rattle.growing_sets.specs.Steps.{BySome}
use Rattle.growing_sets.proofs.WindowLemmas.{on_good}
use Rattle.growing_sets.proofs.AddLemmas.{adds_as, adds_swapped, adds_then, gains_of, tells_still}
use Rattle.growing_sets.proofs.SetLaws.{either_tells}
use Rattle.growing_sets.proofs.grown.Grown.either.Goals.{After-add_all-3, After-add_all-then-is_sooner}
use Rattle.growing_sets.proofs.grown.Grown.either.Goals as goal

-- what the set had added, the second's first
added_back : (c : After-add_all-then-is_sooner) → OnOk c.add_all-then-is_sooner.result
    (Adds (record c.args.self.now { fresh = c.clear.new.self }) c.add_all-then-is_sooner.new.own
    (λ t. BySome Lies c.args.x.now.fresh.items t ⊎ BySome Lies c.args.y.now.fresh.items t))
added_back c =
    on_good c.add_all-then-is_sooner.result c.add_all-then-is_sooner.ensures.ok (λ a.
    adds_swapped (adds_then (adds_as (BySome Lies) c.deref-then-is_sooner.ensures.value c.in_ok-add_all.ensures.ok)
    (adds_as (BySome Lies) c.deref-then-is_sooner-2.ensures.value a)))

pub returns-then-is_sooner-clause-tidy : goal.returns-then-is_sooner-clause-tidy
returns-then-is_sooner-clause-tidy c = on_good c.add_all-then-is_sooner.result (added_back c) (λ a. a.tidy)

pub returns-then-is_sooner-clause-gains : goal.returns-then-is_sooner-clause-gains
returns-then-is_sooner-clause-gains c = on_good c.add_all-then-is_sooner.result (added_back c) (λ a. gains_of c.clear.ensures.items a)

pub returns-then-is_sooner-clause-tells : goal.returns-then-is_sooner-clause-tells
returns-then-is_sooner-clause-tells c = on_good c.add_all-then-is_sooner.result (added_back c)
    (λ a x y gx gy t. tells_still a (either_tells gx gy t a.grows))

-- and the first's first
added : (c : After-add_all-3) → OnOk c.add_all-3.result
    (Adds (record c.args.self.now { fresh = c.clear.new.self }) c.add_all-3.new.own
    (λ t. BySome Lies c.args.x.now.fresh.items t ⊎ BySome Lies c.args.y.now.fresh.items t))
added c =
    on_good c.add_all-3.result c.add_all-3.ensures.ok (λ a.
    adds_then (adds_as (BySome Lies) c.deref-3.ensures.value c.in_ok-add_all-2.ensures.ok) (adds_as (BySome Lies) c.deref-4.ensures.value a))

pub returns-clause-tidy : goal.returns-clause-tidy
returns-clause-tidy c = on_good c.add_all-3.result (added c) (λ a. a.tidy)

pub returns-clause-gains : goal.returns-clause-gains
returns-clause-gains c = on_good c.add_all-3.result (added c) (λ a. gains_of c.clear.ensures.items a)

pub returns-clause-tells : goal.returns-clause-tells
returns-clause-tells c = on_good c.add_all-3.result (added c)
    (λ a x y gx gy t. tells_still a (either_tells gx gy t a.grows))
