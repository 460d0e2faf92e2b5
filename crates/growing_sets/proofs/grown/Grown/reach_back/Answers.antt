use Rattle.std.proofs.Common.{◌⊎◌, ◌∙◌, OnOk, subst, sym}
use Rattle.frac128.specs.Cuts.{place}
use Rattle.growing_sets.specs.Growing.{Adds}
use Rattle.growing_sets.specs.Steps.{BySome, Tells}
use Rattle.growing_sets.specs.Reaching.{GoesBackBy, IsCarried, ReachedAt}
use Rattle.growing_sets.proofs.WindowLemmas.{on_good}
use Rattle.growing_sets.proofs.AddLemmas.{adds_as, adds_then, gains_of}
use Rattle.growing_sets.proofs.ReachLemmas.{ReachedNew, back_tells}
use Rattle.growing_sets.proofs.grown.Grown.reach_back.Goals.{After-add_carried}
use Rattle.growing_sets.proofs.grown.Grown.reach_back.Goals as goal

-- what the set had added
added : (c : After-add_carried) → OnOk c.add_carried.result (Adds (record c.args.self.now { fresh = c.clear.new.self }) c.add_carried.new.own
    (λ t. ReachedNew c.args.runs.now.spans.items c.args.runs.now.fresh.items c.args.x.now.spans.items c.args.x.now.fresh.items t
    ⊎ IsCarried c.args.carried (place c.args.self.now.bounds.from) c.args.runs.now.spans.items t))
added c =
    let z = c.args.runs.now.spans.items in
    let reached = BySome (ReachedAt z c.args.x.now.spans.items) in
    let second = c.add_all_reached-2.new.own in
    on_good c.add_carried.result c.add_carried.ensures.ok (λ a.
    adds_then (adds_then (adds_as reached c.deref.ensures.value c.in_ok-add_all_reached.ensures.ok)
    (adds_as reached c.deref-2.ensures.value c.in_ok-add_all_reached-2.ensures.ok))
    (subst (λ s. Adds second c.add_carried.new.own (IsCarried c.args.carried (place s.from) z))
    (c.add_all_reached-2.ensures.bounds ∙ c.add_all_reached.ensures.bounds) a))

pub returns-clause-tidy : goal.returns-clause-tidy
returns-clause-tidy c = on_good c.add_carried.result (added c) (λ a. a.tidy)

pub returns-clause-gains : goal.returns-clause-gains
returns-clause-gains c = on_good c.add_carried.result (added c) (λ a. gains_of c.clear.ensures.items a)

pub returns-clause-tells : goal.returns-clause-tells
returns-clause-tells c = on_good c.add_carried.result (added c)
    (λ a y v gz gx inside t.
    subst (λ s. Tells s c.add_carried.new.own.spans.items
    (GoesBackBy c.args.carried (place s.from) c.args.runs.now.spans.items c.args.x.now.spans.items)) (sym a.bounds)
    (back_tells gz gx c.requires.runs inside c.args.carried (place c.args.self.now.bounds.from) t a.grows))
