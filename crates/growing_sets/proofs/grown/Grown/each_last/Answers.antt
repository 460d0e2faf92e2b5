use Rattle.frac128.specs.Cuts.{place}
use Rattle.growing_sets.specs.Steps.{BySome, HeldAt}
use Rattle.growing_sets.proofs.WindowLemmas.{on_good}
use Rattle.growing_sets.proofs.AddLemmas.{adds_as, adds_then, gains_of, grows_after, tells_still}
use Rattle.growing_sets.proofs.SetLaws.{each_tells}
use Rattle.growing_sets.proofs.LastingLemmas.{last_tells}
use Rattle.growing_sets.proofs.grown.Grown.each_last.Goals as goal

pub returns-clause-tidy : goal.returns-clause-tidy
returns-clause-tidy c = on_good c.add_beginning.result c.add_beginning.ensures.ok (λ a. a.tidy)

pub returns-clause-gains : goal.returns-clause-gains
returns-clause-gains c = on_good c.add_beginning.result c.add_beginning.ensures.ok
    (λ a. gains_of c.clear.ensures.items (adds_then c.in_ok-add_all_held.ensures.ok a))

pub returns-clause-tells : goal.returns-clause-tells
returns-clause-tells c =
    let w = c.args.w.now in
    let start = place c.args.start.now in
    let held = adds_as (BySome (HeldAt w start c.args.x.now.spans.items)) c.deref.ensures.value c.in_ok-add_all_held.ensures.ok in
    on_good c.add_beginning.result c.add_beginning.ensures.ok (λ a y gx t. tells_still (adds_then held a)
    (last_tells w start (place c.args.last.now) (place c.run_to.result) c.run_to.ensures.run
    (each_tells w gx start c.requires.input t held.grows) (grows_after c.add_all_held.ensures.bounds a)))
