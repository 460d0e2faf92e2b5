use Rattle.std.proofs.Common.{subst}
use Rattle.growing_sets.specs.Spans.{Lies}
use Rattle.growing_sets.specs.Steps.{BySome, Gains}
use Rattle.growing_sets.specs.Showing.{TakesIn}
use Rattle.growing_sets.proofs.WindowLemmas.{on_good}
use Rattle.growing_sets.proofs.AddLemmas.{adds_as, gains_of}
use Rattle.growing_sets.proofs.ShowingLemmas.{takes_of}
use Rattle.growing_sets.proofs.showing.take_in.Goals as goal

pub returns-clause-tidy : goal.returns-clause-tidy
returns-clause-tidy c = on_good c.add_all.result c.add_all.ensures.ok (λ a. a.tidy)

pub returns-clause-gains : goal.returns-clause-gains
returns-clause-gains c =
    let new = c.add_all.new.own in
    on_good c.add_all.result c.add_all.ensures.ok
    (λ a. subst (λ xs. Gains xs new.spans.items new.fresh.items) c.rest.ensures.spans (gains_of c.rest.ensures.fresh a))

pub returns-clause-takes : goal.returns-clause-takes
returns-clause-takes c =
    let new = c.add_all.new.own in
    let mid = c.rest.new.self in
    let fx = c.args.x.now.fresh.items in
    on_good c.add_all.result c.add_all.ensures.ok
    (λ a. subst (λ b. TakesIn b c.args.own.now.spans.items new.spans.items fx) c.rest.ensures.bounds
    (subst (λ xs. TakesIn mid.bounds xs new.spans.items fx) c.rest.ensures.spans (takes_of (adds_as (BySome Lies) c.deref.ensures.value a))))
