use Rattle.std.proofs.Common.{false}
use Rattle.frac128.specs.Value.{value}
use Rattle.frac128.specs.Cuts.{place}
use Rattle.growing_sets.proofs.ShowingLemmas.{ends_of}
use Rattle.growing_sets.proofs.showing.bounds_from.Goals as goal

pub returns-in-Some-clause-ends : goal.returns-in-Some-clause-ends
returns-in-Some-clause-ends c =
    ends_of (record { at = value c.args.cut.now.time; after = false })
    (place c.args.bounds.now.to) c.args.bounds.now c.in-Some.rest c.in-Some.ensures.some (λ t l. l.1)

pub returns-in-Some-clause-after : goal.returns-in-Some-clause-after
returns-in-Some-clause-after c = λ t l f u k. ((c.in-Some.ensures.some u).0 k).0

pub returns-in-None-clause-after : goal.returns-in-None-clause-after
returns-in-None-clause-after c = λ t l f u k. absurd (c.in-None.ensures.none t f l.1 l)
