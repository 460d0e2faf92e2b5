use Rattle.rational.proofs.PlaceLemmas.{at_most_of_not_before, upto_of_before}
use Rattle.time_sets.specs.Turns.{place}
use Rattle.time_sets.proofs.seeing.ending.Goals as goal

pub returns-then-run_first-clause-second : goal.returns-then-run_first-clause-second
returns-then-run_first-clause-second c t h =
    upto_of_before (place c.args.run.now) (place c.args.part.now) t (c.requires.0 c.if-run_first.true) h

pub returns-else-run_first-clause-first : goal.returns-else-run_first-clause-first
returns-else-run_first-clause-first c = at_most_of_not_before (place c.args.part.now) (place c.args.run.now)
    (λ b. let e = c.requires.1 b in let f = c.if-run_first.false in cc)
