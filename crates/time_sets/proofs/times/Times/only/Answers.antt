use Rattle.time_sets.proofs.SeeingLemmas.{only_of_some}
use Rattle.time_sets.proofs.times.Times.only.Goals as goal

pub some-requires-clause-own : goal.some-requires-clause-own
some-requires-clause-own c = c.complement-not.ensures.of c.args.on.now c.requires.own

pub returns-clause-of : goal.returns-clause-of
returns-clause-of c = c.complement.ensures.of c.args.on.now c.in_ok-seen.ensures.of

pub returns-clause-times : goal.returns-clause-times
returns-clause-times c = λ t l. only_of_some c.args.on.now c.args.w.now c.args.self c.complement-not.result c.in_ok-seen.seen c.complement.result t
    c.complement-not.ensures.times (c.in_ok-seen.ensures.times t l) (c.complement.ensures.times t)
