use Rattle.frac128.specs.Cuts.{place}
use Rattle.rational.proofs.PlaceLemmas.{upto_of_before, at_most_of_not_before}
use Rattle.pieces.proofs.order.earlier.Goals as goal

pub returns-then-precedes-clause-first : goal.returns-then-precedes-clause-first
returns-then-precedes-clause-first c t h = upto_of_before (place c.args.to.now) (place c.args.c) t (c.precedes.ensures.0 c.if-precedes.true) h

pub returns-else-precedes-clause-second : goal.returns-else-precedes-clause-second
returns-else-precedes-clause-second c = at_most_of_not_before (place c.args.c) (place c.args.to.now)
    (λ b. let e = c.precedes.ensures.1 b in let f = c.if-precedes.false in cc)
