use Rattle.time_sets.proofs.MakingLemmas.{adds_nothing, adds_first, can_begin, adds_apart, adds_longer}
use Rattle.time_sets.proofs.making.add.Goals as goal

pub returns-then-not-precedes : goal.returns-then-not-precedes
returns-then-not-precedes c = adds_nothing c.args.on.now c.args.begin c.args.end c.args.last c.args.made.now c.requires
    (λ b. let e = c.precedes.ensures.1 b in let f = c.if-not-precedes.true in cc)

pub returns-then-not-precedes-2 : goal.returns-then-not-precedes-2
returns-then-not-precedes-2 c = adds_longer c.args.on.now c.args.begin c.args.end c.args.made.now c.args.last c.in-Some.was c.later.result.now c.in-Some.is
    c.requires (λ b. let e = c.precedes-in-Some.ensures.1 b in let f = c.if-not-precedes-2.true in cc)
    c.later.ensures.one c.later.ensures.first c.later.ensures.second

pub put-requires-in-Some-2 : goal.put-requires-in-Some-2
put-requires-in-Some-2 c = can_begin c.args.on.now c.args.begin c.args.end c.args.made.now c.put-in-Some.new.made c.args.last c.in-Some.was c.in-Some.is
    c.requires.grown (c.precedes-in-Some.ensures.0 c.if-not-precedes-2.false) c.in_ok-put-in-Some.ensures

pub returns-in_ok-put-in-None : goal.returns-in_ok-put-in-None
returns-in_ok-put-in-None c = adds_first c.args.on.now c.args.begin c.args.end c.args.made.now c.put.new.made c.args.last c.in-None.is c.requires
    (c.precedes.ensures.0 c.if-not-precedes.false) c.in_ok-put-in-None.ensures

pub returns-in_ok-put-in-Some-2 : goal.returns-in_ok-put-in-Some-2
returns-in_ok-put-in-Some-2 c = adds_apart c.args.on.now c.args.begin c.args.end c.args.made.now c.put-in-Some.new.made c.put-in-Some-2.new.made
    c.args.last c.in-Some.was c.in-Some.is c.requires (c.precedes.ensures.0 c.if-not-precedes.false)
    (c.precedes-in-Some.ensures.0 c.if-not-precedes-2.false) c.in_ok-put-in-Some.ensures c.in_ok-put-in-Some-2.ensures
