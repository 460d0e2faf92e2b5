use Rattle.pieces.proofs.joining.takes_first.Goals as goal

pub takes_falling-requires-clause-falls : goal.takes_falling-requires-clause-falls
takes_falling-requires-clause-falls g c t u a k m = c.falls_beside.ensures.falls c.if-falls_beside.true t u k

pub takes_falling-requires-clause-rises : goal.takes_falling-requires-clause-rises
takes_falling-requires-clause-rises g c t u a k m = c.falls_beside.ensures.rises c.if-falls_beside.true t u k

pub takes_rising-requires-clause-falls : goal.takes_rising-requires-clause-falls
takes_rising-requires-clause-falls g c t u a k m = c.falls_beside-2.ensures.falls c.if-falls_beside-2.true t u k

pub takes_rising-requires-clause-rises : goal.takes_rising-requires-clause-rises
takes_rising-requires-clause-rises g c t u a k m = c.falls_beside-2.ensures.rises c.if-falls_beside-2.true t u k
