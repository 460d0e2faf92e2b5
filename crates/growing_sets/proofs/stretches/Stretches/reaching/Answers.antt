use Rattle.std.proofs.Common.{arith}
use Rattle.growing_sets.proofs.stretches.Stretches.reaching.Goals as goal

pub reaching_in-requires-clause-tidy : goal.reaching_in-requires-clause-tidy
reaching_in-requires-clause-tidy c = rw (← c.self.view_is) at c.requires

pub reaching_in-requires-clause-few : goal.reaching_in-requires-clause-few
reaching_in-requires-clause-few c = let a = c.self.invariant.all in let f = c.self.invariant.few in omega arith

pub returns-clause-within : goal.returns-clause-within
returns-clause-within c = rw (← c.self.view_is) c.reaching_in.ensures.within

pub returns-clause-front : goal.returns-clause-front
returns-clause-front c = rw (← c.self.view_is) c.reaching_in.ensures.front

pub returns-clause-rest : goal.returns-clause-rest
returns-clause-rest c = rw (← c.self.view_is) c.reaching_in.ensures.rest
