use Rattle.std.proofs.Common.{arith}
use Rattle.growing_sets.proofs.BlockLemmas.{counted_none, counted_behind}
use Rattle.growing_sets.proofs.stretches.Stretches.push_back.Goals as goal

pub invariant_of-self : goal.invariant_of-self
invariant_of-self c = counted_none c.clear.ensures.items

pub invariant_of-self-2 : goal.invariant_of-self-2
invariant_of-self-2 c = let f = c.self.invariant.few in counted_behind c.args.stretch c.self.invariant (omega arith) c.in-Ok.ensures

pub returns : goal.returns
returns c = rw (← c.self.view_is) c.in-Ok.ensures
