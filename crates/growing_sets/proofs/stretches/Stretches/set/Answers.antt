use Rattle.growing_sets.proofs.BlockLemmas.{counted_set}
use Rattle.growing_sets.proofs.stretches.Stretches.set.Goals as goal

pub put_over-requires : goal.put_over-requires
put_over-requires c = rw (← c.self.view_is) at c.requires

pub invariant_of-self : goal.invariant_of-self
invariant_of-self c = counted_set c.args.at c.args.stretch c.self.invariant c.put_over.ensures

pub returns : goal.returns
returns c = rw (← c.self.view_is) c.put_over.ensures
