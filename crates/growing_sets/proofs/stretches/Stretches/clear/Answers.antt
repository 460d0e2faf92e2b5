use Rattle.growing_sets.proofs.BlockLemmas.{counted_none}
use Rattle.growing_sets.proofs.stretches.Stretches.clear.Goals as goal

pub invariant_of-self : goal.invariant_of-self
invariant_of-self c = counted_none c.clear.ensures.items
