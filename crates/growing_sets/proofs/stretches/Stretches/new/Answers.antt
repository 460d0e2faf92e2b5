use Rattle.growing_sets.proofs.BlockLemmas.{counted_none}
use Rattle.growing_sets.proofs.stretches.Stretches.new.Goals as goal

pub invariant_of-result : goal.invariant_of-result
invariant_of-result c = counted_none c.new.ensures.items
