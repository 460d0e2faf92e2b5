use Rattle.growing_sets.proofs.BlockLemmas.{here, spot_set}
use Rattle.growing_sets.proofs.stretches.put_over.Goals as goal

pub set-requires : goal.set-requires
set-requires c = here c.spot_of-here.ensures.spot c.index_mut.result.now c.index_mut.ensures.value

pub returns : goal.returns
returns c = spot_set c.spot_of-here.ensures.spot c.index_mut.result.now c.index_mut.ensures.value c.set.new.self c.args.stretch c.set.ensures
