use Rattle.growing_sets.proofs.BlockLemmas.{here, spot_remove}
use Rattle.growing_sets.proofs.stretches.take_out.Goals as goal

pub remove-requires : goal.remove-requires
remove-requires c = here c.spot_of-here.ensures.spot c.index_mut.result.now c.index_mut.ensures.value

pub returns : goal.returns
returns c = spot_remove c.spot_of-here.ensures.spot c.index_mut.result.now c.index_mut.ensures.value c.remove.new.self c.remove.ensures
