use Rattle.std.proofs.Common.{◌∙◌, ap}
use Rattle.growing_sets.specs.Listed.{joined}
use Rattle.growing_sets.proofs.BlockLemmas.{joined_more}
use Rattle.growing_sets.proofs.stretches.add_block.Goals as goal

pub returns-clause-same : goal.returns-clause-same
returns-clause-same c = ap joined c.in-Ok.ensures.items ∙ joined_more c.args.blocks.now.items _ c.new-ring.ensures.items
