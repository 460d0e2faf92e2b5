use Rattle.time_sets.proofs.MakingLemmas.{can_end}
use Rattle.time_sets.proofs.making.finish.Goals as goal

pub put-requires : goal.put-requires
put-requires c = can_end c.args.on.now c.in-Some.end c.in-Some.end c.args.made c.args.last c.in-Some.end c.in-Some.is c.requires
