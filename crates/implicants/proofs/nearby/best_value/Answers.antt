use Rattle.implicants.proofs.NearBest.{best_passes}
use Rattle.implicants.proofs.nearby.best_value.Goals as goal

pub returns : goal.returns
returns c t v passes = best_passes c.of.result c.args.best t v c.of.ensures passes
