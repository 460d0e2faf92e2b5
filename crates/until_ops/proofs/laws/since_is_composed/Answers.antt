use Rattle.until_ops.proofs.SignalComposition.{since_of_signals as law}
use Rattle.until_ops.proofs.laws.since_is_composed.Goals as goal

pub returns : goal.returns
returns g c = law g.P.Shape (assumption g.met.P.Shape)
