use Rattle.until_ops.proofs.SignalComposition.{until_of_signals as law}
use Rattle.until_ops.proofs.laws.until_is_composed.Goals as goal

pub returns : goal.returns
returns g c = law g.P.Shape (assumption g.met.P.Shape)
