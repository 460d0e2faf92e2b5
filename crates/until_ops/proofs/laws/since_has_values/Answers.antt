use Rattle.until_ops.proofs.SignalExistence.{has_since as law}
use Rattle.until_ops.proofs.laws.since_has_values.Goals as goal

pub returns : goal.returns
returns g c = law g.P.Shape (assumption g.met.P.Shape)
