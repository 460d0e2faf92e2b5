use Rattle.until_ops.proofs.SignalExistence.{has_until as law}
use Rattle.until_ops.proofs.laws.until_has_values.Goals as goal

pub returns : goal.returns
returns g c = law g.P.Shape (assumption g.met.P.Shape)
