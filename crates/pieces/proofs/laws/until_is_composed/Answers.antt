use Rattle.pieces.proofs.Composition.{until_of_chains as law}
use Rattle.pieces.proofs.laws.until_is_composed.Goals as goal

pub returns : goal.returns
returns g c = law g.P.Shape (assumption g.met.P.Shape)
