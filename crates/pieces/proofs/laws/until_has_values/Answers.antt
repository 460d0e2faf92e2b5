use Rattle.pieces.proofs.Existence.{has_until}
use Rattle.pieces.proofs.laws.until_has_values.Goals as goal

pub returns : goal.returns
returns g c = λ a b o. has_until g.P.Shape (assumption g.met.P.Shape) a b o.left o.right o.begins o.ends o.first o.last
