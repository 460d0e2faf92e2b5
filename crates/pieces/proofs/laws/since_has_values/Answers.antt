use Rattle.pieces.proofs.Existence.{has_since}
use Rattle.pieces.proofs.laws.since_has_values.Goals as goal

pub returns : goal.returns
returns g c = λ a b o. has_since g.P.Shape (assumption g.met.P.Shape) a b o.left o.right o.begins o.ends o.first o.last
