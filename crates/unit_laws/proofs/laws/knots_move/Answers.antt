use Rattle.unit_laws.proofs.OriginKnots.{knots_move as law}
use Rattle.unit_laws.proofs.laws.knots_move.Goals as goal

pub returns : goal.returns
returns c = law
