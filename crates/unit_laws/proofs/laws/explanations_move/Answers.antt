use Rattle.unit_laws.proofs.OriginItems.{explanations_move as law}
use Rattle.unit_laws.proofs.laws.explanations_move.Goals as goal

pub returns : goal.returns
returns c = law
