use Rattle.unit_laws.proofs.OriginTexts.{texts_move as law}
use Rattle.unit_laws.proofs.laws.texts_move.Goals as goal

pub returns : goal.returns
returns c = law
