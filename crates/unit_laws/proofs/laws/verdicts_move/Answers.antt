use Rattle.unit_laws.proofs.OriginVerdicts.{verdicts_move as law}
use Rattle.unit_laws.proofs.laws.verdicts_move.Goals as goal

pub returns : goal.returns
returns c = law
