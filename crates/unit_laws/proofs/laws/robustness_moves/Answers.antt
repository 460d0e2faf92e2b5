use Rattle.unit_laws.proofs.OriginRows.{robustness_moves as law}
use Rattle.unit_laws.proofs.laws.robustness_moves.Goals as goal

pub returns : goal.returns
returns c = law
