use Rattle.unit_laws.proofs.OriginRows.{truth_moves as law}
use Rattle.unit_laws.proofs.laws.truth_moves.Goals as goal

pub returns : goal.returns
returns c = law
