use Rattle.values_exist.proofs.LawProofs.{rows_decide as law}
use Rattle.values_exist.proofs.laws.rows_decide.Goals as goal

pub returns : goal.returns
returns c = law
