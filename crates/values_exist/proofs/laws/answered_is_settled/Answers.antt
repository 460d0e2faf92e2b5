use Rattle.values_exist.proofs.LawProofs.{answered_is_settled as law}
use Rattle.values_exist.proofs.laws.answered_is_settled.Goals as goal

pub returns : goal.returns
returns c = law
