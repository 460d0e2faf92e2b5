use Rattle.values_exist.proofs.LawProofs.{margins_hold as law}
use Rattle.values_exist.proofs.laws.margins_hold.Goals as goal

pub returns : goal.returns
returns c = law
