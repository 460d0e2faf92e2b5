use Rattle.value_laws.proofs.LawProofs.{meet_once as law}
use Rattle.value_laws.proofs.laws.meet_once.Goals as goal

pub returns : goal.returns
returns c = law
