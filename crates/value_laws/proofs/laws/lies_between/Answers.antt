use Rattle.value_laws.proofs.LawProofs.{lies_between as law}
use Rattle.value_laws.proofs.laws.lies_between.Goals as goal

pub returns : goal.returns
returns c = law
