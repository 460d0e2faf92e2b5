use Rattle.value_laws.proofs.LawProofs.{negation_is_exact as law}
use Rattle.value_laws.proofs.laws.negation_is_exact.Goals as goal

pub returns : goal.returns
returns c = law
