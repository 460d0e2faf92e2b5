use Rattle.value_laws.proofs.LawProofs.{moves_are_exact as law}
use Rattle.value_laws.proofs.laws.moves_are_exact.Goals as goal

pub returns : goal.returns
returns c = law
