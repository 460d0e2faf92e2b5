use Rattle.value_laws.proofs.LawProofs.{comes_close as law}
use Rattle.value_laws.proofs.laws.comes_close.Goals as goal

pub returns : goal.returns
returns c = law
