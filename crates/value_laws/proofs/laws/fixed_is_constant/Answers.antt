use Rattle.value_laws.proofs.LawProofs.{fixed_is_constant as law}
use Rattle.value_laws.proofs.laws.fixed_is_constant.Goals as goal

pub returns : goal.returns
returns c = law
