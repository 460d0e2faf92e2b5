use Rattle.values_exist.proofs.LawProofs.{one_robustness as law}
use Rattle.values_exist.proofs.laws.one_robustness.Goals as goal

pub returns : goal.returns
returns c = law
