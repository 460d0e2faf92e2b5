use Rattle.values_exist.proofs.LawProofs.{truth_is_decided as law}
use Rattle.values_exist.proofs.laws.truth_is_decided.Goals as goal

pub returns : goal.returns
returns c = law
