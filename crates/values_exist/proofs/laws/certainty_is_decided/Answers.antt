use Rattle.values_exist.proofs.LawProofs.{certainty_is_decided as law}
use Rattle.values_exist.proofs.laws.certainty_is_decided.Goals as goal

pub returns : goal.returns
returns c = law
