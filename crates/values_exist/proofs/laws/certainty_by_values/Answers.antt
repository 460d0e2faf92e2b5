use Rattle.values_exist.proofs.LawProofs.{certainty_by_values as law}
use Rattle.values_exist.proofs.laws.certainty_by_values.Goals as goal

pub returns : goal.returns
returns c = law
