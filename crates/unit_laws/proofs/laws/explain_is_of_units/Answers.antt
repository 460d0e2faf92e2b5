use Rattle.unit_laws.proofs.ExplainBack.{explain_is_of_units as law}
use Rattle.unit_laws.proofs.laws.explain_is_of_units.Goals as goal

pub returns : goal.returns
returns c = law
