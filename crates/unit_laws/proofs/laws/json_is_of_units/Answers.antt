use Rattle.unit_laws.proofs.ExplainBack.{json_is_of_units as law}
use Rattle.unit_laws.proofs.laws.json_is_of_units.Goals as goal

pub returns : goal.returns
returns c = law
