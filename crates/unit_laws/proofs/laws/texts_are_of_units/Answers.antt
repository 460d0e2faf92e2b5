use Rattle.unit_laws.proofs.CoarserVerdicts.{law_of_units as law}
use Rattle.unit_laws.proofs.laws.texts_are_of_units.Goals as goal

pub returns : goal.returns
returns c = law
