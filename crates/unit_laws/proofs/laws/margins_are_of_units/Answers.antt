use Rattle.unit_laws.proofs.StreamsKept.{margins_are_of_units as law}
use Rattle.unit_laws.proofs.laws.margins_are_of_units.Goals as goal

pub returns : goal.returns
returns c = law
