use Rattle.bounds.proofs.PartsFew.{places_have_few_parts as law}
use Rattle.bounds.proofs.laws.places_have_few_parts.Goals as goal

pub returns : goal.returns
returns c = law
