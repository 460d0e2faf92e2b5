use Rattle.bounds.proofs.RestsFew.{edges_are_few as law}
use Rattle.bounds.proofs.laws.edges_are_few.Goals as goal

pub returns : goal.returns
returns c = law
