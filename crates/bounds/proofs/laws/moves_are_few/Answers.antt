use Rattle.bounds.proofs.RestsFew.{moves_are_few as law}
use Rattle.bounds.proofs.laws.moves_are_few.Goals as goal

pub returns : goal.returns
returns c = law
