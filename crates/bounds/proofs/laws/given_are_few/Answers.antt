use Rattle.bounds.proofs.GivenFew.{given_are_few as law}
use Rattle.bounds.proofs.laws.given_are_few.Goals as goal

pub returns : goal.returns
returns c = law
