use Rattle.agreeing.proofs.JoinLaw.{covers_join as law}
use Rattle.agreeing.proofs.laws.covers_join.Goals as goal

pub returns : goal.returns
returns c = law
