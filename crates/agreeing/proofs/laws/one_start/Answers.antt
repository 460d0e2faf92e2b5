use Rattle.agreeing.proofs.StartLaw.{one_start as law}
use Rattle.agreeing.proofs.laws.one_start.Goals as goal

pub returns : goal.returns
returns c = law
