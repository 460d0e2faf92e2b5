use Rattle.bounds.proofs.VerdictTurns.{verdicts_are_few as law}
use Rattle.bounds.proofs.laws.verdicts_are_few.Goals as goal

pub returns : goal.returns
returns c = law
