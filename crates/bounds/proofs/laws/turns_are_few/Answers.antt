use Rattle.bounds.proofs.FormulaTurns.{turns_are_few as law}
use Rattle.bounds.proofs.laws.turns_are_few.Goals as goal

pub returns : goal.returns
returns c = law
