use Rattle.agreeing_inputs.proofs.AnswerLaw.{rwatch_joins_to_robust as law}
use Rattle.agreeing_inputs.proofs.laws.rwatch_joins_to_robust.Goals as goal

pub returns : goal.returns
returns c = law
