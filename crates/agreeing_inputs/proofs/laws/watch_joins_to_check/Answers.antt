use Rattle.agreeing_inputs.proofs.AnswerLaw.{watch_joins_to_check as law}
use Rattle.agreeing_inputs.proofs.laws.watch_joins_to_check.Goals as goal

pub returns : goal.returns
returns c = law
