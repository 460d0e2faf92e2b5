use Rattle.agreeing_inputs.proofs.AnswerLaw.{answers_have_one_status as law}
use Rattle.agreeing_inputs.proofs.laws.answers_have_one_status.Goals as goal

pub returns : goal.returns
returns c = law
