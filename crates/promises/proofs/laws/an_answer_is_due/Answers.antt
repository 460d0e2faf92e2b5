use Rattle.promises.proofs.Due.{answer_due}
use Rattle.promises.proofs.laws.an_answer_is_due.Goals as goal

pub returns : goal.returns
returns c = answer_due
