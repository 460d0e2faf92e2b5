use Rattle.run_laws.proofs.LawProofs.{one_answer, one_answer_to_words}
use Rattle.run_laws.proofs.laws.one_answer.Goals as goal

pub returns : goal.returns
returns c = record { request = one_answer; words = one_answer_to_words }
