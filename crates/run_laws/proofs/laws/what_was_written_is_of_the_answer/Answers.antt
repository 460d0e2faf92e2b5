use Rattle.run_laws.proofs.LawProofs.{front_of_the_answer, front_of_more}
use Rattle.run_laws.proofs.laws.what_was_written_is_of_the_answer.Goals as goal

pub returns : goal.returns
returns c = record { answer = front_of_the_answer; more = front_of_more }
