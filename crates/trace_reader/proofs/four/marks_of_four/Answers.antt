-- The lowest of four bytes above 9 has the lowest mark.
use Rattle.trace_reader.proofs.MarkLemmas.{marks_of_four_are}
use Rattle.trace_reader.proofs.four.marks_of_four.Goals as goal

pub returns : goal.returns
returns c = marks_of_four_are c.args.word
