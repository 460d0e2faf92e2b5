-- The lowest byte above 9 has the lowest mark.
use Rattle.trace_reader.proofs.MarkLemmas.{marks_are}
use Rattle.trace_reader.proofs.eight.marks.Goals as goal

pub returns : goal.returns
returns c = marks_are c.args.word
