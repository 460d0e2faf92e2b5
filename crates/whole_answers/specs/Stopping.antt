-- The reasons of a reader to stop, among those for no answer.
use Rattle.std.specs.Prelude.{Result, Ok, Err}
use Rattle.trace_stream.specs.declared.fault.StreamStop.{StreamStop}
use Rattle.trace_stream.specs.declared.fault.StreamStop.TheVariants as stream
use Rattle.whole_answers.specs.declared.no_answer.NoAnswer.{NoAnswer}
use Rattle.whole_answers.specs.declared.no_answer.NoAnswer.TheVariants.{Fault, NoMemory, Wide}

-- the reason that a reader's is
abbrev pub reason_of : StreamStop → NoAnswer
reason_of (stream.Fault fault) = Fault fault
reason_of stream.NoMemory = NoMemory
reason_of (stream.Wide node den) = Wide node den

-- what came of bytes, with the reason of the command
abbrev pub outcome_of : {T : Type 0} → Result T StreamStop → Result T NoAnswer
outcome_of (Ok x) = Ok x
outcome_of (Err stop) = Err (reason_of stop)
