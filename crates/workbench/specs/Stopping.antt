-- The reasons of a stream to stop, and of no answer over a whole trace, among those of a command.
use Rattle.std.specs.Prelude.{Result, Ok, Err}
use Rattle.trace_stream.specs.declared.fault.StreamStop.TheVariants as stream
use Rattle.whole_answers.specs.declared.no_answer.NoAnswer.{NoAnswer}
use Rattle.whole_answers.specs.declared.no_answer.NoAnswer.TheVariants as answer
use Rattle.written_streams.specs.declared.made.Halt.{Halt}
use Rattle.written_streams.specs.declared.made.Halt.TheVariants.{Reader, Unwritten as Refused}
use Rattle.workbench.specs.declared.fault.Stop.{Stop}
use Rattle.workbench.specs.declared.fault.Stop.TheVariants.{Fault, Unread, Unwritten, NoMemory, Wide, TooMany}

-- the reason to stop that a stream's is
abbrev pub stop_of : Halt → Stop
stop_of (Reader (stream.Fault fault)) = Fault fault
stop_of (Reader stream.NoMemory) = NoMemory
stop_of (Reader (stream.Wide node den)) = Wide node den
stop_of Refused = Unwritten

-- what came of bytes, with the reason of the command
abbrev pub outcome_of : {T : Type 0} → Result T Halt → Result T Stop
outcome_of (Ok x) = Ok x
outcome_of (Err halt) = Err (stop_of halt)

-- the reason to stop that one for no answer is
abbrev pub stop_for : NoAnswer → Stop
stop_for (answer.Fault fault) = Fault fault
stop_for answer.Unread = Unread
stop_for answer.NoMemory = NoMemory
stop_for (answer.Wide node den) = Wide node den
stop_for (answer.TooMany count) = TooMany count
