-- Writing the text that a stream made of bytes.
use Rattle.std.specs.Prelude.{◌≢◌, ℕ, List, [], Option, Result, Ok, Err}
use Rattle.std.specs.Io.KnownBytes.{Appends}
use Rattle.trace_stream.specs.declared.fault.StreamStop.{StreamStop}
use Rattle.trace_stream.specs.declared.fault.StreamStop.TheVariants.{NoMemory}
use Rattle.command_line.specs.Writing.{IsPartWritten}
use Rattle.written_streams.specs.declared.made.Halt.{Halt}
use Rattle.written_streams.specs.declared.made.Halt.TheVariants.{Reader, Unwritten}

-- what came of bytes, with the reason of the stream
abbrev pub outcome_of : {T : Type 0} → Result T StreamStop → Result T Halt
outcome_of (Ok x) = Ok x
outcome_of (Err stop) = Err (Reader stop)

-- what came of the bytes: the text that was made was written, unless memory was wanting, or the sink failed in it
pub data IsMadeWritten {T : Type 0} (held held_after : Option (List ℕ)) (text : List ℕ) : Result T StreamStop → Result T Halt → Type 0 where
  no_room : Appends held held_after [] → IsMadeWritten held held_after text (Err NoMemory) (Err (Reader NoMemory))
  made_whole : {outcome : Result T StreamStop} → outcome ≢ Err NoMemory → Appends held held_after text
      → IsMadeWritten held held_after text outcome (outcome_of outcome)
  made_in_part : {outcome : Result T StreamStop} → outcome ≢ Err NoMemory → IsPartWritten held held_after text
      → IsMadeWritten held held_after text outcome (Err Unwritten)
