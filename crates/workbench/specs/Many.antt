-- Several sessions in one input, as a stream: what is told of it, and what stands between two pieces.
use Rattle.std.specs.Prelude.{◌≡◌, ◌≢◌, ℕ, List, [], Option, Result, Ok, Err}
use Rattle.std.specs.Io.KnownBytes.{Appends}
use Rattle.session_mux.specs.Taking.{IsTaking}
use Rattle.session_mux.specs.declared.stop.InputStop.{InputStop}
use Rattle.session_mux.specs.declared.stop.InputStop.TheVariants as input
use Rattle.command_line.specs.Writing.{IsPartWritten}
use Rattle.workbench.specs.declared.fault.Stop.{Stop}
use Rattle.workbench.specs.declared.fault.Stop.TheVariants.{Input as FaultyLine, Unwritten, NoMemory}
use Rattle.workbench.specs.declared.many.Many.{Many}

-- the reason to stop that an input's is
abbrev pub stop_of_input : InputStop → Stop
stop_of_input (input.Fault fault) = FaultyLine fault
stop_of_input input.NoMemory = NoMemory

-- what came of its bytes, with the reason of the command
abbrev pub outcome_of_input : Result (Unit {0}) InputStop → Result (Unit {0}) Stop
outcome_of_input (Ok x) = Ok x
outcome_of_input (Err stop) = Err (stop_of_input stop)

-- what came of the bytes: the text that was made was written, unless memory was wanting, or the sink failed in it
pub data IsInputWritten (held held_after : Option (List ℕ)) (text : List ℕ) : Result (Unit {0}) InputStop → Result (Unit {0}) Stop → Type 0 where
  no_room : Appends held held_after [] → IsInputWritten held held_after text (Err input.NoMemory) (Err NoMemory)
  made_whole : {outcome : Result (Unit {0}) InputStop} → outcome ≢ Err input.NoMemory → Appends held held_after text
      → IsInputWritten held held_after text outcome (outcome_of_input outcome)
  made_in_part : {outcome : Result (Unit {0}) InputStop} → outcome ≢ Err input.NoMemory → IsPartWritten held held_after text
      → IsInputWritten held held_after text outcome (Err Unwritten)

-- the input took these bytes, and all the text that it made was written
pub record IsManyAtRest (m : Many) (bytes text : List ℕ) : Type 0 where
  pub taking : IsTaking m.formula m.input bytes text
  pub empty : m.input.text ≡ []
