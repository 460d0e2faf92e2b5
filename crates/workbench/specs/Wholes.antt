-- A command that holds the whole trace: how it ends; and the status and the line of an ending.
use Rattle.std.specs.Prelude.{◌≡◌, ℕ, Bool, List, [], Option, Result, Ok, Err}
use Rattle.std.specs.Io.KnownBytes.{Appends}
use Rattle.io_edge.specs.Calls.{Drained, Filled}
use Rattle.stl_syntax.specs.Formula.{Formula}
use Rattle.report.specs.Report.{Command}
use Rattle.command_line.specs.ErrTexts.{out_of_memory, read_fault, write_fault, wide_text, too_many_cells_text}
use Rattle.command_line.specs.Writing.{IsPartWritten}
use Rattle.trace_stream.specs.Cases.{IsFault}
pub use Rattle.trace_stream.specs.Streams.{status_of_truth}
use Rattle.trace_stream.specs.declared.case.Case.{Case}
use Rattle.session_mux.specs.Taking.{fault_of}
use Rattle.whole_answers.specs.FromSource.{IsReadWhole, IsStop}
use Rattle.whole_answers.specs.Judging.{IsAnswerOf, IsUnanswered}
use Rattle.whole_answers.specs.declared.no_answer.NoAnswer.{NoAnswer}
use Rattle.workbench.specs.InputFaults.{Fault, fault_text, whole_limits}
use Rattle.workbench.specs.Sessions.{input_fault_text}
use Rattle.workbench.specs.Stopping.{stop_for}
use Rattle.workbench.specs.declared.fault.Stop.{Stop}
use Rattle.workbench.specs.declared.fault.Stop.TheVariants.{Fault as Faulty, Input as FaultyLine, Unread, Unwritten, NoMemory, Wide, TooMany}

-- how the writing of an answer ends
pub data IsWrittenWith (holds : Bool) (text : List ℕ) (held held_after : Option (List ℕ)) : Result Bool Stop → Type 0 where
  all_of_it : Appends held held_after text → IsWrittenWith holds text held held_after (Ok holds)
  a_part : IsPartWritten held held_after text → IsWrittenWith holds text held held_after (Err Unwritten)

-- how a command ends: what was read, and what was written
pub data IsWholeEnd (c : Command) (f : Formula) (i : Drained) (o : Filled) : Result Bool Stop → Type 0 where
  answered : {ending : Result Bool Stop} (case : Case) (holds : Bool) (text : List ℕ) → IsReadWhole whole_limits f i.before i.after i.ended case
      → IsAnswerOf c f case.trace holds text → IsWrittenWith holds text o.before o.after ending → IsWholeEnd c f i o ending
  unanswered : (case : Case) (reason : NoAnswer) → IsReadWhole whole_limits f i.before i.after i.ended case → IsUnanswered c f case.trace reason
      → o.after ≡ o.before → IsWholeEnd c f i o (Err (stop_for reason))
  stopped : (reason : NoAnswer) → IsStop whole_limits f i.before i.after i.ended reason → o.after ≡ o.before
      → IsWholeEnd c f i o (Err (stop_for reason))

-- the status of a reason to stop
abbrev pub status_of_stop : Stop → ℕ
status_of_stop (Faulty fault) = 4
status_of_stop (FaultyLine fault) = 4
status_of_stop Unread = 5
status_of_stop Unwritten = 6
status_of_stop NoMemory = 7
status_of_stop (Wide i den) = 8
status_of_stop (TooMany count) = 9

-- the status of an ending
abbrev pub status_of : Result Bool Stop → ℕ
status_of (Ok holds) = status_of_truth holds
status_of (Err stop) = status_of_stop stop

-- the line of a reason to stop
abbrev pub IsStopLine : Formula → Stop → List ℕ → Type 0
IsStopLine f (Faulty fault) line = (x : Fault) → IsFault f fault x → line ≡ fault_text x
IsStopLine f (FaultyLine fault) line = line ≡ input_fault_text (fault_of fault)
IsStopLine f Unread line = line ≡ read_fault
IsStopLine f Unwritten line = line ≡ write_fault
IsStopLine f NoMemory line = line ≡ out_of_memory
IsStopLine f (Wide i den) line = line ≡ wide_text i den
IsStopLine f (TooMany count) line = line ≡ too_many_cells_text count

-- the line of an ending
abbrev pub IsEndLine : Formula → Result Bool Stop → List ℕ → Type 0
IsEndLine f (Ok holds) line = line ≡ []
IsEndLine f (Err stop) line = IsStopLine f stop line

-- a fault that is stored stands for one
abbrev pub HasFaultFor : Formula → Stop → Type 0
HasFaultFor f (Faulty fault) = (x : Fault) × IsFault f fault x
HasFaultFor f stop = Unit {0}

-- so for an ending
abbrev pub EndsSoundly : Formula → Result Bool Stop → Type 0
EndsSoundly f (Ok holds) = Unit {0}
EndsSoundly f (Err stop) = HasFaultFor f stop
