-- The text that a request is owed for the bytes so far, which the input may have ended.
use Rattle.std.specs.Prelude.{◌≡◌, ℕ, Bool, true, false, List, []}
use Rattle.stl_syntax.specs.Formula.{Formula}
use Rattle.stl_syntax.specs.Trace.{Trace}
use Rattle.report.specs.Report.{Command, Out}
pub use Rattle.trace_stream.specs.Streams.{limits_of, StreamText, StreamOf, OwesRows}
use Rattle.workbench.specs.Requests.{Request, no_form, refused, whole, stream, sessions, generated}
use Rattle.workbench.specs.InputFaults.{Fault, whole_limits, IsInputFault}
use Rattle.trace_stream.specs.CaseReader.{IsWhole}
pub use Rattle.session_mux.specs.Inputs.{fault_line, AreLinesBefore, sound, faulted, OwesLines}
use Rattle.workload_summary.specs.Generator.{IsSummary}
pub use Rattle.whole_answers.specs.Judging.{IsUnexplained, HasTooMany}

-- of a command that holds the whole trace: nothing before the end, nothing where the bytes have a fault, and nothing where it would explain too many cells
pub data OwesAtEnd (c : Command) (f : Formula) (bytes : List ℕ) : Bool → List ℕ → Type 0 where
  not_yet : OwesAtEnd c f bytes false []
  faulty : (x : Fault) → IsInputFault whole_limits f bytes true x → OwesAtEnd c f bytes true []
  too_many : (tr : Trace) (count : ℕ) → IsWhole whole_limits f bytes tr → HasTooMany c f tr count → OwesAtEnd c f bytes true []
  at_end : {text : List ℕ} (tr : Trace) → IsWhole whole_limits f bytes tr → ((count : ℕ) → ¬ HasTooMany c f tr count) → Out c f tr text
      → OwesAtEnd c f bytes true text

-- the text that is owed
abbrev pub Owes : Request → List ℕ → Bool → List ℕ → Type 0
Owes no_form bytes ended text = text ≡ []
Owes (refused line) bytes ended text = text ≡ []
Owes (whole c f) bytes ended text = OwesAtEnd c f bytes ended text
Owes (stream s f) bytes ended text = OwesRows s f bytes ended text
Owes (sessions f) bytes ended text = OwesLines f bytes ended text
Owes (generated number rows) bytes ended text = IsSummary number rows text
