-- How a request ends by itself, without want of memory and faults of devices: its status, its line on the error stream and its text.
use Rattle.std.specs.Prelude.{◌≡◌, ℕ, ◌≤◌, Bool, true, false, List, [], ◌++◌, length}
use Rattle.stl_syntax.specs.Formula.{Formula, root}
use Rattle.stl_syntax.specs.Trace.{Trace}
use Rattle.trace_reader.specs.TraceText.{lines}
use Rattle.stl_syntax.specs.Scaling.{nodes_for}
use Rattle.report.specs.Report.{Command, Out}
pub use Rattle.trace_stream.specs.Streams.{TellsTruth, IsLastVerdict}
use Rattle.workbench.specs.Requests.{Stream, Request, no_form, refused, whole, stream, sessions, generated, usage_line}
use Rattle.workbench.specs.Owed.{limits_of, StreamText, Owes, OwesLines, HasTooMany}
use Rattle.workbench.specs.InputFaults.{Fault, fault_text, whole_limits, IsInputFault}
use Rattle.trace_stream.specs.CaseReader.{IsWhole}
use Rattle.trace_stream.specs.Wides.{IsWideStream}
use Rattle.workbench.specs.Sessions.{InputFault, FaultOfInput, input_fault_text}
use Rattle.workload_summary.specs.Generator.{IsSummary}
pub use Rattle.whole_answers.specs.Judging.{IsVerdict, TellTruth, Refute, KeptRefute, IsSure, IsNeeded, HasWide}
use Rattle.command_line.specs.ErrTexts.{wide_text, too_many_cells_text}

-- the first fault of the bytes, with its line
abbrev pub HasFault : Request → List ℕ → Bool → List ℕ → Type 0
HasFault (whole c f) bytes ended line = (x : Fault) × IsInputFault whole_limits f bytes ended x × (line ≡ fault_text x)
HasFault (stream s f) bytes ended line = (x : Fault) × IsInputFault (limits_of s) f bytes ended x × (line ≡ fault_text x)
HasFault (sessions f) bytes ended line = (x : InputFault) × FaultOfInput 1 [] (lines ended bytes) x × (line ≡ input_fault_text x)
HasFault request bytes ended line = ⊥

-- no fault was there before the last piece, of at most 4,096 bytes
pub record IsPrompt (request : Request) (bytes : List ℕ) (ended : Bool) : Type 0 where
  pub before : List ℕ
  pub piece : List ℕ
  pub parts : bytes ≡ before ++ piece
  pub short : length piece ≤ 4096
  pub at_end : ended ≡ true → piece ≡ []
  pub sound : (line : List ℕ) → ¬ HasFault request before false line

-- the bytes are all of a trace's, and the text is the command's, with its status
pub record IsAnsweredWhole (c : Command) (f : Formula) (bytes : List ℕ) (status : ℕ) (text : List ℕ) : Type 0 where
  pub tr : Trace
  pub trace : IsWhole whole_limits f bytes tr
  pub written : Out c f tr text
  pub verdict : IsVerdict c f tr status
  pub few : (count : ℕ) → ¬ HasTooMany c f tr count
  pub sure : IsSure c f tr

-- so for a stream
pub record IsAnsweredByRow (s : Stream) (f : Formula) (bytes : List ℕ) (status : ℕ) (text : List ℕ) : Type 0 where
  pub tr : Trace
  pub trace : IsWhole (limits_of s) f bytes tr
  pub written : StreamText s (root (nodes_for f tr)) tr.header tr.rows true text
  pub verdict : IsLastVerdict s f tr status

-- the answer to a request with its status and its whole text
abbrev pub IsAnswered : Request → List ℕ → Bool → ℕ → List ℕ → Type 0
IsAnswered (whole c f) bytes ended status text = (ended ≡ true) × IsAnsweredWhole c f bytes status text
IsAnswered (stream s f) bytes ended status text = (ended ≡ true) × IsAnsweredByRow s f bytes status text
IsAnswered (sessions f) bytes ended status text =
    (ended ≡ true) × (status ≡ 0) × OwesLines f bytes true text × ((x : InputFault) → ¬ FaultOfInput 1 [] (lines true bytes) x)
IsAnswered (generated number rows) bytes ended status text = (status ≡ 0) × IsSummary number rows text
IsAnswered request bytes ended status text = ⊥

-- a whole trace whose robustness needs too large a denominator; an explanation with too many cells comes before it
pub record IsWideWhole (c : Command) (f : Formula) (bytes : List ℕ) (i den : ℕ) : Type 0 where
  pub tr : Trace
  pub trace : IsWhole whole_limits f bytes tr
  pub cause : HasWide c f tr i den
  pub few : (count : ℕ) → ¬ HasTooMany c f tr count

-- the refusal for a denominator, with what was written before it
abbrev pub IsWide : Request → List ℕ → Bool → ℕ → ℕ → List ℕ → Type 0
IsWide (whole c f) bytes ended i den text = (ended ≡ true) × (text ≡ []) × IsWideWhole c f bytes i den
IsWide (stream s f) bytes ended i den text = IsWideStream s (limits_of s) f bytes ended i den text
IsWide request bytes ended i den text = ⊥

-- the refusal for the number of cells
abbrev pub IsOverfull : Request → List ℕ → Bool → ℕ → Type 0
IsOverfull (whole c f) bytes ended count = (ended ≡ true) × ((tr : Trace) × IsWhole whole_limits f bytes tr × HasTooMany c f tr count)
IsOverfull request bytes ended count = ⊥

-- how a request ends by itself: the status, the line and the text
pub data EndsWith (bytes : List ℕ) (ended : Bool) : Request → ℕ → List ℕ → List ℕ → Type 0 where
  none : EndsWith bytes ended no_form 2 usage_line []
  bad : {line : List ℕ} → EndsWith bytes ended (refused line) 3 line []
  faulty : {request : Request} {line text : List ℕ} → HasFault request bytes ended line → IsPrompt request bytes ended → Owes request bytes ended text
      → EndsWith bytes ended request 4 line text
  answered : {request : Request} {status : ℕ} {text : List ℕ} → IsAnswered request bytes ended status text → EndsWith bytes ended request status [] text
  wide : {request : Request} (i den : ℕ) {text : List ℕ} → IsWide request bytes ended i den text → EndsWith bytes ended request 8 (wide_text i den) text
  overfull : {request : Request} (count : ℕ) → IsOverfull request bytes ended count → EndsWith bytes ended request 9 (too_many_cells_text count) []
