-- The commands that answer row by row: the text of the rows so far, and the verdict at the end.
use Rattle.std.specs.Prelude.{◌≡◌, ◌⊎◌, ℕ, Bool, true, false, List, [], Option, Some, None, slice_get}
use Rattle.stl_syntax.specs.Formula.{Formula, Subformula, root}
use Rattle.stl_syntax.specs.Scaling.{scaled, nodes_for}
use Rattle.stl_syntax.specs.Trace.{Header, Row, Trace, start}
use Rattle.stl_syntax.specs.Truth.{Truth}
use Rattle.stl_syntax.specs.Stream.{IsStreamText}
use Rattle.stl_syntax.specs.EarlyText.{IsEarlyText}
use Rattle.stl_syntax.specs.declared.node.Node.{Node}
use Rattle.online_nodes.specs.MarginStream.{IsMarginStream}
use Rattle.online_nodes.specs.StreamedWide.{IsUnstreamed}
use Rattle.trace_reader.specs.declared.refusal.Limits.{Limits}
use Rattle.trace_reader.specs.InputFaults.{whole_limits, stream_limits, AreRowsBefore}

-- the commands that answer row by row
pub data Stream : Type 0 where
  verdicts : Stream
  early : Stream
  margins : Stream

-- the limits of a stream: an early verdict needs the rows so far
abbrev pub limits_of : Stream → Limits
limits_of verdicts = stream_limits
limits_of early = whole_limits
limits_of margins = stream_limits

-- the formula has a stream: one of margins where no node is until or since
abbrev pub HasStream : Stream → Formula → Type 0
HasStream margins f = (i : ℕ) (n : Node) → slice_get f.nodes i ≡ Some n → ¬ IsUnstreamed n
HasStream s f = Unit {0}

-- the text of a stream for rows under a header, with its end where the input has ended
abbrev pub StreamText : Stream → Subformula → Header → List Row → Bool → List ℕ → Type 0
StreamText verdicts p header rows ended text = IsStreamText p header rows ended text
StreamText early p header rows ended text = IsEarlyText p header rows ended text
StreamText margins p header rows ended text = IsMarginStream p header rows ended text

-- the text of a stream for the rows under a header, once it was read
abbrev pub StreamOf : Stream → Formula → Option Header → List Row → Bool → List ℕ → Type 0
StreamOf s f None rows ended text = text ≡ []
StreamOf s f (Some header) rows ended text = StreamText s (root (scaled f header.scale).nodes) header rows ended text

-- of a stream: the text of the rows before the first fault, with its end where the input has ended without one
pub record OwesRows (s : Stream) (f : Formula) (bytes : List ℕ) (ended : Bool) (text : List ℕ) : Type 0 where
  pub header : Option Header
  pub rows : List Row
  pub whole : Bool
  pub before : AreRowsBefore (limits_of s) f bytes ended header rows whole
  pub is : StreamOf s f header rows whole text

-- the formula holds at the start of the trace
abbrev pub HoldsAtStart : Formula → Trace → Type 0
HoldsAtStart f tr = Truth (root (nodes_for f tr)) tr (start tr)

-- 0 for true, 1 for false
abbrev pub status_of_truth : Bool → ℕ
status_of_truth true = 0
status_of_truth false = 1

-- the status tells the truth at the start
abbrev pub TellsTruth : Formula → Trace → ℕ → Type 0
TellsTruth f tr status = ((status ≡ 0) × HoldsAtStart f tr) ⊎ ((status ≡ 1) × (¬ HoldsAtStart f tr))

-- the status of a stream that came to its end
abbrev pub IsLastVerdict : Stream → Formula → Trace → ℕ → Type 0
IsLastVerdict verdicts f tr status = TellsTruth f tr status
IsLastVerdict early f tr status = TellsTruth f tr status
IsLastVerdict margins f tr status = status ≡ 0
