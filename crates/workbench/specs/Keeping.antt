-- What a run leaves to its caller.
use Rattle.std.specs.Prelude.{◌≡◌, ℕ, Bool, true, false, List, map}
use Rattle.io_edge.specs.Calls.{Drained, Filled}
use Rattle.stl_syntax.specs.Formula.{Formula, root}
use Rattle.stl_syntax.specs.Trace.{Trace}
use Rattle.early_verdict.specs.Deciding.{Kept as Deciding, Stands}
use Rattle.online_nodes.specs.MarginEdges.{AreEmittedParts}
use Rattle.online_robust.specs.Nets.{Parts, StandsFor}
use Rattle.online_robust.specs.Pasts.{part_of}
use Rattle.online_robust.specs.declared.line.MarginLine.{MarginLine}
use Rattle.session_mux.specs.Muxes.{Muxed, StandsForAll as StandForAll}
use Rattle.trace_reader.specs.TraceText.{lines}
use Rattle.trace_stream.specs.CaseReader.{IsWhole}
use Rattle.workbench.specs.InputFaults.{stream_limits, whole_limits}
use Rattle.workbench.specs.Requests.{Request, stream, verdicts, early, margins, sessions, Asks}
use Rattle.workbench.specs.Running.{IsKeptRightly, IsRun}
use Rattle.workbench.specs.Sessions.{Tagged, AreTagged}
use Rattle.written_streams.specs.Watches.{Watched, StandsForAll}
use Rattle.workbench.specs.declared.kept.Kept.{Kept}
use Rattle.workbench.specs.declared.kept.Kept.TheVariants.{Watch, Early, Mux, Margins}
use Rattle.stl_syntax.specs.Scaling.{nodes_for}

-- the requests that leave something
abbrev pub keeps : Request → Bool
keeps (stream verdicts f) = true
keeps (stream early f) = true
keeps (stream margins f) = true
keeps (sessions f) = true
keeps request = false

-- the watch is of this formula, and stands for the bytes and their end
abbrev pub IsWatchOf : Formula → List ℕ → Watched → Type 0
IsWatchOf f bytes w = (text : List ℕ) × (holds : Bool) × StandsForAll (record { formula = f; limits = stream_limits; bytes = bytes; text = text }) holds w

-- what decided is of this formula, in the ticks of the trace of these bytes, and stands for its rows and their end
pub record IsEarlyOf (f : Formula) (bytes : List ℕ) (x : Deciding) : Type 0 where
  pub tr : Trace
  pub trace : IsWhole whole_limits f bytes tr
  pub nodes : x.nodes ≡ nodes_for f tr
  pub header : x.header ≡ tr.header
  pub stands : Stands x tr.rows true

-- the sessions are of this formula and of the lines of these bytes; each stands for its own lines and their end
abbrev pub AreSessionsOf : Formula → List ℕ → Muxed → Type 0
AreSessionsOf f bytes m = (seen : List Tagged) × AreTagged (lines true bytes) seen × StandForAll (record { formula = f; seen = seen }) m

-- the network is of this formula, in the ticks of the trace of these bytes, and stands for its rows and their end; all that its root gave out
-- was taken
pub record IsNetOf (f : Formula) (bytes : List ℕ) (net : Parts) : Type 0 where
  pub tr : Trace
  pub trace : IsWhole stream_limits f bytes tr
  pub given : List MarginLine
  pub stands : StandsFor (nodes_for f tr) tr.header net (record { rows = tr.rows; ended = true }) given
  pub all : AreEmittedParts (root (nodes_for f tr)) tr.header tr.rows true (map part_of given)

-- it holds what stands for the bytes of a request, all of them
abbrev pub Holds : Request → List ℕ → Kept → Type 0
Holds (stream verdicts f) bytes (Watch w) = IsWatchOf f bytes w
Holds (stream early f) bytes (Early x) = IsEarlyOf f bytes x
Holds (stream margins f) bytes (Margins net) = IsNetOf f bytes net
Holds (sessions f) bytes (Mux m) = AreSessionsOf f bytes m
Holds request bytes kept = ⊥

-- what the words ask for left what it leaves, or else all is as it was; so it is where memory was wanting before that was known
pub data IsLeft (words : List (List ℕ)) (bytes : List ℕ) (status : ℕ) (old new : Kept) : Type 0 where
  asked : (request : Request) → Asks words request → IsKeptRightly Kept Holds keeps request bytes status old new → IsLeft words bytes status old new
  unknown : status ≡ 7 → new ≡ old → IsLeft words bytes status old new

-- the call: the run, and what it left for the bytes that were taken
pub record HasRun (words : List (List ℕ)) (i : Drained) (o e : Filled) (old new : Kept) (status : ℕ) : Type 0 where
  pub run : IsRun words i o e status
  pub left : IsLeft words run.bytes status old new
