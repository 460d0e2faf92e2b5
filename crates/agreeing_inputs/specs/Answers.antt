-- What the answers of several commands to one input tell.
use Rattle.std.specs.Prelude.{◌≡◌, ℕ, Bool, List}
use Rattle.stl_syntax.specs.Formula.{Formula}
use Rattle.stl_syntax.specs.Trace.{Trace}
use Rattle.stl_syntax.specs.Knots.{Knots}
use Rattle.stl_syntax.specs.Texts.{AreMarginLines}
use Rattle.stl_syntax.specs.declared.items.Verdict.{Verdict}
use Rattle.online_nodes.specs.MarginEdges.{Part}
use Rattle.report.specs.Report.{Command, check, robust, json, table}
use Rattle.trace_stream.specs.CaseReader.{IsWhole}
use Rattle.agreeing.specs.Contents.{Content, IsVerdictText, IsTextOf}
use Rattle.agreeing.specs.Joined.{AreJoined}
use Rattle.workbench.specs.InputFaults.{whole_limits}
use Rattle.workbench.specs.Requests.{Stream, verdicts, margins}
use Rattle.workbench.specs.Ended.{TellsTruth, IsAnsweredWhole, IsAnsweredByRow}
use Rattle.promises.specs.SureMargins.{ArePartLines}
use Rattle.agreeing_inputs.specs.JoinedParts.{AreJoinedParts}

-- where `json` answers, each command that holds the whole trace answers with the text of one content
abbrev pub AnswersHaveOneContent : Type 0
AnswersHaveOneContent =
    (f : Formula) (bytes reported : List ℕ) (status : ℕ) → IsAnsweredWhole json f bytes status reported
    → (tr : Trace) × (c : Content) × IsWhole whole_limits f bytes tr × IsTextOf json f tr.header.scale c reported
    × ((command : Command) (text : List ℕ) (other : ℕ) → IsAnsweredWhole command f bytes other text → IsTextOf command f tr.header.scale c text)

-- the verdicts of `watch`, joined where one truth goes on, are those of `check`, and both tell one start
abbrev pub WatchJoinsToCheck : Type 0
WatchJoinsToCheck =
    (f : Formula) (bytes watched checked : List ℕ) (status other : ℕ) → IsAnsweredByRow verdicts f bytes status watched
    → IsAnsweredWhole check f bytes other checked
    → (tr : Trace) × (parts told : List Verdict) × (holds : Bool) × IsWhole whole_limits f bytes tr
    × IsVerdictText tr.header.scale parts holds watched × IsVerdictText tr.header.scale told holds checked × AreJoined parts told

-- the points and gaps of `rwatch`, joined where one line goes on, are the knots and pieces of `robust`
abbrev pub RwatchJoinsToRobust : Type 0
RwatchJoinsToRobust =
    (f : Formula) (bytes watched measured : List ℕ) (status other : ℕ) → IsAnsweredByRow margins f bytes status watched
    → IsAnsweredWhole robust f bytes other measured
    → (tr : Trace) × (parts : List Part) × (knots : Knots) × IsWhole whole_limits f bytes tr
    × ArePartLines tr.header.scale parts watched × AreMarginLines tr.header.scale knots measured × AreJoinedParts parts knots

-- the command judges the start: its status is 0 where the formula holds there, and 1 where it fails
abbrev pub JudgesStart : Command → Type 0
JudgesStart robust = ⊥
JudgesStart table = ⊥
JudgesStart command = Unit {0}

-- so does the stream
abbrev pub JudgesStartByRow : Stream → Type 0
JudgesStartByRow margins = ⊥
JudgesStartByRow stream = Unit {0}

-- this is the status of each answer to the bytes that judges the start
pub record IsOneStatus (f : Formula) (bytes : List ℕ) (status : ℕ) : Type 0 where
  pub whole : (command : Command) (text : List ℕ) (other : ℕ) → JudgesStart command → IsAnsweredWhole command f bytes other text → other ≡ status
  pub by_row : (stream : Stream) (text : List ℕ) (other : ℕ) → JudgesStartByRow stream → IsAnsweredByRow stream f bytes other text → other ≡ status

-- the answers to the bytes of a trace that judge its start have one status, 0 or 1: that of the truth there
abbrev pub AnswersHaveOneStatus : Type 0
AnswersHaveOneStatus =
    (f : Formula) (bytes : List ℕ) (tr : Trace) → IsWhole whole_limits f bytes tr → (status : ℕ) × TellsTruth f tr status × IsOneStatus f bytes status
