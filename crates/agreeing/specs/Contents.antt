-- What the commands that judge a whole trace have to tell of it, and the text of each for that.
use Rattle.std.specs.Prelude.{◌≡◌, ℕ, Bool, List, ◌++◌}
use Rattle.stl_syntax.specs.Formula.{Formula}
use Rattle.stl_syntax.specs.Trace.{Trace}
use Rattle.stl_syntax.specs.Knots.{Knots}
use Rattle.stl_syntax.specs.Texts.{AreVerdictLines, AreMarginLines, start_line, newline}
use Rattle.stl_syntax.specs.declared.scale.Scale.{Scale}
use Rattle.stl_syntax.specs.declared.items.Verdict.{Verdict}
use Rattle.stl_syntax.specs.declared.items.Item.{Item}
use Rattle.serde_json.specs.Data.{Data}
use Rattle.serde_json.specs.Written.{compact_text}
use Rattle.report.specs.Json.{IsReportData}
use Rattle.report.specs.Table.{IsTableText}
use Rattle.report.specs.Report.{Command, check, robust, explain, json, table, Out, AreItemLines}

-- verdicts, knots of a robustness, items of an explanation, and the truth at the start
pub record Content : Type 0 where
  pub verdicts : List Verdict
  pub knots : Knots
  pub items : List Item
  pub holds : Bool

-- the text is the lines of these verdicts, and the line of a start with this truth
abbrev pub IsVerdictText : Scale → List Verdict → Bool → List ℕ → Type 0
IsVerdictText scale verdicts holds text = (body : List ℕ) × AreVerdictLines scale verdicts body × (text ≡ body ++ start_line holds)

-- the text of a command for what it tells of a content: `check` the verdicts and the start, `robust` and `table` the knots, `explain` the start
-- and the items, `json` all of it
abbrev pub IsTextOf : Command → Formula → Scale → Content → List ℕ → Type 0
IsTextOf check f scale c text = IsVerdictText scale c.verdicts c.holds text
IsTextOf robust f scale c text = AreMarginLines scale c.knots text
IsTextOf explain f scale c text = (body : List ℕ) × AreItemLines scale f c.items body × (text ≡ start_line c.holds ++ body)
IsTextOf json f scale c text = (report : Data) × IsReportData scale f c.verdicts c.knots c.items c.holds report × (text ≡ compact_text report ++ newline)
IsTextOf table f scale c text = IsTableText scale c.knots text

-- the content is that of the trace: its text in each command is the command's for the trace, and what `check`, `robust` and `table` write is
-- its text there; it has a text of `explain`
pub record IsContentOf (f : Formula) (tr : Trace) (c : Content) : Type 0 where
  pub tells : (command : Command) (text : List ℕ) → IsTextOf command f tr.header.scale c text → Out command f tr text
  pub checked : (text : List ℕ) → Out check f tr text → IsTextOf check f tr.header.scale c text
  pub measured : (text : List ℕ) → Out robust f tr text → IsTextOf robust f tr.header.scale c text
  pub tabled : (text : List ℕ) → Out table f tr text → IsTextOf table f tr.header.scale c text
  pub explained : (text : List ℕ) × IsTextOf explain f tr.header.scale c text

-- what `json` writes is the text of the one content of the trace
abbrev pub JsonTellsAll : Type 0
JsonTellsAll =
    (f : Formula) (tr : Trace) (reported : List ℕ) → Out json f tr reported
    → (c : Content) × IsTextOf json f tr.header.scale c reported × IsContentOf f tr c

-- `table` has the knots of `robust`
abbrev pub TableHasTheKnots : Type 0
TableHasTheKnots =
    (f : Formula) (tr : Trace) (measured tabled : List ℕ) → Out robust f tr measured → Out table f tr tabled
    → (knots : Knots) × AreMarginLines tr.header.scale knots measured × IsTableText tr.header.scale knots tabled
