-- What an explanation comes to.
use Rattle.std.specs.Prelude.{◌≡◌, ◌⊎◌, ℕ, Bool, true, false, List, [], ◌∷◌, ◌++◌}
use Rattle.stl_syntax.specs.Formula.{Formula, root}
use Rattle.stl_syntax.specs.Trace.{Trace, start}
use Rattle.stl_syntax.specs.Kleene.{MustNot}
use Rattle.stl_syntax.specs.Kept.{Kept}
use Rattle.stl_syntax.specs.Knots.{Knots}
use Rattle.stl_syntax.specs.Texts.{newline, start_line}
use Rattle.stl_syntax.specs.declared.items.Item.{Item}
use Rattle.stl_syntax.specs.declared.items.Verdict.{Verdict}
use Rattle.serde_json.specs.Data.{Data}
use Rattle.serde_json.specs.Written.{compact_text}
use Rattle.stl_syntax.specs.Scaling.{nodes_for}
use Rattle.report.specs.Json.{IsReportData}
use Rattle.report.specs.Report.{IsItemLines, AreItemLines}
use Rattle.trace_stream.specs.Streams.{HoldsAtStart}
use Rattle.workbench.specs.InputFaults.{whole_limits}
use Rattle.trace_stream.specs.CaseReader.{IsWhole}
use Rattle.workbench.specs.Ended.{Refute}

-- the lines are those of the cells that are kept, where neighbours that touch are one; they refute the formula, and without any one of
-- them it is not certainly false
pub record AreReasons (f : Formula) (tr : Trace) (lines : List Item) : Type 0 where
  pub items : List Item
  pub kept : Kept (nodes_for f tr) tr items
  pub joined : IsItemLines items lines
  pub refute : Refute f tr lines
  pub needed : (before after : List Item) (e : Item) → lines ≡ before ++ e ∷ after → ¬ MustNot (root (nodes_for f tr)) (before ++ after) tr (start tr)

-- status 1, the line of a start that is false, and the lines of reasons
pub record IsRefutation (f : Formula) (tr : Trace) (status : ℕ) (text : List ℕ) : Type 0 where
  pub status_is : status ≡ 1
  pub fails : ¬ HoldsAtStart f tr
  pub lines : List Item
  pub body : List ℕ
  pub reasons : AreReasons f tr lines
  pub written : AreItemLines tr.header.scale f lines body
  pub text_is : text ≡ start_line false ++ body

-- the bytes are all of a trace's, and the text is the object of a report. Status 0, a start that is true and no items, where the formula holds
-- there; else status 1, a start that is false, and the items of reasons
pub record IsReportAccount (f : Formula) (bytes text : List ℕ) (status : ℕ) : Type 0 where
  pub tr : Trace
  pub trace : IsWhole whole_limits f bytes tr
  pub verdicts : List Verdict
  pub knots : Knots
  pub items : List Item
  pub holds : Bool
  pub report : Data
  pub is : IsReportData tr.header.scale f verdicts knots items holds report
  pub text_is : text ≡ compact_text report ++ newline
  pub says : ((status ≡ 0) × (holds ≡ true) × HoldsAtStart f tr × (items ≡ []))
      ⊎ ((status ≡ 1) × (holds ≡ false) × (¬ HoldsAtStart f tr) × AreReasons f tr items)

-- the bytes are all of a trace's. Status 0 and the line of a start that is true, where the formula holds there; else its refutation
pub record IsAccount (f : Formula) (bytes text : List ℕ) (status : ℕ) : Type 0 where
  pub tr : Trace
  pub trace : IsWhole whole_limits f bytes tr
  pub says : ((status ≡ 0) × HoldsAtStart f tr × (text ≡ start_line true)) ⊎ IsRefutation f tr status text
