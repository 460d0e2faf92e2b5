-- The whole report of a truth signal, a margin signal and items, as one object of JSON.
use Rattle.std.specs.Prelude.{◌≡◌, ℕ, Bool, true, List, ◌++◌, codes}
use Rattle.rational.specs.Time.{closed}
use Rattle.serde_json.specs.Data.{Data}
use Rattle.serde_json.specs.Written.{compact_text}
use Rattle.value_laws.specs.Kinds.{truth_shape, margin_shape}
use Rattle.value_laws.specs.declared.truth.Truth.{Truth}
use Rattle.value_laws.specs.declared.margin.Margin.{Margin}
use Rattle.pl_signal.specs.declared.knot.Knot.{Knot}
use Rattle.pl_signal.specs.Knots.{start, stop, IsWorth}
use Rattle.pl_signal.specs.Plain.{knots_of}
use Rattle.stl_syntax.specs.Formula.{Formula}
use Rattle.stl_syntax.specs.Texts.{newline}
use Rattle.stl_syntax.specs.declared.scale.Scale.{Scale}
use Rattle.stl_syntax.specs.declared.items.Verdict.{Verdict}
use Rattle.stl_syntax.specs.declared.items.Item.{Item}
use Rattle.answer_lines.specs.Appended.{Then, Is}
use Rattle.report.specs.Json.{IsReportData}
use Rattle.report.specs.JsonTexts.{AreMarginEntries, IsOpened, margins_data, start_data}
use Rattle.report.specs.Report.{IsItemLines}
use Rattle.report.specs.SignalVerdicts.{DescribesFunction, sign_of}
use Rattle.report.specs.VerdictForms.{AreEntries}

-- the text is the object with the formula, the items with neighbours joined, the plain knots of the margins, the truth at the start and
-- the verdicts that describe the truth, and then LF
pub record IsReportText (scale : Scale) (f : Formula) (truth : List (Knot Truth)) (margins : List (Knot Margin)) (items : List Item)
    (text : List ℕ) : Type 0 where
  pub verdicts : List Verdict
  pub described : DescribesFunction (IsWorth truth_shape truth) verdicts (closed (start truth) (stop truth))
  pub lines : List Item
  pub joined : IsItemLines items lines
  pub holds : Bool
  pub at_start : IsWorth truth_shape truth (start truth) (sign_of holds)
  pub report : Data
  pub members : IsReportData scale f verdicts (knots_of margin_shape margins) lines holds report
  pub is : text ≡ compact_text report ++ newline

-- from the margins to the end
abbrev pub TailParts : Scale → List (Knot Truth) → List (Knot Margin) → Bool → List ℕ → Type 0
TailParts scale truth margins holds =
    Then (IsOpened (codes ",") margins_data) (Then (AreMarginEntries scale (knots_of margin_shape margins)) (Then (IsOpened (codes ",") (start_data holds))
    (Then (AreEntries truth_shape true scale truth) (Is (codes "}\n")))))
