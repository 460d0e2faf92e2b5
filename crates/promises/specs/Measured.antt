-- What the knots of a robustness tell of the truth.
use Rattle.std.specs.Prelude.{◌≡◌, ◌⊎◌, ◌↔◌, ℕ, Bool, List, ◌++◌, pos}
use Rattle.rational.specs.Time.{Rational, Within, whole, negate, ◌≤ʳ◌}
use Rattle.rational.specs.Extended.{Extended, finite, ◌<ᵉ◌, ◌≈ᵉ◌}
use Rattle.stl_syntax.specs.Formula.{Formula, Subformula, root}
use Rattle.stl_syntax.specs.Trace.{Trace, IsLike, start, stop}
use Rattle.stl_syntax.specs.Truth.{Truth}
use Rattle.stl_syntax.specs.Closeness.{AreClose}
use Rattle.stl_syntax.specs.Knots.{Knots, Reads}
use Rattle.stl_syntax.specs.SupInf.{Robustness}
use Rattle.stl_syntax.specs.Texts.{AreMarginLines, newline}
use Rattle.stl_syntax.specs.Verdicts.{DescribesMargins}
use Rattle.stl_syntax.specs.declared.items.Verdict.{Verdict}
use Rattle.stl_syntax.specs.declared.items.Item.{Item}
use Rattle.serde_json.specs.Data.{Data}
use Rattle.serde_json.specs.Written.{compact_text}
use Rattle.stl_syntax.specs.Scaling.{nodes_for}
use Rattle.report.specs.Json.{IsReportData}
use Rattle.report.specs.Table.{IsTableText}
use Rattle.report.specs.Report.{Command, robust, json, table}
use Rattle.workbench.specs.InputFaults.{whole_limits}
use Rattle.trace_stream.specs.CaseReader.{IsWhole}

-- e lies below the size of r
abbrev pub IsBelowSize : Rational → Extended → Type 0
IsBelowSize e r = (finite e <ᵉ r) ⊎ (r <ᵉ finite (negate e))

-- each value that the knots give is the robustness there, above 0 only where the formula holds and below 0 only where it fails; and the
-- truth there is the same in each trace that is like this one and whose expressions differ by less than the value's size
pub record AreTrueKnots (p : Subformula) (tr : Trace) (knots : Knots) : Type 0 where
  pub value : (t : Rational) (r : Extended) → Reads knots t r → Within (start tr) (stop tr) t × ((v : Extended) × Robustness p tr t v × (r ≈ᵉ v))
  pub sign : (t : Rational) (r : Extended) → Reads knots t r → (finite (whole (pos 0)) <ᵉ r → Truth p tr t) × (r <ᵉ finite (whole (pos 0)) → ¬ Truth p tr t)
  pub margin : (t : Rational) (r : Extended) → Reads knots t r → (e : Rational) (tr' : Trace) → whole (pos 0) ≤ʳ e → IsBelowSize e r
      → IsLike tr' tr → AreClose e tr tr' p → Truth p tr' t ↔ Truth p tr t

-- the text of the command has these knots
abbrev pub HasKnots : Command → Formula → Trace → Knots → List ℕ → Type 0
HasKnots robust f tr knots text = AreMarginLines tr.header.scale knots text
HasKnots table f tr knots text = IsTableText tr.header.scale knots text
HasKnots json f tr knots text =
    (verdicts : List Verdict) × (items : List Item) × (holds : Bool) × (report : Data)
    × IsReportData tr.header.scale f verdicts knots items holds report × (text ≡ compact_text report ++ newline)
HasKnots c f tr knots text = ⊥

-- the text of the command has knots, with none to spare, that tell the robustness and the truth of a trace, whose bytes these are
pub record IsMeasured (c : Command) (f : Formula) (bytes text : List ℕ) : Type 0 where
  pub tr : Trace
  pub trace : IsWhole whole_limits f bytes tr
  pub knots : Knots
  pub described : DescribesMargins knots (root (nodes_for f tr)) tr
  pub has : HasKnots c f tr knots text
  pub truth : AreTrueKnots (root (nodes_for f tr)) tr knots
