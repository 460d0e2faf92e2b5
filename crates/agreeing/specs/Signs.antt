-- What verdicts and margins tell of one time: a margin above 0 is a true verdict, and one below 0 a false one.
use Rattle.std.specs.Prelude.{◌≡◌, ℕ, Bool, true, false, List, Some, slice_get}
use Rattle.rational.specs.Time.{Rational, Within, IsIn}
use Rattle.rational.specs.Extended.{Extended, ◌<ᵉ◌}
use Rattle.frac128.specs.Spans.{interval}
use Rattle.stl_syntax.specs.Formula.{Formula}
use Rattle.stl_syntax.specs.Trace.{Trace, start, stop}
use Rattle.stl_syntax.specs.Knots.{Knots, Reads}
use Rattle.stl_syntax.specs.SupInf.{zero_value}
use Rattle.stl_syntax.specs.declared.items.Verdict.{Verdict}
use Rattle.report.specs.Report.{check, robust, table, json, Out}
use Rattle.agreeing.specs.Contents.{Content, IsTextOf}

-- one of the verdicts has this truth and the time t in its span
abbrev pub TellAt : List Verdict → Rational → Bool → Type 0
TellAt verdicts t holds = (i : ℕ) × (v : Verdict) × (slice_get verdicts i ≡ Some v) × IsIn (interval v.on) t × (v.holds ≡ holds)

-- at each time of the domain the verdicts tell a truth and the knots a margin; where the margin is above 0 the truth is true, and where it is
-- below 0 it is false
pub record AgreeInSign (tr : Trace) (verdicts : List Verdict) (knots : Knots) : Type 0 where
  pub truth : (t : Rational) → Within (start tr) (stop tr) t → (holds : Bool) × TellAt verdicts t holds
  pub margin : (t : Rational) → Within (start tr) (stop tr) t → (r : Extended) × Reads knots t r
  pub above : (t : Rational) (r : Extended) (holds : Bool) → Within (start tr) (stop tr) t → TellAt verdicts t holds → Reads knots t r → zero_value <ᵉ r
      → holds ≡ true
  pub below : (t : Rational) (r : Extended) (holds : Bool) → Within (start tr) (stop tr) t → TellAt verdicts t holds → Reads knots t r → r <ᵉ zero_value
      → holds ≡ false

-- so do the lines of `check` and those of `robust`
abbrev pub LinesAgreeInSign : Type 0
LinesAgreeInSign =
    (f : Formula) (tr : Trace) (checked measured : List ℕ) → Out check f tr checked → Out robust f tr measured
    → (c : Content) × IsTextOf check f tr.header.scale c checked × IsTextOf robust f tr.header.scale c measured × AgreeInSign tr c.verdicts c.knots

-- so do the lines of `check` and the rows of `table`
abbrev pub RowsAgreeInSign : Type 0
RowsAgreeInSign =
    (f : Formula) (tr : Trace) (checked tabled : List ℕ) → Out check f tr checked → Out table f tr tabled
    → (c : Content) × IsTextOf check f tr.header.scale c checked × IsTextOf table f tr.header.scale c tabled × AgreeInSign tr c.verdicts c.knots

-- so do the two parts of what `json` writes
abbrev pub ReportsAgreeInSign : Type 0
ReportsAgreeInSign =
    (f : Formula) (tr : Trace) (reported : List ℕ) → Out json f tr reported
    → (c : Content) × IsTextOf json f tr.header.scale c reported × AgreeInSign tr c.verdicts c.knots
