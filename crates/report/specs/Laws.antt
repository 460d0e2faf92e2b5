-- What the verdicts of a signal say of a formula.
use Rattle.std.specs.Prelude.{List}
use Rattle.rational.specs.Time.{closed}
use Rattle.value_laws.specs.Members.{ShapeOf}
use Rattle.pl_signal.specs.declared.knot.Knot.{Knot}
use Rattle.pl_signal.specs.Knots as knots
use Rattle.pl_signal.specs.Moves.{Tells}
use Rattle.stl_syntax.specs.Formula.{Subformula}
use Rattle.pl_signal.specs.Plain.{knots_of}
use Rattle.stl_syntax.specs.SupInf.{SupInf, HasValues, truth_setting, margin_setting}
use Rattle.stl_syntax.specs.Trace.{Trace, start, stop}
use Rattle.stl_syntax.specs.Verdicts.{Describes, DescribesMargins}
use Rattle.stl_syntax.specs.declared.items.Verdict.{Verdict}
use Rattle.report.specs.SignalVerdicts.{DescribesFunction}

-- where a signal tells a formula with atoms read as 1 and -1, verdicts that describe the signal describe the formula
abbrev pub SignalsDescribe : {P : Type 0} → ShapeOf P → Type 0
SignalsDescribe {P} shape =
    (p : Subformula) (tr : Trace) (signal : List (Knot P)) (verdicts : List Verdict)
    → HasValues p (truth_setting tr) → Tells shape (SupInf p (truth_setting tr)) (start tr) (stop tr) signal
    → DescribesFunction (knots.IsWorth shape signal) verdicts (closed (knots.start signal) (knots.stop signal))
    → Describes verdicts p tr (closed (start tr) (stop tr))

-- where a signal tells a formula with atoms read by their margins, its plain list of knots describes the robustness
abbrev pub SignalsDescribeMargins : {P : Type 0} → ShapeOf P → Type 0
SignalsDescribeMargins {P} shape =
    (p : Subformula) (tr : Trace) (signal : List (Knot P)) → Tells shape (SupInf p (margin_setting tr)) (start tr) (stop tr) signal
    → DescribesMargins (knots_of shape signal) p tr
