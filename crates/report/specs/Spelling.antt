-- Spans of one truth, one after another: how one that is open is closed, and where another begins.
use Rattle.std.specs.Prelude.{◌≡◌, ◌≢◌, Bool, true, false, not, Option, Some, None, List, [], ◌∷◌, MatchOption}
use Rattle.frac128.specs.declared.frac.Frac.{Frac}
use Rattle.value_laws.specs.declared.truth.Truth.{Truth}
use Rattle.pl_signal.specs.declared.knot.Knot.{Knot}
use Rattle.stl_syntax.specs.declared.items.Verdict.{Verdict}
use Rattle.report.specs.declared.spelling.OpenSpan.{OpenSpan}

-- the verdict is that of the open span, up to a time that is in or out
pub record Closes (o : OpenSpan) (at : Frac) (at_in : Bool) (w : Verdict) : Type 0 where
  pub from : w.on.from ≡ o.from
  pub from_in : w.on.from_in ≡ o.from_in
  pub to : w.on.to ≡ at
  pub to_in : w.on.to_in ≡ at_in
  pub holds : w.holds ≡ o.holds

-- the open span ends with this verdict, and a span of the other truth begins where it ends
pub record IsTurned (o : OpenSpan) (at : Frac) (at_in truth : Bool) (w : Verdict) (new : OpenSpan) : Type 0 where
  pub closes : Closes o at at_in w
  pub other : o.holds ≢ truth
  pub from : new.from ≡ at
  pub from_in : new.from_in ≡ not at_in
  pub holds : new.holds ≡ truth

-- from the time on, or after it where it is in the open span, there is this truth: the span goes on where it has it, and is turned where it has the other
abbrev pub GoesTo : OpenSpan → Frac → Bool → Bool → Option Verdict → OpenSpan → Type 0
GoesTo o at at_in truth ended new = MatchOption ended ((o.holds ≡ truth) × (new ≡ o)) (λ w. IsTurned o at at_in truth w new)

-- past the gap between two knots and the second knot
pub record IsAdvanced (o : OpenSpan) (before next : Knot Truth) (by_gap by_point : Option Verdict) (new : OpenSpan) : Type 0 where
  pub inside : OpenSpan
  pub gap : GoesTo o before.time true before.after.holds by_gap inside
  pub point : GoesTo inside next.time false next.point.holds by_point new

-- the verdict as a list
abbrev pub listed : Option Verdict → List Verdict
listed None = []
listed (Some w) = w ∷ []

-- how an open span goes past the gap between two knots and the second knot, with the verdicts that end there
pub record Past (o : OpenSpan) (before next : Knot Truth) : Type 0 where
  pub by_gap : Option Verdict
  pub by_point : Option Verdict
  pub new : OpenSpan
  pub advanced : IsAdvanced o before next by_gap by_point new
