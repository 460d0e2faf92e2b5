-- What the longest stretches of one truth tell: their verdicts, their lines, and the answer of `check` that they make up.
use Rattle.std.specs.Prelude.{◌≡◌, ◌≤◌, ◌+◌, ℕ, Bool, List, ◌++◌, length, Some, slice_get, MatchBool}
use Rattle.rational.specs.Time.{◌≈◌}
use Rattle.rational.specs.Places.{Same, begins, ends}
use Rattle.frac128.specs.Spans.{interval}
use Rattle.frac128.specs.Value.{value}
use Rattle.time_sets.specs.Turns.{place}
use Rattle.time_sets.specs.Spans.{border, IsLongest}
use Rattle.time_sets.specs.Windows.{IsDomain, IsOf}
use Rattle.time_sets.specs.declared.spans.Span.{Span as Stretch}
use Rattle.stl_syntax.specs.Formula.{Formula}
use Rattle.stl_syntax.specs.Trace.{Trace}
use Rattle.stl_syntax.specs.Texts.{AreVerdictLines, start_line}
use Rattle.stl_syntax.specs.declared.items.Verdict.{Verdict}
use Rattle.stl_syntax.specs.declared.scale.Scale.{Scale}
use Rattle.report.specs.Report.{Out, check}
use Rattle.truth_sets.specs.declared.growing.Judged.{Judged}
use Rattle.trace_stream.specs.Streams.{HoldsAtStart}
use Rattle.verdict_sets.specs.declared.lines.Told.{Told}

-- the verdict has the times and the truth of the stretch
pub record IsVerdictOf (d : Stretch) (v : Verdict) : Type 0 where
  pub from : Same (begins (interval v.on)) (place d.from)
  pub to : Same (ends (interval v.on)) (place d.to)
  pub holds : v.holds ≡ d.holds

-- the stretch of one truth that has n others before it
pub record IsStretch (j : Judged) (n : ℕ) (d : Stretch) : Type 0 where
  pub from : d.from ≡ border j.on j.times n
  pub to : d.to ≡ border j.on j.times (n + 1)
  pub longest : IsLongest j.on j.times d

-- its verdict
pub record IsVerdictAt (j : Judged) (n : ℕ) (v : Verdict) : Type 0 where
  pub stretch : Stretch
  pub at : IsStretch j n stretch
  pub is : IsVerdictOf stretch v

-- the verdicts of the stretches from the n-th on, in order
abbrev pub AreVerdictsFrom : Judged → ℕ → List Verdict → Type 0
AreVerdictsFrom j n verdicts = (k : ℕ) (v : Verdict) → slice_get verdicts k ≡ Some v → IsVerdictAt j (n + k) v

-- the lines of all stretches from the n-th on, and the line of the truth at the start
pub record AreLinesFrom (j : Judged) (scale : Scale) (holds : Bool) (n : ℕ) (text : List ℕ) : Type 0 where
  pub verdicts : List Verdict
  pub count : n + length verdicts ≡ length j.times.turns.items + 1
  pub are : AreVerdictsFrom j n verdicts
  pub body : List ℕ
  pub lines : AreVerdictLines scale verdicts body
  pub parts : text ≡ body ++ start_line holds

-- the truth of the first stretch
pub record IsFirstTruth (j : Judged) (holds : Bool) : Type 0 where
  pub stretch : Stretch
  pub at : IsStretch j 0 stretch
  pub same : stretch.holds ≡ holds

-- the lines that are left: those of the stretches from the next on, and that of the start
abbrev pub AreLeft : Told → List ℕ → Type 0
AreLeft t text = AreLinesFrom t.judged t.scale t.holds t.next text

-- the next stretch begins at the time that is held, or there is none left
pub record IsToldTo (t : Told) : Type 0 where
  pub digits : t.scale.time ≤ 6
  pub domain : IsDomain t.judged.on
  pub own : IsOf t.judged.on t.judged.times
  pub from : value t.from ≈ (place (border t.judged.on t.judged.times t.next)).at
  pub within : t.next ≤ length t.judged.times.turns.items + 1

-- the truth at the start, and the whole text of `check`
pub record IsCheckAnswer (f : Formula) (tr : Trace) (holds : Bool) (text : List ℕ) : Type 0 where
  pub truth : MatchBool holds (HoldsAtStart f tr) (¬ HoldsAtStart f tr)
  pub written : Out check f tr text
