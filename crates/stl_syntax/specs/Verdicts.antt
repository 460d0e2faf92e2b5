-- Lists of verdicts and of knots that describe a formula on a stretch of time.
use Rattle.std.specs.Prelude.{◌≡◌, ◌≢◌, ◌⊎◌, List, [], ◌∷◌, MatchBool}
use Rattle.rational.specs.Time.{Rational, later, ◌≤ʳ◌, ◌<ʳ◌, ◌≈◌, Interval, IsIn, IsNotEmpty, BeginAlike, EndAlike, Touch}
use Rattle.rational.specs.Extended.{Extended, ◌≈ᵉ◌}
use Rattle.stl_syntax.specs.Trace.{Trace, start, stop}
use Rattle.stl_syntax.specs.Formula.{Subformula, horizon}
use Rattle.stl_syntax.specs.Truth.{Truth}
use Rattle.stl_syntax.specs.Knots.{Knot, Piece, Knots, IsInside}
pub use Rattle.rational.specs.Knots.{AreOneLine}
use Rattle.stl_syntax.specs.SupInf.{Robustness}
use Rattle.frac128.specs.Spans.{interval}
use Rattle.stl_syntax.specs.declared.items.Verdict.{Verdict}

-- the verdict is the truth at each time of its span
pub record IsTold (p : Subformula) (tr : Trace) (v : Verdict) : Type 0 where
  pub not_empty : IsNotEmpty (interval v.on)
  pub truth : (t : Rational) → IsIn (interval v.on) t → MatchBool v.holds (Truth p tr t) (¬ Truth p tr t)

-- each further span joins on, with the other verdict, and the last ends as the stretch does
abbrev pub GoesOn : Subformula → Trace → Interval → Verdict → List Verdict → Type 0
GoesOn p tr stretch v [] = EndAlike (interval v.on) stretch
GoesOn p tr stretch v (w ∷ verdicts) =
    Touch (interval v.on) (interval w.on) × (v.holds ≢ w.holds) × IsTold p tr w × GoesOn p tr stretch w verdicts

-- the verdicts tell the truth at each time of the stretch, without gap or overlap, in as few spans as may be
abbrev pub Describes : List Verdict → Subformula → Trace → Interval → Type 0
Describes [] p tr stretch = ⊥
Describes (v ∷ verdicts) p tr stretch = BeginAlike (interval v.on) stretch × IsTold p tr v × GoesOn p tr stretch v verdicts

-- the value is the robustness at the knot
abbrev pub IsRobust : Subformula → Trace → Knot → Type 0
IsRobust p tr k = Robustness p tr k.time k.value

-- at every time strictly between the knots the robustness is that of the piece
abbrev pub IsRobustInside : Subformula → Trace → Knot → Piece → Type 0
IsRobustInside p tr k piece =
    (k.time <ʳ piece.next.time) × ((t : Rational) → k.time <ʳ t → t <ʳ piece.next.time
    → (r : Extended) × Robustness p tr t r × IsInside k piece t r)

-- the pieces after knot j, the first of which is `before`, end at `to`, and no knot between them can be left out
abbrev pub PiecesGoOn : Subformula → Trace → Rational → Knot → Piece → List Piece → Type 0
PiecesGoOn p tr to j before [] = before.next.time ≈ to
PiecesGoOn p tr to j before (after ∷ pieces) =
    (¬ AreOneLine j before after) × IsRobustInside p tr before.next after × IsRobust p tr after.next × PiecesGoOn p tr to before.next after pieces

-- the pieces tell the robustness after the time of k, up to `to`
abbrev pub TellsAfter : Subformula → Trace → Rational → Knot → List Piece → Type 0
TellsAfter p tr to k [] = ⊥
TellsAfter p tr to k (piece ∷ pieces) = IsRobustInside p tr k piece × IsRobust p tr piece.next × PiecesGoOn p tr to k piece pieces

-- the robustness over [from,to]: a point, and then pieces, if there is more than the point
abbrev pub TellsClosed : Subformula → Trace → Rational → Rational → Knots → Type 0
TellsClosed p tr from to knots =
    (knots.first.time ≈ from) × IsRobust p tr knots.first × (((knots.pieces ≡ []) × (from ≈ to)) ⊎ TellsAfter p tr to knots.first knots.pieces)

-- the knots tell the robustness on the whole domain, with no knot that can be left out
abbrev pub DescribesMargins : Knots → Subformula → Trace → Type 0
DescribesMargins knots p tr = TellsClosed p tr (start tr) (stop tr) knots

-- two lists of verdicts have the same spans with the same truths, maybe by other pairs
abbrev pub AreAlike : List Verdict → List Verdict → Type 0
AreAlike [] [] = Unit {0}
AreAlike [] (w ∷ ws) = ⊥
AreAlike (v ∷ vs) [] = ⊥
AreAlike (v ∷ vs) (w ∷ ws) =
    BeginAlike (interval v.on) (interval w.on) × EndAlike (interval v.on) (interval w.on) × (v.holds ≡ w.holds) × AreAlike vs ws

-- two knots have one time and one value
pub record KnotsAlike (k l : Knot) : Type 0 where
  pub time : k.time ≈ l.time
  pub value : k.value ≈ᵉ l.value

-- two lists of pieces have the same limits and the same knots
abbrev pub PiecesAlike : List Piece → List Piece → Type 0
PiecesAlike [] [] = Unit {0}
PiecesAlike [] (b ∷ bs) = ⊥
PiecesAlike (a ∷ pieces) [] = ⊥
PiecesAlike (a ∷ pieces) (b ∷ bs) = (a.from ≈ᵉ b.from) × (a.to ≈ᵉ b.to) × KnotsAlike a.next b.next × PiecesAlike pieces bs

-- after rows up to time s the truth at t is known for good
abbrev pub IsAnswered : Subformula → Trace → Rational → Rational → Type 0
IsAnswered p tr s t = (start tr ≤ʳ t) × (later t (horizon p) ≤ʳ s)
