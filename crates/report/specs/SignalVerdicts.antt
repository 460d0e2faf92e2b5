-- Verdicts that describe what a function of time tells: true where it is worth 1, and false where it is worth -1.
use Rattle.std.specs.Prelude.{◌≢◌, ℕ, Bool, true, false, List, [], ◌∷◌}
use Rattle.rational.specs.Time.{Rational, Interval, IsIn, IsNotEmpty, BeginAlike, EndAlike, Touch, closed}
use Rattle.rational.specs.Extended.{Extended}
use Rattle.rational.specs.Windows.{Function}
use Rattle.frac128.specs.Spans.{interval}
use Rattle.value_laws.specs.Members.{ShapeOf}
use Rattle.pl_signal.specs.declared.knot.Knot.{Knot}
use Rattle.pl_signal.specs.Knots.{start, stop, IsWorth}
use Rattle.stl_syntax.specs.SupInf.{one, minus_one}
use Rattle.stl_syntax.specs.Texts.{AreVerdictLines}
use Rattle.stl_syntax.specs.declared.items.Verdict.{Verdict}
use Rattle.stl_syntax.specs.declared.scale.Scale.{Scale}

-- the value that a verdict stands for
abbrev pub sign_of : Bool → Extended
sign_of true = one
sign_of false = minus_one

module _ (F : Function) where
  -- the verdict is what the function tells at each time of its span
  pub record IsToldBy (v : Verdict) : Type 0 where
    pub not_empty : IsNotEmpty (interval v.on)
    pub truth : (t : Rational) → IsIn (interval v.on) t → F t (sign_of v.holds)

  -- each further span joins on, with the other verdict, and the last ends as the stretch does
  abbrev pub GoesOnBy : Interval → Verdict → List Verdict → Type 0
  GoesOnBy stretch v [] = EndAlike (interval v.on) stretch
  GoesOnBy stretch v (w ∷ verdicts) = Touch (interval v.on) (interval w.on) × (v.holds ≢ w.holds) × IsToldBy w × GoesOnBy stretch w verdicts

  -- the verdicts are what the function tells at each time of the stretch, without gap or overlap, in as few spans as may be
  abbrev pub DescribesFunction : List Verdict → Interval → Type 0
  DescribesFunction [] stretch = ⊥
  DescribesFunction (v ∷ verdicts) stretch = BeginAlike (interval v.on) stretch × IsToldBy v × GoesOnBy stretch v verdicts

module _ {P : Type 0} (shape : ShapeOf P) where
  -- the text is the lines of verdicts that describe what the signal tells from its start to its stop
  pub record AreSignalLines (scale : Scale) (knots : List (Knot P)) (text : List ℕ) : Type 0 where
    pub verdicts : List Verdict
    pub described : DescribesFunction (IsWorth shape knots) verdicts (closed (start knots) (stop knots))
    pub lines : AreVerdictLines scale verdicts text
