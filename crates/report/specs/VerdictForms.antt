-- A verdict as a line, or as an object in a list of JSON.
use Rattle.std.specs.Prelude.{◌≡◌, ℕ, Bool, true, false, List, [], ◌∷◌, ◌++◌, if◌then◌else◌, codes, Option}
use Rattle.frac128.specs.declared.frac.Frac.{Frac}
use Rattle.rational.specs.Time.{closed}
use Rattle.serde_json.specs.Data.{Data}
use Rattle.serde_json.specs.Written.{compact_text}
use Rattle.value_laws.specs.Members.{ShapeOf}
use Rattle.value_laws.specs.declared.truth.Truth.{Truth}
use Rattle.pl_signal.specs.declared.knot.Knot.{Knot}
use Rattle.pl_signal.specs.Knots.{start, stop, IsWorth}
use Rattle.stl_syntax.specs.Texts.{IsVerdictLine}
use Rattle.stl_syntax.specs.declared.scale.Scale.{Scale}
use Rattle.stl_syntax.specs.declared.items.Verdict.{Verdict}
use Rattle.answer_lines.specs.Appended.{Grew, GrewInPart, AreEach, Then}
use Rattle.report.specs.JsonTexts.{IsVerdictData}
use Rattle.report.specs.SignalVerdicts.{DescribesFunction}
use Rattle.report.specs.Spelling.{GoesTo, Past, listed}
use Rattle.report.specs.declared.spelling.OpenSpan.{OpenSpan}

-- the end of the list, or what parts an object from the next
abbrev pub separator : Bool → List ℕ
separator last = if last then codes "]" else codes ","

-- an object of JSON that is the last of its list or not, or a line
abbrev pub IsEntry : Bool → Bool → Scale → Verdict → List ℕ → Type 0
IsEntry true last scale v text = (d : Data) × IsVerdictData scale v d × (text ≡ compact_text d ++ separator last)
IsEntry false last scale v text = IsVerdictLine scale v text

module _ (json : Bool) (scale : Scale) where
  -- the span goes on with this truth from the time, and where it is new, what ended is written
  pub record TurnedTo (o : OpenSpan) (at : Frac) (at_in truth : Bool) (new : OpenSpan) (old text : List ℕ) : Type 0 where
    pub ended : Option Verdict
    pub goes : GoesTo o at at_in truth ended new
    pub grew : Grew (AreEach (IsEntry json false scale) (listed ended)) old text

  -- or a first part of it
  pub record TurnCut (o : OpenSpan) (at : Frac) (at_in truth : Bool) (old text : List ℕ) : Type 0 where
    pub ended : Option Verdict
    pub new : OpenSpan
    pub goes : GoesTo o at at_in truth ended new
    pub part : GrewInPart (AreEach (IsEntry json false scale) (listed ended)) old text

  -- the span has gone past a gap and a knot, and what ended there is written
  pub record WrittenPast (o : OpenSpan) (before next : Knot Truth) (new : OpenSpan) (old text : List ℕ) : Type 0 where
    pub past : Past o before next
    pub is : past.new ≡ new
    pub grew : Grew (AreEach (IsEntry json false scale) (listed past.by_gap ++ listed past.by_point)) old text

  -- or a first part of it
  pub record CutPast (o : OpenSpan) (before next : Knot Truth) (old text : List ℕ) : Type 0 where
    pub past : Past o before next
    pub part : GrewInPart (AreEach (IsEntry json false scale) (listed past.by_gap ++ listed past.by_point)) old text

module _ {P : Type 0} (shape : ShapeOf P) (json : Bool) (scale : Scale) where
  -- the text is of verdicts that describe what the signal tells from its start to its stop
  pub record AreEntries (knots : List (Knot P)) (text : List ℕ) : Type 0 where
    pub before : List Verdict
    pub last : Verdict
    pub described : DescribesFunction (IsWorth shape knots) (before ++ last ∷ []) (closed (start knots) (stop knots))
    pub written : Then (AreEach (IsEntry json false scale) before) (IsEntry json true scale last) text
