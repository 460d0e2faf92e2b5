-- The lines of a signal's margins, part by part.
use Rattle.std.specs.Prelude.{ℕ, List, [], ◌∷◌}
use Rattle.rational.specs.Time.{Rational}
use Rattle.rational.specs.Extended.{Extended}
use Rattle.value_laws.specs.Members.{ShapeOf}
use Rattle.pl_signal.specs.declared.knot.Knot.{Knot}
use Rattle.pl_signal.specs.Plain.{plain_knot, plain_piece, pieces_of}
use Rattle.stl_syntax.specs.Texts.{IsNumberText, IsValueText, IsKnotLine, IsPieceLine, ArePieceLines}
use Rattle.stl_syntax.specs.declared.scale.Scale.{Scale}
use Rattle.answer_lines.specs.Appended.{Then, Is}

-- these bytes, and then a time
abbrev pub IsTimeAfter : List ℕ → ℕ → Rational → List ℕ → Type 0
IsTimeAfter lead digits t = Then (Is lead) (IsNumberText digits t)

-- these bytes, and then a value
abbrev pub IsValueAfter : List ℕ → ℕ → Extended → List ℕ → Type 0
IsValueAfter lead digits v = Then (Is lead) (IsValueText digits v)

module _ {P : Type 0} (shape : ShapeOf P) (scale : Scale) where
  -- the line of the piece between two knots, and that of the second
  abbrev pub AreNextLines : Knot P → Knot P → List ℕ → Type 0
  AreNextLines k n = Then (IsPieceLine scale (plain_knot shape k) (plain_piece shape k n)) (IsKnotLine scale (plain_knot shape n))

  -- the lines after that of the first knot
  abbrev pub AreLaterLines : List (Knot P) → List ℕ → Type 0
  AreLaterLines [] text = ⊥
  AreLaterLines (k ∷ knots) text = ArePieceLines scale (plain_knot shape k) (pieces_of shape k knots) text
