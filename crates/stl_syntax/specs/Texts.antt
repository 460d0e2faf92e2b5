-- Texts of numbers, spans, verdicts and knots, in units of a scale.
use Rattle.std.specs.Prelude.{◌≡◌, ◌==◌, ℕ, Bool, true, false, if◌then◌else◌, List, [], ◌∷◌, ◌++◌, ℤ, pos, ◌*ℤ◌, ◌^◌, codes, decimal, MatchBool}
use Rattle.std.specs.Fmt.{signed_decimal}
use Rattle.rational.specs.Time.{Rational, IsLowest, ratio, ◌≈◌}
use Rattle.rational.specs.Extended.{Extended, minus_infinity, finite, infinity}
use Rattle.stl_syntax.specs.Trace.{Trace, start}
use Rattle.stl_syntax.specs.Formula.{Subformula}
use Rattle.stl_syntax.specs.Knots.{Knot, Piece, Knots}
use Rattle.stl_syntax.specs.Truth.{Truth}
use Rattle.frac128.specs.Value.{value}
use Rattle.stl_syntax.specs.declared.scale.Scale.{Scale}
use Rattle.frac128.specs.declared.span.Span.{Span}
use Rattle.stl_syntax.specs.declared.items.Verdict.{Verdict}

-- the text of num/den, without the denominator 1
abbrev pub fraction_text : ℤ → ℕ → List ℕ
fraction_text num den = if den == 1 then signed_decimal num else signed_decimal num ++ codes "/" ++ decimal den

-- the text of t ticks of 1 / 10^digits, as a number of units in lowest terms
pub record IsNumberText (digits : ℕ) (t : Rational) (text : List ℕ) : Type 0 where
  pub num : ℤ
  pub den : ℕ
  pub lowest : IsLowest num den
  pub same : t ≈ ratio (num *ℤ pos (10 ^ digits)) den lowest.positive
  pub is : text ≡ fraction_text num den

-- the text of an extended value
abbrev pub IsValueText : ℕ → Extended → List ℕ → Type 0
IsValueText digits minus_infinity text = text ≡ codes "-inf"
IsValueText digits (finite x) text = IsNumberText digits x text
IsValueText digits infinity text = text ≡ codes "inf"

-- a truth
abbrev pub bool_text : Bool → List ℕ
bool_text true = codes "true"
bool_text false = codes "false"

-- a span with its ends
pub record IsSpanText (scale : Scale) (on : Span) (text : List ℕ) : Type 0 where
  pub from : List ℕ
  pub to : List ℕ
  pub from_is : IsNumberText scale.time (value on.from) from
  pub to_is : IsNumberText scale.time (value on.to) to
  pub is : text ≡ (if on.from_in then codes "[" else codes "(") ++ from ++ codes "," ++ to ++ (if on.to_in then codes "]" else codes ")")

-- LF
abbrev pub newline : List ℕ
newline = 10 ∷ []

-- the line of a verdict
abbrev pub IsVerdictLine : Scale → Verdict → List ℕ → Type 0
IsVerdictLine scale v text = (on : List ℕ) × IsSpanText scale v.on on × (text ≡ on ++ codes " " ++ bool_text v.holds ++ newline)

-- the lines of the verdicts in order
abbrev pub AreVerdictLines : Scale → List Verdict → List ℕ → Type 0
AreVerdictLines scale [] text = text ≡ []
AreVerdictLines scale (v ∷ verdicts) text =
    (here later : List ℕ) × IsVerdictLine scale v here × AreVerdictLines scale verdicts later × (text ≡ here ++ later)

-- the line of the truth at the start
abbrev pub start_line : Bool → List ℕ
start_line b = codes "start " ++ bool_text b ++ newline

-- the line with the truth at the start
abbrev pub IsStartLine : Subformula → Trace → List ℕ → Type 0
IsStartLine p tr text =
    (holds : Bool) × (MatchBool holds (Truth p tr (start tr)) (¬ Truth p tr (start tr))) × (text ≡ start_line holds)

-- the line of a knot
abbrev pub IsKnotLine : Scale → Knot → List ℕ → Type 0
IsKnotLine scale k text =
    (time value : List ℕ) × IsNumberText scale.time k.time time × IsValueText scale.value k.value value
    × (text ≡ codes "[" ++ time ++ codes "] " ++ value ++ newline)

-- the line of the piece after knot k
abbrev pub IsPieceLine : Scale → Knot → Piece → List ℕ → Type 0
IsPieceLine scale k p text =
    (a b from to : List ℕ) × IsNumberText scale.time k.time a × IsNumberText scale.time p.next.time b
    × IsValueText scale.value p.from from × IsValueText scale.value p.to to
    × (text ≡ codes "(" ++ a ++ codes "," ++ b ++ codes ") " ++ from ++ codes " -> " ++ to ++ newline)

-- the lines of the pieces, each with the knot after it
abbrev pub ArePieceLines : Scale → Knot → List Piece → List ℕ → Type 0
ArePieceLines scale k [] text = text ≡ []
ArePieceLines scale k (p ∷ pieces) text =
    (piece knot later : List ℕ) × IsPieceLine scale k p piece × IsKnotLine scale p.next knot
    × ArePieceLines scale p.next pieces later × (text ≡ piece ++ knot ++ later)

-- the robustness lines
abbrev pub AreMarginLines : Scale → Knots → List ℕ → Type 0
AreMarginLines scale knots text = (first later : List ℕ) × IsKnotLine scale knots.first first
    × ArePieceLines scale knots.first knots.pieces later × (text ≡ first ++ later)
