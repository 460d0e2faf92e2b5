-- The line of one part of a margin over time.
use Rattle.std.specs.Prelude.{ℕ, List}
use Rattle.rational.specs.Rational.{IsWithin}
use Rattle.rational.specs.Extended.{value_at}
use Rattle.frac128.specs.Value.{value}
use Rattle.frac128.specs.declared.frac.Frac.{Frac}
use Rattle.value_laws.specs.Margins.{margin_function}
use Rattle.value_laws.specs.declared.margin.Margin.{Margin}
use Rattle.stl_syntax.specs.Texts.{IsKnotLine, IsPieceLine}
use Rattle.stl_syntax.specs.declared.scale.Scale.{Scale}
use Rattle.answer_lines.specs.declared.part.MarginPart.{MarginPart}
use Rattle.answer_lines.specs.declared.part.MarginPart.TheVariants.{Point, Gap}

-- the line of a gap: its ends, and the limits of the margin there
abbrev pub IsGapLine : Scale → Frac → Frac → Margin → List ℕ → Type 0
IsGapLine scale from to piece text =
    IsPieceLine scale (record { time = value from; value = value_at (margin_function piece) (value from) })
    (record {
      from = value_at (margin_function piece) (value from);
      to = value_at (margin_function piece) (value to);
      next = record { time = value to; value = value_at (margin_function piece) (value to) };
    }) text

-- the line of a part: that of a knot with its value at the time, or that of a gap
abbrev pub IsPartLine : Scale → MarginPart → List ℕ → Type 0
IsPartLine scale (Point at v) text = IsKnotLine scale (record { time = value at; value = value_at (margin_function v) (value at) }) text
IsPartLine scale (Gap from to piece) text = IsGapLine scale from to piece text

-- the part's times are at most n from 0
abbrev pub IsPartWithin : ℕ → MarginPart → Type 0
IsPartWithin n (Point at v) = IsWithin n (value at)
IsPartWithin n (Gap from to piece) = IsWithin n (value from) × IsWithin n (value to)
