-- The texts of the piece between two knots of margins, and of the second.
use Rattle.std.specs.Prelude.{ℕ, List}
use Rattle.rational.specs.Extended.{value_at}
use Rattle.frac128.specs.Value.{value}
use Rattle.value_laws.specs.Margins.{margin_function}
use Rattle.value_laws.specs.declared.margin.Margin.{Margin}
use Rattle.pl_signal.specs.declared.knot.Knot.{Knot}
use Rattle.stl_syntax.specs.Texts.{IsNumberText, IsValueText}
use Rattle.stl_syntax.specs.declared.scale.Scale.{Scale}
use Rattle.report.specs.JsonTexts.{IsGapText}

-- the limits and the open span of the piece, and the time and the value of the second knot
pub record AreStepTexts (scale : Scale) (k n : Knot Margin) (from on to at margin : List ℕ) : Type 0 where
  pub from_is : IsValueText scale.value (value_at (margin_function k.after) (value k.time)) from
  pub on_is : IsGapText scale.time (value k.time) (value n.time) on
  pub to_is : IsValueText scale.value (value_at (margin_function k.after) (value n.time)) to
  pub at_is : IsNumberText scale.time (value n.time) at
  pub margin_is : IsValueText scale.value (value_at (margin_function n.point) (value n.time)) margin
