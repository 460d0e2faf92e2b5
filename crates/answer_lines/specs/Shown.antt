-- A value of a margin, as it is kept beside its text.
use Rattle.rational.specs.Rational.{whole}
use Rattle.rational.specs.Extended.{Extended, finite, value_at}
use Rattle.frac128.specs.Value.{value}
use Rattle.value_laws.specs.Margins.{margin_function}
use Rattle.answer_lines.specs.declared.value_text.Shown.{Shown}
use Rattle.answer_lines.specs.declared.value_text.Shown.TheVariants.{Whole, At}

-- the value that is kept
abbrev pub shown_value : Shown → Extended
shown_value (Whole n) = finite (whole n)
shown_value (At m t) = value_at (margin_function m) (value t)
