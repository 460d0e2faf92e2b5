use Rattle.std.proofs.Common.{pos, arith}
use Rattle.rational.specs.Rational.{whole}
use Rattle.rational.proofs.Order.{same_refl}
use Rattle.answer_lines.proofs.KeptTexts.{zero_text}
use Rattle.answer_lines.proofs.value_text.ValueText.new.Goals as goal

pub invariant_of-result : goal.invariant_of-result
invariant_of-result c = (omega arith, omega arith, zero_text (whole (pos 0)) (same_refl (whole (pos 0))))
