use Rattle.std.proofs.Common.{arith}
use Rattle.frac128.specs.Value.{value}
use Rattle.answer_lines.proofs.KeptTexts.{zero_text}
use Rattle.answer_lines.proofs.time_text.TimeText.new.Goals as goal

pub invariant_of-result : goal.invariant_of-result
invariant_of-result c = (omega arith, omega arith, zero_text (value c.of.result) c.of.ensures.value)
