use Rattle.std.proofs.Common.{sym, ◌∙◌}
use Rattle.frac128.specs.Value.{value}
use Rattle.answer_lines.proofs.KeptTexts.{same_of_cmp}
use Rattle.answer_lines.proofs.time_text.is_one_time.Goals as goal

pub returns : goal.returns
returns c = λ h. (c.if-decimals-digits.false, same_of_cmp (value c.args.first.now) (value c.args.second.now) (sym c.eq.ensures ∙ h))
