use Rattle.answer_lines.specs.Lines.{line_text}
use Rattle.command_line.proofs.RefusedEnds.{refused_said}
use Rattle.command_line.proofs.refusal.refuse.Goals as goal

pub returns-clause-ended : goal.returns-clause-ended
returns-clause-ended g c = λ text h. (
  line_text c.formula_line.result,
  refused_said text c.args.fault (line_text c.formula_line.result) c.formula_status.result c.formula_line.ensures c.formula_status.ensures.status h,
  c.say.ensures.said,
)
