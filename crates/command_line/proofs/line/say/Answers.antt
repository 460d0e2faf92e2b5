use Rattle.answer_lines.specs.Lines.{line_text}
use Rattle.command_line.proofs.RefusedEnds.{said}
use Rattle.command_line.proofs.line.say.Goals as goal

pub returns-clause-said : goal.returns-clause-said
returns-clause-said g c = said _ _ _ _ c.write_line.result (line_text c.args.line.now) c.write_line.ensures.written c.write_line.ensures.cause
