use Rattle.answer_lines.proofs.FaultLines.{column_text}
use Rattle.answer_lines.proofs.fault.unknown_line.Goals as goal

pub returns : goal.returns
returns c = column_text c.args.line c.args.name.now
