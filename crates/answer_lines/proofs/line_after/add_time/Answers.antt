use Rattle.std.proofs.Common.{arith}
use Rattle.frac128.specs.Value.{value}
use Rattle.stl_syntax.specs.Texts.{IsNumberText}
use Rattle.answer_lines.proofs.TextsBehind.{made_added}
use Rattle.answer_lines.proofs.line_after.add_time.Goals as goal

pub returns : goal.returns
returns c = made_added (IsNumberText c.args.digits (value c.args.t.now)) c.put_time_before-from.ensures (omega arith) c.add_text.ensures
