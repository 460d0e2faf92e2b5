use Rattle.std.proofs.Common.{refl, arith}
use Rattle.frac128.specs.Value.{value}
use Rattle.answer_lines.proofs.TextsBefore.{put_as}
use Rattle.answer_lines.proofs.Spans.{number_text}
use Rattle.answer_lines.proofs.time_text.put_time_before.Goals as goal

pub returns-in-Some : goal.returns-in-Some
returns-in-Some c = (_, c.in-Some.ensures, put_as refl (omega arith) c.put_small.ensures)

pub returns-in-None : goal.returns-in-None
returns-in-None c = (
  _,
  number_text c.args.digits (value c.args.t.now) c.in_units.result.negative c.in_units.result.size c.in_units.result.den c.in_units.ensures,
  c.put_lowest.ensures,
)
