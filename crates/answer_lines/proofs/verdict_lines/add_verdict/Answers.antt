use Rattle.std.proofs.Common.{arith}
use Rattle.answer_lines.specs.LineEnds.{line_begin}
use Rattle.answer_lines.proofs.TextsBehind.{add_then, add_as}
use Rattle.answer_lines.proofs.Spans.{end_short, line_is}
use Rattle.answer_lines.proofs.verdict_lines.add_verdict.Goals as goal

pub returns : goal.returns
returns c =
    let v = c.args.v.now in
    let (F, p, few, from) = c.put-comma.ensures in
    let (T, q, some, to) = c.put_new-end.ensures in
    let begin = add_as {v = line_begin v} c.bracket.ensures c.add_byte-from.ensures in
    let comma = c.add_byte-to.ensures in
    let end = c.add_ending.ensures in
    let all = add_then (add_then (add_then (add_then begin from) comma) to) end in (
      _,
      line_is c.args.scale v F T p q,
      omega (arith, all.size, c.add_byte-from.ensures.size, from.size, comma.size, to.size, end.size, few, some, end_short v.on.to_in v.holds),
      all,
    )
