use Rattle.std.proofs.lemmas.Result.{on_err_weaker}
use Rattle.answer_lines.specs.PartLines.{IsGapLine}
use Rattle.answer_lines.proofs.Growths.{part_none}
use Rattle.answer_lines.proofs.part.put_gap.Goals as goal

pub returns-clause-err : goal.returns-clause-err
returns-clause-err c =
    let (line, is, few, added) = c.add_gap-end.ensures in
    on_err_weaker c.push.result
    (part_none (IsGapLine c.args.scale c.args.from.now c.args.to.now c.args.piece.now) c.args.text.now c.push.new.self (line, is)) c.push.ensures.err
