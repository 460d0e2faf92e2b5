use Rattle.std.proofs.lemmas.Result.{on_err_weaker}
use Rattle.stl_syntax.specs.Texts.{IsVerdictLine}
use Rattle.answer_lines.proofs.Growths.{part_none}
use Rattle.answer_lines.proofs.verdict.put_verdict.Goals as goal

pub returns-clause-err : goal.returns-clause-err
returns-clause-err c =
    let (line, is, few, added) = c.add_verdict-end.ensures in
    on_err_weaker c.push.result (part_none (IsVerdictLine c.args.scale c.args.v.now) c.args.text.now c.push.new.self (line, is)) c.push.ensures.err
