use Rattle.std.proofs.lemmas.Result.{on_err_weaker}
use Rattle.rational.specs.Extended.{value_at}
use Rattle.frac128.specs.Value.{value}
use Rattle.value_laws.specs.Margins.{margin_function}
use Rattle.stl_syntax.specs.Texts.{IsKnotLine}
use Rattle.answer_lines.proofs.Growths.{part_none}
use Rattle.answer_lines.proofs.part.put_point.Goals as goal

pub returns-clause-err : goal.returns-clause-err
returns-clause-err c =
    let t = value c.args.at.now in
    let (line, is, few, added) = c.add_point-end.ensures in
    on_err_weaker c.push.result
    (part_none (IsKnotLine c.args.scale (record { time = t; value = value_at (margin_function c.args.value.now) t })) c.args.text.now c.push.new.self
    (line, is)) c.push.ensures.err
