use Rattle.std.proofs.Common.{subst, sym}
use Rattle.std.specs.Prelude.{OnErr}
use Rattle.answer_lines.specs.Appended.{GrewInPart}
use Rattle.answer_lines.specs.PartLines.{IsPartLine}
use Rattle.answer_lines.specs.declared.part.MarginPart.{MarginPart}
use Rattle.answer_lines.proofs.part.put_margin_line_after.Goals as goal

pub returns-in-Point-clause-err : goal.returns-in-Point-clause-err
returns-in-Point-clause-err c =
    subst (λ (l : MarginPart). OnErr c.put_point.result (GrewInPart (IsPartLine c.args.scale l) c.args.text.now c.put_point.new.text))
    (sym c.in-Point.is) c.put_point.ensures.err

pub returns-in-Gap-clause-err : goal.returns-in-Gap-clause-err
returns-in-Gap-clause-err c =
    subst (λ (l : MarginPart). OnErr c.put_gap.result (GrewInPart (IsPartLine c.args.scale l) c.args.text.now c.put_gap.new.text))
    (sym c.in-Gap.is) c.put_gap.ensures.err
