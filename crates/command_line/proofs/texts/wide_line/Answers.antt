use Rattle.std.proofs.Common.{◌++◌, ap, ◌∙◌}
use Rattle.std.specs.Prelude.{codes, decimal}
use Rattle.stl_syntax.specs.Texts.{newline}
use Rattle.command_line.proofs.LineTexts.{wide_line_text}
use Rattle.command_line.proofs.texts.wide_line.Goals as goal

pub returns : goal.returns
returns c =
    ap (λ k. codes "wide: node " ++ (decimal k ++ (codes " needs denominator " ++ (decimal c.args.den ++ newline)))) c.from.ensures
    ∙ wide_line_text c.args.node c.args.den
