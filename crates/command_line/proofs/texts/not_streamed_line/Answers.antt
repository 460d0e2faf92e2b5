use Rattle.std.proofs.Common.{◌++◌, ap, ◌∙◌}
use Rattle.std.specs.Prelude.{codes, decimal}
use Rattle.stl_syntax.specs.Texts.{newline}
use Rattle.command_line.proofs.LineTexts.{not_streamed_line_text}
use Rattle.command_line.proofs.texts.not_streamed_line.Goals as goal

pub returns : goal.returns
returns c =
    c.numbered.ensures ∙ ap (λ k. codes "formula: node " ++ (decimal k ++ (codes " not streamed" ++ newline))) c.from.ensures
    ∙ not_streamed_line_text c.args.node
