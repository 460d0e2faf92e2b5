use Rattle.std.proofs.Common.{◌++◌, sym, ap, ◌∙◌}
use Rattle.std.specs.Prelude.{codes, decimal}
use Rattle.stl_syntax.specs.Texts.{newline}
use Rattle.command_line.specs.ErrTexts.{formula_fault_text}
use Rattle.command_line.proofs.LineTexts.{expected_text, constant_text}
use Rattle.command_line.proofs.texts.formula_line.Goals as goal

pub returns-in-Expected : goal.returns-in-Expected
returns-in-Expected c =
    c.at_place-in-Expected.ensures ∙ ap (λ m. codes "formula at " ++ (decimal c.in-Expected.at ++ m)) c.expected.ensures
    ∙ expected_text c.in-Expected.at c.in-Expected.what ∙ ap formula_fault_text (sym c.in-Expected.is)

pub returns-in-ConstantTooLarge : goal.returns-in-ConstantTooLarge
returns-in-ConstantTooLarge c =
    c.numbered-in-ConstantTooLarge.ensures ∙ ap (λ k. codes "formula: node " ++ (decimal k ++ (codes ": constant too large" ++ newline))) c.from.ensures
    ∙ constant_text c.in-ConstantTooLarge.node ∙ ap formula_fault_text (sym c.in-ConstantTooLarge.is)
