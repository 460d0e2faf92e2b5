use Rattle.std.proofs.Common.{◌++◌, sym, ap, ◌∙◌}
use Rattle.std.specs.Prelude.{codes, decimal}
use Rattle.stl_syntax.specs.Texts.{newline}
use Rattle.answer_lines.specs.FaultTexts.{unit_fault_text}
use Rattle.answer_lines.proofs.FaultLines.{unit_text}
use Rattle.answer_lines.proofs.fault.unit_fault_line.Goals as goal

pub returns-in-Constant : goal.returns-in-Constant
returns-in-Constant c =
    c.with_number.ensures ∙ ap
    (λ k. codes "line " ++ (decimal c.args.line ++ (codes ": node " ++ (decimal k ++ (codes ": constant out of range" ++ newline))))) c.from.ensures
    ∙ unit_text c.args.line c.in-Constant.node ∙ ap (unit_fault_text c.args.line) (sym c.in-Constant.is)
