use Rattle.std.proofs.Common.{◌++◌, codes, ap, sym}
use Rattle.stl_syntax.specs.Texts.{bool_text, newline}
use Rattle.answer_lines.proofs.TextsBehind.{add_as}
use Rattle.answer_lines.proofs.verdict_lines.add_open.Goals as goal

pub returns-then-holds : goal.returns-then-holds
returns-then-holds c = add_as (ap (λ b. codes ") " ++ bool_text b ++ newline) (sym c.if-holds.true)) c.add_part.ensures

pub returns-else-holds : goal.returns-else-holds
returns-else-holds c = add_as (ap (λ b. codes ") " ++ bool_text b ++ newline) (sym c.if-holds.false)) c.add_part-else-holds.ensures
