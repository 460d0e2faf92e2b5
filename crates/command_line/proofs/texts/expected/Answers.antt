use Rattle.std.proofs.Common.{◌++◌, sym, ap}
use Rattle.std.specs.Prelude.{codes}
use Rattle.stl_syntax.specs.Texts.{newline}
use Rattle.command_line.specs.ErrTexts.{what_text}
use Rattle.command_line.proofs.texts.expected.Goals as goal

pub returns-in-Bracket : goal.returns-in-Bracket
returns-in-Bracket c = ap (λ w. codes ": expected " ++ what_text w ++ newline) (sym c.in-Bracket.is)

pub returns-in-Paren : goal.returns-in-Paren
returns-in-Paren c = ap (λ w. codes ": expected " ++ what_text w ++ newline) (sym c.in-Paren.is)

pub returns-in-End : goal.returns-in-End
returns-in-End c = ap (λ w. codes ": expected " ++ what_text w ++ newline) (sym c.in-End.is)
