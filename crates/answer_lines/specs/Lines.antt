-- A line in its parts.
use Rattle.std.specs.Prelude.{ℕ, List, [], ◌++◌, decimal, Option, Some, None}
use Rattle.answer_lines.specs.declared.line.Line.{Line}
use Rattle.answer_lines.specs.declared.line.Detail.{Detail}
use Rattle.answer_lines.specs.declared.line.Detail.TheVariants.{Nothing, Number, Large, Name}

-- a number that may be missing
abbrev pub number_text : Option ℕ → List ℕ
number_text None = []
number_text (Some n) = decimal n

-- a number or a name
abbrev pub detail_text : Detail → List ℕ
detail_text Nothing = []
detail_text (Number n) = decimal n
detail_text (Large n) = decimal n
detail_text (Name name) = name.now

-- the parts in order
abbrev pub line_text : Line → List ℕ
line_text l = l.head.now ++ (number_text l.number ++ (l.middle.now ++ (detail_text l.detail ++ l.tail.now)))
