-- The one line on the error stream, for each way in which a command can fail.
use Rattle.std.specs.Prelude.{ℕ, List, ◌++◌, codes, decimal}
use Rattle.stl_syntax.specs.Texts.{newline}
use Rattle.stl_grammar.specs.declared.fault.What.{What}
use Rattle.stl_grammar.specs.declared.fault.What.TheVariants.{Operand, Number, Comma, Bracket, Star, Name, Term, Relation, Constant, Paren, End}
use Rattle.stl_grammar.specs.declared.fault.FormulaFault.{FormulaFault}
use Rattle.stl_grammar.specs.declared.fault.FormulaFault.TheVariants as formula
pub use Rattle.answer_lines.specs.FaultTexts.{out_of_memory, in_line, in_field, kind_text, trace_fault_text, unknown_text, unit_fault_text}

-- what is expected, in words
abbrev pub what_text : What → List ℕ
what_text Operand = codes "an operand"
what_text Number = codes "a number"
what_text Comma = codes "a comma"
what_text Bracket = codes "a closing bracket"
what_text Star = codes "a star"
what_text Name = codes "a name"
what_text Term = codes "a term"
what_text Relation = codes "a relation"
what_text Constant = codes "a constant"
what_text Paren = codes "a closing parenthesis"
what_text End = codes "a connective or the end"

-- a message about a place of the formula
abbrev pub at_place : ℕ → List ℕ → List ℕ
at_place p message = codes "formula at " ++ decimal p ++ codes ": " ++ message ++ newline

-- a message about the formula as a whole
abbrev pub of_formula : List ℕ → List ℕ
of_formula message = codes "formula: " ++ message ++ newline

-- the line of each refusal of a formula
abbrev pub formula_fault_text : FormulaFault → List ℕ
formula_fault_text formula.Empty = of_formula (codes "empty")
formula_fault_text (formula.BadByte p) = at_place p (codes "bad byte")
formula_fault_text (formula.Expected p what) = at_place p (codes "expected " ++ what_text what)
formula_fault_text (formula.BadNumber p) = at_place p (codes "number too large")
formula_fault_text (formula.BoundOrder p) = at_place p (codes "bounds out of order")
formula_fault_text (formula.UnboundedFuture p) = at_place p (codes "unbounded future")
formula_fault_text (formula.TooManyTerms p) = at_place p (codes "more than 4 terms")
formula_fault_text (formula.TooLong n) = of_formula (decimal n ++ codes " bytes")
formula_fault_text (formula.TooDeep p) = at_place p (codes "nested deeper than 64")
formula_fault_text (formula.TooManyNodes p) = at_place p (codes "more than 256 nodes")
formula_fault_text (formula.ReachTooLarge n) = of_formula (codes "bounds sum to " ++ decimal n)
formula_fault_text (formula.ConstantTooLarge i) = of_formula (codes "node " ++ decimal i ++ codes ": constant too large")
formula_fault_text formula.Memory = out_of_memory

-- the first node that a stream of margins can't serve
abbrev pub not_streamed_text : ℕ → List ℕ
not_streamed_text i = of_formula (codes "node " ++ decimal i ++ codes " not streamed")

-- the node that needs too large a denominator
abbrev pub wide_text : ℕ → ℕ → List ℕ
wide_text i den = codes "wide: node " ++ decimal i ++ codes " needs denominator " ++ decimal den ++ newline

-- an explanation with too many cells
abbrev pub too_many_cells_text : ℕ → List ℕ
too_many_cells_text n = codes "too many cells: " ++ decimal n ++ newline

-- the input failed
abbrev pub read_fault : List ℕ
read_fault = codes "read fault" ++ newline

-- the output failed
abbrev pub write_fault : List ℕ
write_fault = codes "write fault" ++ newline
