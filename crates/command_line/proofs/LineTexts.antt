-- The parts of lines for the error stream, joined.
use Rattle.std.proofs.Common.{◌≡◌, ℕ, List, ◌++◌, append_assoc, sym, ap, ◌∙◌}
use Rattle.std.specs.Prelude.{codes, decimal}
use Rattle.stl_syntax.specs.Texts.{newline}
use Rattle.stl_grammar.specs.declared.fault.What.{What}
use Rattle.stl_grammar.specs.declared.fault.FormulaFault.TheVariants.{Expected, ConstantTooLarge}
use Rattle.command_line.specs.ErrTexts.{what_text, formula_fault_text, not_streamed_text, wide_text}
use Rattle.answer_lines.proofs.FaultLines.{at_once}

with_tail : (a x d t f : List ℕ) → (a ++ ((x ++ d) ++ t)) ++ f ≡ a ++ (x ++ (d ++ (t ++ f)))
with_tail a x d t f = simp append_assoc

expected_whole : (p : ℕ) (t : List ℕ) → codes "formula at " ++ (decimal p ++ ((codes ": expected " ++ t) ++ newline))
    ≡ (((codes "formula at " ++ decimal p) ++ codes ": ") ++ (codes "expected " ++ t)) ++ newline
expected_whole p t =
    ap (λ m. codes "formula at " ++ (decimal p ++ m)) (append_assoc (codes ": expected ") t newline)
    ∙ sym (at_once (codes "formula at ") (decimal p) (codes ": ") (codes "expected ") t newline)

-- the parts of the line of what was expected
pub expected_text : (p : ℕ) (w : What)
    → codes "formula at " ++ (decimal p ++ (codes ": expected " ++ what_text w ++ newline)) ≡ formula_fault_text (Expected p w)
expected_text p w = expected_whole p (what_text w)

-- the parts of the line of a constant that is too large
pub constant_text : (i : ℕ) → codes "formula: node " ++ (decimal i ++ (codes ": constant too large" ++ newline)) ≡ formula_fault_text (ConstantTooLarge i)
constant_text i = sym (with_tail (codes "formula: ") (codes "node ") (decimal i) (codes ": constant too large") newline)

-- the parts of the line of a node that has no stream
pub not_streamed_line_text : (i : ℕ) → codes "formula: node " ++ (decimal i ++ (codes " not streamed" ++ newline)) ≡ not_streamed_text i
not_streamed_line_text i = sym (with_tail (codes "formula: ") (codes "node ") (decimal i) (codes " not streamed") newline)

in_row : (a d b e f : List ℕ) → (((a ++ d) ++ b) ++ e) ++ f ≡ a ++ (d ++ (b ++ (e ++ f)))
in_row a d b e f = simp append_assoc

-- the parts of the line of a denominator that is too large
pub wide_line_text : (i den : ℕ) → codes "wide: node " ++ (decimal i ++ (codes " needs denominator " ++ (decimal den ++ newline))) ≡ wide_text i den
wide_line_text i den = sym (in_row (codes "wide: node ") (decimal i) (codes " needs denominator ") (decimal den) newline)
