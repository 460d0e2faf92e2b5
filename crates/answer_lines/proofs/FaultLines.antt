-- The parts of lines on faults of traces, joined.
use Rattle.std.proofs.Common.{◌≡◌, ℕ, List, ◌++◌, append_assoc, sym}
use Rattle.std.specs.Prelude.{codes, decimal}
use Rattle.stl_syntax.specs.Texts.{newline}
use Rattle.stl_syntax.specs.declared.scale.UnitFault.TheVariants.{Constant}
use Rattle.answer_lines.specs.FaultTexts.{unit_fault_text, unknown_text}

-- parts to the right
pub at_once : (a d c x e f : List ℕ) → (((a ++ d) ++ c) ++ (x ++ e)) ++ f ≡ a ++ (d ++ (c ++ (x ++ (e ++ f))))
at_once a d c x e f = simp append_assoc

with_both : (a d c x e t f : List ℕ) → (((a ++ d) ++ c) ++ ((x ++ e) ++ t)) ++ f ≡ a ++ (d ++ (c ++ (x ++ (e ++ (t ++ f)))))
with_both a d c x e t f = simp append_assoc

-- the line of a constant that is too large in the ticks of the header
pub unit_text : (n i : ℕ)
    → codes "line " ++ (decimal n ++ (codes ": node " ++ (decimal i ++ (codes ": constant out of range" ++ newline)))) ≡ unit_fault_text n (Constant i)
unit_text n i = sym (with_both (codes "line ") (decimal n) (codes ": ") (codes "node ") (decimal i) (codes ": constant out of range") newline)

-- the line of a column that the header lacks
pub column_text : (n : ℕ) (name : List ℕ) → codes "line " ++ (decimal n ++ (codes ": unknown column " ++ (name ++ newline))) ≡ unknown_text n name
column_text n name = sym (at_once (codes "line ") (decimal n) (codes ": ") (codes "unknown column ") name newline)
