use Rattle.std.proofs.Common.{◌≡◌, ◌-◌, ◌++◌, ℕ, List}
use Rattle.value_laws.specs.Kinds.{margin_shape}
use Rattle.answer_lines.specs.Appended.{Grew}
use Rattle.answer_lines.proofs.MarginTexts.{AreMarginsTo}
use Rattle.answer_lines.proofs.margin.put_margins.Given as goal

abbrev pub invariant-loop-i : goal.invariant-loop-i
invariant-loop-i l =
    Grew (AreMarginsTo margin_shape l.scale l.s (l.i - 1)) l.initial.text (l.text ++ l.lines) × ((front : List ℕ) × (l.text ≡ l.initial.text ++ front))
