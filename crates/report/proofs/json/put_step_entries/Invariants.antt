use Rattle.std.proofs.Common.{◌≡◌, ℕ, List, ◌++◌, take}
use Rattle.value_laws.specs.Kinds.{margin_shape}
use Rattle.pl_signal.specs.Plain.{knots_of}
use Rattle.answer_lines.specs.Appended.{Grew, AreEach}
use Rattle.report.specs.JsonTexts.{IsStepEntry}
use Rattle.answer_lines.specs.Steps.{steps_of}
use Rattle.report.proofs.json.put_step_entries.Given as goal

abbrev pub invariant-loop-i : goal.invariant-loop-i
invariant-loop-i l =
    Grew (AreEach (IsStepEntry l.scale) (take l.i (steps_of (knots_of margin_shape l.s)))) l.initial.text (l.text ++ l.waiting)
    × ((front : List ℕ) × (l.text ≡ l.initial.text ++ front))
