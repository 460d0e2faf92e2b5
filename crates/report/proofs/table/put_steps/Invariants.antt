use Rattle.std.proofs.Common.{◌≤◌, ◌-◌, take}
use Rattle.value_laws.specs.Kinds.{margin_shape}
use Rattle.pl_signal.specs.Plain.{knots_of}
use Rattle.answer_lines.specs.Appended.{Grew, AreEach}
use Rattle.answer_lines.specs.Steps.{steps_of}
use Rattle.report.specs.TableRows.{IsStepRow}
use Rattle.report.proofs.table.put_steps.Given as goal

abbrev pub invariant-loop-from : goal.invariant-loop-from
invariant-loop-from l = (l.from ≤ l.last) × Grew (AreEach (IsStepRow l.scale) (take l.from (steps_of (knots_of margin_shape l.s)))) l.initial.text l.text

abbrev pub decreases-loop-from : goal.decreases-loop-from
decreases-loop-from l = l.last - l.from
