use Rattle.value_laws.specs.Kinds.{margin_shape}
use Rattle.pl_signal.specs.Plain.{knots_of}
use Rattle.answer_lines.specs.Appended.{AreEach}
use Rattle.answer_lines.specs.Steps.{between, steps_of}
use Rattle.report.specs.TableRows.{IsReady, IsStepRow, rows_text}
use Rattle.report.proofs.table.put_records.Given as goal

abbrev pub invariant-loop-i : goal.invariant-loop-i
invariant-loop-i l = IsReady l.rows × AreEach (IsStepRow l.scale) (between l.from l.i (steps_of (knots_of margin_shape l.s))) (rows_text l.rows)
