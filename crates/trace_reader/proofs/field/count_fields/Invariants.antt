use Rattle.std.proofs.Common.{◌≡◌, ◌≤◌, ◌+◌, length, drop}
use Rattle.trace_reader.specs.TraceText.{split}
use Rattle.trace_reader.proofs.field.count_fields.Given as goal

abbrev pub invariant-loop-c : goal.invariant-loop-c
invariant-loop-c l = (l.count ≤ l.c-index + 1) × (l.count + length (split 44 (drop l.c-index l.text)) ≡ length (split 44 l.text) + 1)
