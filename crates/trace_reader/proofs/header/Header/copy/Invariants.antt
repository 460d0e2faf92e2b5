use Rattle.std.proofs.Common.{◌≡◌, map, take}
use Rattle.trace_reader.specs.Labels.{column_of}
use Rattle.trace_reader.proofs.header.Header.copy.Given as goal

abbrev pub invariant-loop-label : goal.invariant-loop-label
invariant-loop-label l = map column_of l.labels.items ≡ map column_of (take l.label-index l.self-inside.labels.items)
