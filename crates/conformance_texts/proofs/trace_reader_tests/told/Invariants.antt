use Rattle.std.proofs.Common.{◌≡◌, false}
use Rattle.conformance_texts.proofs.trace_reader_tests.told.Given as goal

abbrev pub invariant-loop : goal.invariant-loop
invariant-loop l = l.reader.ended ≡ false
