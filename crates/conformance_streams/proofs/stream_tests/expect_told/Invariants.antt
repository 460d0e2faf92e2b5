use Rattle.std.proofs.Common.{◌≡◌, false}
use Rattle.conformance_streams.proofs.stream_tests.expect_told.Given as goal

-- the reader goes on
abbrev pub invariant-loop : goal.invariant-loop
invariant-loop g l = l.reader.ended ≡ false
