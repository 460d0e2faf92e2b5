use Rattle.std.proofs.Common.{◌≡◌, length}
use Rattle.conformance_numbers.proofs.window_extrema_tests.four.Given as goal

abbrev pub invariant-loop-known : goal.invariant-loop-known
invariant-loop-known l = length l.items.items ≡ l.known-index
