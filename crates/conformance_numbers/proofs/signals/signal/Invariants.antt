use Rattle.std.proofs.Common.{◌≡◌}
use Rattle.frac128.specs.Value.{value}
use Rattle.pl_signal.specs.Knots.{stop}
use Rattle.conformance_numbers.proofs.signals.signal.Given as goal

abbrev pub invariant-loop-after : goal.invariant-loop-after
invariant-loop-after g l = stop l.built ≡ value l.last
