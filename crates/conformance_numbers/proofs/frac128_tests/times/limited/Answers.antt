use Rattle.std.proofs.Common.{arith, ◌^◌}
use Rattle.std.proofs.lemmas.Int.{ints}
use Rattle.frac128.proofs.Fractions.{within_of_whole}
use Rattle.conformance_numbers.proofs.frac128_tests.times.limited.Goals as goal

pub returns : goal.returns
returns g c = within_of_whole (2 ^ 32) c.fraction-f.result (omega (arith, ints)) (omega (arith, ints))
