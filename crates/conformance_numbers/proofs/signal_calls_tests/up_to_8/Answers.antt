use Rattle.std.proofs.Common.{pos, subst}
use Rattle.rational.specs.Rational.{whole}
use Rattle.rational.specs.Time.{◌≈◌}
use Rattle.rational.proofs.Order.{same_trans}
use Rattle.conformance_numbers.proofs.signal_calls_tests.up_to_8.Goals as goal

pub returns-clause-begins : goal.returns-clause-begins
returns-clause-begins g c = subst (λ t. t ≈ whole (pos 0)) c.start.ensures.value (same_trans c.in-Equal.ensures c.of.ensures.value)

pub returns-clause-ends : goal.returns-clause-ends
returns-clause-ends g c = subst (λ t. t ≈ whole (pos 8)) c.stop.ensures.value (same_trans c.in-Equal-cmp.ensures c.of-2.ensures.value)
