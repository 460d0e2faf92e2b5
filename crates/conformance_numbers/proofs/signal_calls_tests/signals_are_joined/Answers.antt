use Rattle.rational.proofs.Order.{same_sym, same_trans}
use Rattle.conformance_numbers.proofs.signal_calls_tests.signals_are_joined.Goals as goal

pub lower-requires-clause-ends : goal.lower-requires-clause-ends
lower-requires-clause-ends g c = same_trans c.early-p.ensures.ends (same_sym c.middle-q.ensures.ends)

pub upper-requires-clause-ends : goal.upper-requires-clause-ends
upper-requires-clause-ends g c = same_trans c.early-p.ensures.ends (same_sym c.middle-q.ensures.ends)

pub until_to_end-requires-clause-ends : goal.until_to_end-requires-clause-ends
until_to_end-requires-clause-ends g c = same_trans c.early-p.ensures.ends (same_sym c.middle-q.ensures.ends)

pub since_from_start-requires-clause-ends : goal.since_from_start-requires-clause-ends
since_from_start-requires-clause-ends g c = same_trans c.middle-q.ensures.ends (same_sym c.early-p.ensures.ends)
