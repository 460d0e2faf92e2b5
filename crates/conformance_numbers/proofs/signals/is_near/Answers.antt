use Rattle.rational.proofs.Order.{le_trans, le_of_same, ge_of_same}
use Rattle.pl_signal.proofs.SampleLemmas.{not_later}
use Rattle.conformance_numbers.proofs.signals.is_near.Goals as goal

pub returns : goal.returns
returns c = λ t. (
  le_trans (ge_of_same c.of-low.ensures.value) (not_later c.cmp.result c.cmp.ensures c.in_default.not-Greater),
  le_trans (not_later c.cmp-2.result c.cmp-2.ensures c.in_default-cmp.not-Greater) (le_of_same c.of-high.ensures.value),
)
