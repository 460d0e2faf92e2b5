use Rattle.std.proofs.Common.{true, refl}
use Rattle.frac128.specs.Value.{value}
use Rattle.rational.proofs.Order.{le_refl, same_sym}
use Rattle.rational.proofs.TimeLemmas.{room_of_precedes}
use Rattle.online_net.proofs.atom.span_at.Goals as goal

pub invariant_of-result : goal.invariant_of-result
invariant_of-result c = record {
  not_empty = room_of_precedes true (value c.after_tick-at.result.time) (value c.after_tick-at.result.time) (le_refl (value c.after_tick-at.result.time));
}

pub returns-clause-begin : goal.returns-clause-begin
returns-clause-begin c = (same_sym c.after_tick-at.ensures.0, refl)

pub returns-clause-end : goal.returns-clause-end
returns-clause-end c = (c.after_tick-at.ensures.0, refl)
