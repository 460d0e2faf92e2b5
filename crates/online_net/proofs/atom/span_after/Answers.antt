use Rattle.std.proofs.Common.{refl}
use Rattle.rational.proofs.Order.{same_sym}
use Rattle.online_net.proofs.AtomVerdicts.{room_after}
use Rattle.online_net.proofs.atom.span_after.Goals as goal

pub invariant_of-result : goal.invariant_of-result
invariant_of-result c = record {
  not_empty = room_after c.args.first c.args.last c.after_tick-from.result.time c.after_tick-to.result.time c.requires c.after_tick-from.ensures.0
      c.after_tick-to.ensures.0;
}

pub returns-clause-begin : goal.returns-clause-begin
returns-clause-begin c = (same_sym c.after_tick-from.ensures.0, refl)

pub returns-clause-end : goal.returns-clause-end
returns-clause-end c = (c.after_tick-to.ensures.0, refl)
