use Rattle.std.proofs.Common.{[], refl}
use Rattle.written_streams.proofs.watch.Watch.new.Goals as goal

pub invariant_of-result : goal.invariant_of-result
invariant_of-result c = λ _. (
  record { formula = c.args.formula; limits = c.args.limits; bytes = []; text = [] },
  record {
    phase = refl;
    formula = c.in_ok-live.ensures.formula;
    limits = c.in_ok-live.ensures.limits;
    empty = c.in_ok-live.ensures.empty;
    live = c.in_ok-live.ensures.live;
  },
)
