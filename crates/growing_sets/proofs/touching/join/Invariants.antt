use Rattle.std.proofs.Common.{◌<◌, length}
use Rattle.growing_sets.proofs.StretchesJoin.{Absorbing}
use Rattle.growing_sets.proofs.SpanLemmas.{without}
use Rattle.growing_sets.proofs.touching.join.Given as goal

abbrev pub invariant-loop-next : goal.invariant-loop-next
invariant-loop-next l = record {
  joins : Absorbing l.at l.part l.joined l.seen l.fn.spans.items (without l.spans.items l.at) l.fn.fresh.items l.fresh.items;
  within : l.at < length l.spans.items;
}

abbrev pub decreases-loop-next : goal.decreases-loop-next
decreases-loop-next l = length l.spans.items
