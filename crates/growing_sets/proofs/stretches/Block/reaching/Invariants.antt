use Rattle.std.proofs.Common.{◌≤◌, ◌-◌, length, take, drop}
use Rattle.frac128.specs.Cuts.{place}
use Rattle.growing_sets.specs.Spans.{EndBefore, NoneEndsBefore}
use Rattle.growing_sets.proofs.stretches.Block.reaching.Given as goal

abbrev pub invariant-loop-low : goal.invariant-loop-low
invariant-loop-low l = record {
  order : l.low ≤ l.high;
  within : l.high ≤ length l.self.ring.items;
  front : EndBefore (place l.cut) (take l.low l.self.ring.items);
  rest : NoneEndsBefore (place l.cut) (drop l.high l.self.ring.items);
}

abbrev pub decreases-loop-low : goal.decreases-loop-low
decreases-loop-low l = l.high - l.low
