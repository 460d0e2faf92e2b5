use Rattle.std.proofs.Common.{◌+◌, ◌-◌, ◌≤◌, length}
use Rattle.time_sets.specs.Parts.{left_from}
use Rattle.time_sets.proofs.SeeingLemmas.{SeenSoFar}
use Rattle.time_sets.proofs.times.Times.some.Given as goal

abbrev pub invariant-loop-next : goal.invariant-loop-next
invariant-loop-next l = record {
  seen : SeenSoFar l.on l.w l.self l.end l.made (left_from l.next l.self.turns.items);
  next_in : l.next ≤ length l.self.turns.items + 2;
}

abbrev pub decreases-loop-next : goal.decreases-loop-next
decreases-loop-next l = length l.self.turns.items + 3 - l.next
