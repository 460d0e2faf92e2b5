use Rattle.std.proofs.Common.{◌+◌, ◌-◌, ◌≤◌, length}
use Rattle.time_sets.specs.Parts.{left_from}
use Rattle.time_sets.proofs.ReachLemmas.{ReachedSoFar}
use Rattle.time_sets.proofs.times.Times.reach.Given as goal

abbrev pub invariant-loop-i : goal.invariant-loop-i
invariant-loop-i l = record {
  reached : ReachedSoFar l.on l.w l.self l.q l.end l.made (left_from l.i l.self.turns.items) (left_from l.k l.q.turns.items);
  run_in : l.i ≤ length l.self.turns.items + 2;
  part_in : l.k ≤ length l.q.turns.items + 2;
}

abbrev pub decreases-loop-i : goal.decreases-loop-i
decreases-loop-i l = (length l.self.turns.items + 3 - l.i) + (length l.q.turns.items + 3 - l.k)
