use Rattle.std.proofs.Common.{◌+◌, ◌-◌, ◌≤◌, drop, length}
use Rattle.time_sets.specs.Sets.{has}
use Rattle.time_sets.specs.Merging.{joined}
use Rattle.time_sets.proofs.SteppingLemmas.{Merges}
use Rattle.time_sets.proofs.merge.merged.Given as goal

abbrev pub invariant-loop-next : goal.invariant-loop-next
invariant-loop-next l = record {
  merges : Merges l.all l.starts l.now l.turns.items l.left l.right (drop l.i l.p.turns.items) (drop l.k l.q.turns.items)
      l.p.turns.items l.q.turns.items
      (λ t. joined l.all (has l.p t) (has l.q t));
  left_in : l.i ≤ length l.p.turns.items;
  right_in : l.k ≤ length l.q.turns.items;
}

abbrev pub decreases-loop-next : goal.decreases-loop-next
decreases-loop-next l = (length l.p.turns.items - l.i) + (length l.q.turns.items - l.k)
