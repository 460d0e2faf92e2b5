use Rattle.std.proofs.Common.{◌≤◌, ◌-◌, length, take}
use Rattle.frac128.specs.Cuts.{place}
use Rattle.growing_sets.specs.Growing.{Adds}
use Rattle.growing_sets.specs.Steps.{BySome}
use Rattle.growing_sets.specs.Reaching.{ReachesBy}
use Rattle.growing_sets.proofs.reach.add_reaching_between.Given as goal

abbrev pub invariant-loop-next : goal.invariant-loop-next
invariant-loop-next l = record {
  within : l.at ≤ length l.spans.items;
  adds : Adds l.initial.own l.own (BySome (ReachesBy l.runs.items l.spans.items (place l.before) (place l.sure)) (take l.at l.spans.items));
}

abbrev pub decreases-loop-next : goal.decreases-loop-next
decreases-loop-next l = length l.spans.items - l.at
