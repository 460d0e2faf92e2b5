use Rattle.std.proofs.Common.{◌≤◌, ◌-◌, length, take}
use Rattle.growing_sets.specs.Growing.{Adds}
use Rattle.growing_sets.specs.Steps.{BySome}
use Rattle.growing_sets.proofs.BetweenLemmas.{Shares}
use Rattle.growing_sets.proofs.pointwise.add_common.Given as goal

abbrev pub invariant-loop-next : goal.invariant-loop-next
invariant-loop-next l = record {
  within : l.at ≤ length l.spans.items;
  adds : Adds l.initial.own l.own (BySome (Shares l.part) (take l.at l.spans.items));
}

abbrev pub decreases-loop-next : goal.decreases-loop-next
decreases-loop-next l = length l.spans.items - l.at
