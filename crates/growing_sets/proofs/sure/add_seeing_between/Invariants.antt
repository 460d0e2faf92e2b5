use Rattle.std.proofs.Common.{◌≤◌, ◌-◌, length, take}
use Rattle.frac128.specs.Cuts.{place}
use Rattle.growing_sets.specs.Growing.{Adds}
use Rattle.growing_sets.specs.Steps.{BySome}
use Rattle.growing_sets.specs.Sure.{SeesWithin}
use Rattle.growing_sets.proofs.sure.add_seeing_between.Given as goal

abbrev pub invariant-loop-next : goal.invariant-loop-next
invariant-loop-next l = record {
  within : l.at ≤ length l.spans.items;
  adds : Adds l.initial.own l.own (BySome (SeesWithin l.w (place l.from) (place l.to)) (take l.at l.spans.items));
}

abbrev pub decreases-loop-next : goal.decreases-loop-next
decreases-loop-next l = length l.spans.items - l.at
