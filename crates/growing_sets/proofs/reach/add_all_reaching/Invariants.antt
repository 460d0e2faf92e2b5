use Rattle.std.proofs.Common.{take}
use Rattle.frac128.specs.Cuts.{place}
use Rattle.growing_sets.specs.Steps.{BySome}
use Rattle.growing_sets.specs.Reaching.{ReachesAt}
use Rattle.growing_sets.specs.Growing.{Adds}
use Rattle.growing_sets.proofs.reach.add_all_reaching.Given as goal

abbrev pub invariant-loop-part : goal.invariant-loop-part
invariant-loop-part l = Adds l.initial.own l.own (BySome (ReachesAt l.runs.items l.spans.items (place l.sure)) (take l.part-index l.parts))
