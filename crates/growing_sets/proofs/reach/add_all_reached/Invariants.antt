use Rattle.std.proofs.Common.{take}
use Rattle.growing_sets.specs.Steps.{BySome}
use Rattle.growing_sets.specs.Reaching.{ReachedAt}
use Rattle.growing_sets.specs.Growing.{Adds}
use Rattle.growing_sets.proofs.reach.add_all_reached.Given as goal

abbrev pub invariant-loop-part : goal.invariant-loop-part
invariant-loop-part l = Adds l.initial.own l.own (BySome (ReachedAt l.runs.items l.spans.items) (take l.part-index l.parts))
