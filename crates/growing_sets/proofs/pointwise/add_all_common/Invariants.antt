use Rattle.std.proofs.Common.{take}
use Rattle.growing_sets.specs.Steps.{BySome, Common}
use Rattle.growing_sets.specs.Growing.{Adds}
use Rattle.growing_sets.proofs.pointwise.add_all_common.Given as goal

abbrev pub invariant-loop-part : goal.invariant-loop-part
invariant-loop-part l = Adds l.initial.own l.own (BySome (Common l.spans.items) (take l.part-index l.parts))
