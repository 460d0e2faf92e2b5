use Rattle.std.proofs.Common.{take}
use Rattle.frac128.specs.Cuts.{place}
use Rattle.growing_sets.specs.Steps.{BySome}
use Rattle.growing_sets.specs.Sure.{SeesUpto}
use Rattle.growing_sets.specs.Growing.{Adds}
use Rattle.growing_sets.proofs.sure.add_all_sure.Given as goal

abbrev pub invariant-loop-part : goal.invariant-loop-part
invariant-loop-part l = Adds l.initial.own l.own (BySome (SeesUpto l.w (place l.sure)) (take l.part-index l.parts))
