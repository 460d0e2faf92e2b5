use Rattle.std.proofs.Common.{take}
use Rattle.frac128.specs.Cuts.{place}
use Rattle.growing_sets.specs.Steps.{BySome, IsPast}
use Rattle.growing_sets.specs.Growing.{Adds}
use Rattle.growing_sets.proofs.pointwise.add_all_past.Given as goal

abbrev pub invariant-loop-part : goal.invariant-loop-part
invariant-loop-part l = Adds l.initial.own l.own (BySome (IsPast (place l.cut)) (take l.part-index l.parts))
