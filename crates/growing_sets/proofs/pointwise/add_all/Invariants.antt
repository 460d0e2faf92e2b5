use Rattle.std.proofs.Common.{take}
use Rattle.growing_sets.specs.Spans.{Lies}
use Rattle.growing_sets.specs.Steps.{BySome}
use Rattle.growing_sets.specs.Growing.{Adds}
use Rattle.growing_sets.proofs.pointwise.add_all.Given as goal

abbrev pub invariant-loop-part : goal.invariant-loop-part
invariant-loop-part l = Adds l.initial.own l.own (BySome Lies (take l.part-index l.parts))
