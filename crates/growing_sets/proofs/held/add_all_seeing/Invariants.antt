use Rattle.std.proofs.Common.{take}
use Rattle.growing_sets.specs.Windows.{SeesPart}
use Rattle.growing_sets.specs.Steps.{BySome}
use Rattle.growing_sets.specs.Growing.{Adds}
use Rattle.growing_sets.proofs.held.add_all_seeing.Given as goal

abbrev pub invariant-loop-part : goal.invariant-loop-part
invariant-loop-part l = Adds l.initial.own l.own (BySome (SeesPart l.w) (take l.part-index l.parts))
