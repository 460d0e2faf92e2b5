use Rattle.std.proofs.Common.{take}
use Rattle.frac128.specs.Cuts.{place}
use Rattle.growing_sets.specs.Steps.{BySome, HeldAt}
use Rattle.growing_sets.specs.Growing.{Adds}
use Rattle.growing_sets.proofs.held.add_all_held.Given as goal

abbrev pub invariant-loop-part : goal.invariant-loop-part
invariant-loop-part l = Adds l.initial.own l.own (BySome (HeldAt l.w (place l.start) l.spans.items) (take l.part-index l.parts))
