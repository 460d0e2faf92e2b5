use Rattle.std.proofs.Common.{◌-◌}
use Rattle.atom_lines.specs.Steps.{StaysTo}
use Rattle.atom_lines.proofs.way.stay_of_one.Given as goal

abbrev pub invariant-loop-at : goal.invariant-loop-at
invariant-loop-at l = StaysTo l.atom l.trace l.r l.last l.at l.step.gap l.step.next

abbrev pub decreases-loop-at : goal.decreases-loop-at
decreases-loop-at l = l.last - l.at
