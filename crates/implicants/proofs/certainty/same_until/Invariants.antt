use Rattle.std.proofs.Common.{◌-◌}
use Rattle.implicants.specs.SameCells.{IsSameUntil}
use Rattle.implicants.proofs.certainty.same_until.Given as goal

abbrev pub invariant-loop-e : goal.invariant-loop-e
invariant-loop-e l = IsSameUntil l.cells.all.items l.left l.kept l.value l.c l.to l.e

abbrev pub decreases-loop-e : goal.decreases-loop-e
decreases-loop-e l = l.to - l.e
