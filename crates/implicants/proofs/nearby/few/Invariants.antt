use Rattle.std.proofs.Common.{◌-◌}
use Rattle.value_laws.specs.Kinds.{kleene_shape}
use Rattle.implicants.specs.Nearby.{IsBestSoFar}
use Rattle.implicants.proofs.nearby.few.Given as goal

abbrev pub invariant-loop-j : goal.invariant-loop-j
invariant-loop-j l = IsBestSoFar kleene_shape l.runs l.view l.chain

abbrev pub decreases-loop-j : goal.decreases-loop-j
decreases-loop-j l = l.to - l.j
