use Rattle.std.specs.Vec.{vec_len}
use Rattle.implicants.specs.Upward.{AreAmong}
use Rattle.implicants.proofs.runs.take_out.Given as goal

abbrev pub invariant-loop-runs : goal.invariant-loop-runs
invariant-loop-runs l = AreAmong l.runs.items l.fn.runs.items

abbrev pub decreases-loop-runs : goal.decreases-loop-runs
decreases-loop-runs l = vec_len l.runs
