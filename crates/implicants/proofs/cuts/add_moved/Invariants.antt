use Rattle.std.proofs.Common.{take}
use Rattle.frac128.specs.Value.{value}
use Rattle.implicants.specs.Cuts.{times_of, Adds, IsMoved}
use Rattle.implicants.proofs.cuts.add_moved.Given as goal

abbrev pub invariant-loop-t : goal.invariant-loop-t
invariant-loop-t l = Adds (IsMoved (value l.from) (value l.to) (times_of (take l.t-index l.parent)) l.fn.by) (times_of l.fn.times.items)
    (times_of l.times.items)
