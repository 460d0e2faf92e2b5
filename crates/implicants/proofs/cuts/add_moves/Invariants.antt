use Rattle.std.proofs.Common.{take}
use Rattle.frac128.specs.Value.{value}
use Rattle.implicants.specs.Cuts.{times_of, Adds, IsMovedBy}
use Rattle.implicants.proofs.cuts.add_moves.Given as goal

abbrev pub invariant-loop-k : goal.invariant-loop-k
invariant-loop-k l = Adds (IsMovedBy (value l.from) (value l.to) (times_of l.parent) (take l.k l.moves)) (times_of l.fn.times.items) (times_of l.times.items)
