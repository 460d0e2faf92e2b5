use Rattle.std.proofs.Common.{length}
use Rattle.frac128.specs.Value.{value}
use Rattle.implicants.specs.Cuts.{times_of, cuts_at, Adds}
use Rattle.implicants.proofs.HandedDown.{IsHandedBefore}
use Rattle.implicants.proofs.cuts.add_handed_down.Given as goal

abbrev pub invariant-loop-j : goal.invariant-loop-j
invariant-loop-j l =
    Adds (IsHandedBefore l.formula.nodes (value l.from) (value l.to) (cuts_at (length l.formula.nodes) l.done) l.i l.j) (times_of l.fn.times.items)
    (times_of l.times.items)
