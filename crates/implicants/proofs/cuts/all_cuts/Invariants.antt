use Rattle.implicants.proofs.HandedDown.{AreCutsTo}
use Rattle.implicants.proofs.cuts.all_cuts.Given as goal

abbrev pub invariant-loop-depth : goal.invariant-loop-depth
invariant-loop-depth l = AreCutsTo l.formula.nodes l.trace l.depth l.done.items l.count
